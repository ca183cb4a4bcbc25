-- The fields of a build's file, and where each stands in the two layouts.
use Rattle.std.specs.Prelude.{ℕ, ◌*◌, nat_lt, ℤ, pos, Bool, not, ◌&&◌, if◌then◌else◌, List, [], Option, Some, is_some, codes}
use Rattle.std.specs.Int.{cast_unsigned, w16}
use Rattle.std.specs.Ordering.{int_eq}
use Rattle.nbt.specs.Plain.{PlainTree, PlainFields, no_fields, short, int, bytes, ints, compound}
use Rattle.nbt.specs.Named.{last_named}
use Rattle.schematic.specs.declared.FieldName.{FieldName}
use Rattle.schematic.specs.declared.FieldName.TheVariants.{Schematic, Version, Width, Height, Length, Blocks, Palette, BlockData, Data, Metadata, RedpilePending}

-- a field's name as it stands in the file
abbrev pub text_of : FieldName → List ℕ
text_of Schematic = codes "Schematic"
text_of Version = codes "Version"
text_of Width = codes "Width"
text_of Height = codes "Height"
text_of Length = codes "Length"
text_of Blocks = codes "Blocks"
text_of Palette = codes "Palette"
text_of BlockData = codes "BlockData"
text_of Data = codes "Data"
text_of Metadata = codes "Metadata"
text_of RedpilePending = codes "RedpilePending"

-- what the last field of that name holds
abbrev pub held : FieldName → PlainFields → Option PlainTree
held name fs = last_named (text_of name) fs

abbrev pub has : FieldName → PlainFields → Bool
has name fs = is_some (held name fs)

-- What a tree of one kind holds. Another kind, or none, holds nothing.

abbrev pub fields_in : Option PlainTree → PlainFields
fields_in (Some (compound fs)) = fs
fields_in _ = no_fields

abbrev pub int_in : Option PlainTree → ℤ
int_in (Some (int number)) = number
int_in _ = pos 0

-- a Short, read as unsigned
abbrev pub size_in : Option PlainTree → ℕ
size_in (Some (short number)) = cast_unsigned w16 number
size_in _ = 0

abbrev pub bytes_in : Option PlainTree → List ℕ
bytes_in (Some (bytes raw)) = raw
bytes_in _ = []

abbrev pub ints_in : Option PlainTree → List ℤ
ints_in (Some (ints numbered)) = numbered
ints_in _ = []

-- The layout is the third where the root has a Schematic and no Version, else the second.
abbrev pub is_third : PlainFields → Bool
is_third root = has Schematic root && not (has Version root)

-- the compound with the box
unfoldable pub main : PlainFields → PlainFields
main root = if is_third root then fields_in (held Schematic root) else root

-- the compound with the palette, the cells and the block entities
unfoldable pub holder : PlainFields → PlainFields
holder root = if is_third root then fields_in (held Blocks (main root)) else root

-- the name of the field with the cells
abbrev pub cells_name : PlainFields → FieldName
cells_name root = if is_third root then Data else BlockData

unfoldable pub width_of : PlainFields → ℕ
width_of root = size_in (held Width (main root))

unfoldable pub height_of : PlainFields → ℕ
height_of root = size_in (held Height (main root))

unfoldable pub depth_of : PlainFields → ℕ
depth_of root = size_in (held Length (main root))

-- An absent number, or one that is no Int, is 0.
unfoldable pub data_version_of : PlainFields → ℤ
data_version_of root = int_in (last_named (codes "DataVersion") (main root))

unfoldable pub palette_of : PlainFields → PlainFields
palette_of root = fields_in (held Palette (holder root))

unfoldable pub cells_in : PlainFields → List ℕ
cells_in root = bytes_in (held (cells_name root) (holder root))

-- the numbers that say which ticks are pending
unfoldable pub pending_in : PlainFields → List ℤ
pending_in root = ints_in (held RedpilePending (fields_in (held Metadata (main root))))

-- the number that the layout asks for
abbrev pub version_of : PlainFields → ℤ
version_of root = if is_third root then pos 3 else pos 2

-- the number of cells that the box has
abbrev pub volume_of : PlainFields → ℕ
volume_of root = width_of root * (depth_of root * height_of root)

abbrev pub has_right_version : PlainFields → Bool
has_right_version root = int_eq (int_in (held Version (main root))) (version_of root)

abbrev pub is_too_large : PlainFields → Bool
is_too_large root = nat_lt 16777216 (volume_of root)
