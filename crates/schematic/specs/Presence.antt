-- Which field is missing, and which is of the wrong kind: the first of each.
use Rattle.std.specs.Prelude.{Bool, true, false, not, ◌||◌, if◌then◌else◌, List, [], ◌∷◌, find, Option, Some, None}
use Rattle.std.specs.Option.{option_or}
use Rattle.std.specs.List.{list_all}
use Rattle.nbt.specs.Plain.{PlainTree, PlainField, PlainFields, short, int, bytes, ints, compound}
use Rattle.schematic.specs.declared.FieldName.{FieldName}
use Rattle.schematic.specs.declared.FieldName.TheVariants.{Schematic, Version, Width, Height, Length, Blocks, Palette, BlockData, Data, Metadata, RedpilePending}
use Rattle.schematic.specs.Fields.{held, has, fields_in, is_third, main, holder, cells_name}
use Rattle.schematic.specs.Palette.{entries_of}

abbrev pub first_absent_in : List FieldName → PlainFields → Option FieldName
first_absent_in names fs = find (λ name. not (has name fs)) names

-- Nothing is missing in a value that is no compound.
abbrev pub first_absent : List FieldName → Option PlainTree → Option FieldName
first_absent names (Some (compound fs)) = first_absent_in names fs
first_absent names _ = None

-- the first field that must be there and isn't
unfoldable pub missing : PlainFields → Option FieldName
missing root =
    if is_third root
    then option_or
    (first_absent (Version ∷ Width ∷ Height ∷ Length ∷ Blocks ∷ []) (held Schematic root))
    (first_absent (Palette ∷ Data ∷ []) (held Blocks (main root)))
    else first_absent_in (Version ∷ Width ∷ Height ∷ Length ∷ Palette ∷ BlockData ∷ []) root

abbrev pub is_int : Option PlainTree → Bool
is_int (Some (int number)) = true
is_int _ = false

abbrev pub is_short : Option PlainTree → Bool
is_short (Some (short number)) = true
is_short _ = false

abbrev pub is_compound : Option PlainTree → Bool
is_compound (Some (compound fs)) = true
is_compound _ = false

abbrev pub is_bytes : Option PlainTree → Bool
is_bytes (Some (bytes raw)) = true
is_bytes _ = false

-- what needn't be there may be absent

abbrev pub may_be_compound : Option PlainTree → Bool
may_be_compound None = true
may_be_compound tree = is_compound tree

abbrev pub may_be_ints : Option PlainTree → Bool
may_be_ints None = true
may_be_ints (Some (ints numbered)) = true
may_be_ints _ = false

abbrev pub is_int_entry : PlainField → Bool
is_int_entry e = is_int (Some e.1)

abbrev pub all_ints : List PlainField → Bool
all_ints entries = list_all is_int_entry entries

-- a compound whose entries that count are Ints
abbrev pub is_palette : Option PlainTree → Bool
is_palette (Some (compound fs)) = all_ints (entries_of fs)
is_palette _ = false

-- the name of the first that isn't right
abbrev pub first_wrong : List (FieldName × Bool) → Option FieldName
first_wrong [] = None
first_wrong (c ∷ checks) = if c.1 then first_wrong checks else Some c.0

-- the first field of another kind than it must have, by whether the palette is right
unfoldable pub wrong_kind_with : PlainFields → Bool → Option FieldName
wrong_kind_with root palette_is_right = first_wrong (
    (Schematic, not (is_third root) || is_compound (held Schematic root))
    ∷ (Version, is_int (held Version (main root)))
    ∷ (Width, is_short (held Width (main root)))
    ∷ (Height, is_short (held Height (main root)))
    ∷ (Length, is_short (held Length (main root)))
    ∷ (Blocks, not (is_third root) || is_compound (held Blocks (main root)))
    ∷ (Palette, palette_is_right)
    ∷ (cells_name root, is_bytes (held (cells_name root) (holder root)))
    ∷ (Metadata, may_be_compound (held Metadata (main root)))
    ∷ (RedpilePending, may_be_ints (held RedpilePending (fields_in (held Metadata (main root)))))
    ∷ [])

abbrev pub wrong_kind : PlainFields → Option FieldName
wrong_kind root = wrong_kind_with root (is_palette (held Palette (holder root)))
