-- The palette of a file: from block texts to numbers.
use Rattle.std.specs.Prelude.{ℕ, ℤ, Bool, false, ◌||◌, if◌then◌else◌, List, [], ◌∷◌, find, Option, Some, None, is_some}
use Rattle.std.specs.Option.{option_map}
use Rattle.std.specs.List.{list_any}
use Rattle.std.specs.Ordering.{int_eq}
use Rattle.nbt.specs.Plain.{PlainField, PlainFields, no_fields, field}
use Rattle.std.specs.Str.{bytes_eq}
use Rattle.block_table.specs.declared.Block.{Block}
use Rattle.block_table.specs.declared.Block.TheVariants.{Air}
use Rattle.block_table.specs.BlockText.{block_of}
use Rattle.schematic.specs.Fields.{int_in}

-- of things that are the same the last one, at its own place
abbrev pub last_ones : {A : Type 0} → (A → A → Bool) → List A → List A
last_ones same [] = []
last_ones same (x ∷ xs) = if list_any (same x) xs then last_ones same xs else x ∷ last_ones same xs

-- the fields of a compound as a list
abbrev pub pairs_of : PlainFields → List PlainField
pairs_of no_fields = []
pairs_of (field name t fs) = (name, t) ∷ pairs_of fs

abbrev pub same_name : PlainField → PlainField → Bool
same_name a b = bytes_eq a.0 b.0

-- the entries of a palette that count: of equal names the last
unfoldable pub entries_of : PlainFields → List PlainField
entries_of fs = last_ones same_name (pairs_of fs)

-- the number of an entry
abbrev pub number_of : PlainField → ℤ
number_of e = int_in (Some e.1)

abbrev pub has_number : ℤ → PlainField → Bool
has_number number e = int_eq number (number_of e)

-- two entries have one number
abbrev pub clash : List PlainField → Bool
clash [] = false
clash (e ∷ entries) = list_any (λ (other : PlainField). has_number (number_of other) e) entries || clash entries

-- the first text that means no block
abbrev pub unknown_text : List PlainField → Option (List ℕ)
unknown_text [] = None
unknown_text (e ∷ entries) = if is_some (block_of e.0) then unknown_text entries else Some e.0

abbrev pub block_or_air : Option Block → Block
block_or_air (Some block) = block
block_or_air None = Air

-- the block of the entry with a number; a text without a meaning, which refuses the file, counts as air here
abbrev pub block_numbered : List PlainField → ℤ → Option Block
block_numbered entries number = option_map (λ (e : PlainField). block_or_air (block_of e.0)) (find (has_number number) entries)
