-- The palette of a file, and the cells as numbers of the palette.
use Rattle.std.specs.Prelude.{◌≡◌, ℕ, ◌+◌, pos, true, not, ⊤, Option, Some, None, if◌then◌else◌, List, [], ◌∷◌, ◌++◌, map, filter, slice_index_or}
use Rattle.std.specs.List.{flat_map, list_any, position_or_len}
use Rattle.std.specs.Str.{bytes_eq}
use Rattle.nbt.specs.Plain.{PlainField, int}
use Rattle.block_table.specs.declared.Block.{Block}
use Rattle.block_table.specs.WrittenText.{state_text}
use Rattle.packed_block.specs.Packed.{unpacked}
use Rattle.schem_write.specs.Varint.{varint}

-- of texts that are the same the first one, at its own place
abbrev pub first_ones : List (List ℕ) → List (List ℕ)
first_ones [] = []
first_ones (text ∷ texts) = text ∷ filter (λ other. not (bytes_eq other text)) (first_ones texts)

-- the texts of the blocks that occur, in order of first cell
unfoldable pub palette_of : List Block → List (List ℕ)
palette_of blocks = first_ones (map state_text blocks)

-- the number of a text: its place in the palette
abbrev pub number_in : List (List ℕ) → List ℕ → ℕ
number_in palette text = position_or_len (bytes_eq text) palette

-- the number of each cell's block
unfoldable pub cells_of : List Block → List ℕ
cells_of blocks = flat_map (λ text. varint (number_in (palette_of blocks) text)) (map state_text blocks)

-- the texts of a palette with their numbers, counted from n
abbrev pub numbered_from : ℕ → List (List ℕ) → List PlainField
numbered_from n [] = []
numbered_from n (text ∷ texts) = (text, int (pos n)) ∷ numbered_from (n + 1) texts

-- a palette with a text, which goes last unless it is there
abbrev pub with_text : List (List ℕ) → List ℕ → List (List ℕ)
with_text palette text = if list_any (bytes_eq text) palette then palette else palette ++ (text ∷ [])

-- the text stands in the palette, and has this number
abbrev pub IsNumberOf : List (List ℕ) → List ℕ → ℕ → Type 0
IsNumberOf palette text number = (number ≡ number_in palette text) × (list_any (bytes_eq text) palette ≡ true)

-- the number of the block of a code, where it is known
abbrev pub IsNumber : List (List ℕ) → ℕ → Option ℕ → Type 0
IsNumber palette code None = ⊤
IsNumber palette code (Some number) = IsNumberOf palette (state_text (unpacked code)) number

-- each number that is known is that of the block of its code
abbrev pub AreNumbers : List (List ℕ) → List (Option ℕ) → Type 0
AreNumbers palette numbers = (code : ℕ) → IsNumber palette code (slice_index_or numbers code None)
