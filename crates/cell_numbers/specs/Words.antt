-- Cells as bits of words.
use Rattle.std.specs.Prelude.{◌≡◌, ℕ, ◌+◌, ◌*◌, ◌/◌, ◌%◌, ◌^◌, ◌<◌, ◌==◌, Bool, List, All, length, filter, slice_index_or, bit_or}
use Rattle.std.specs.List.{range_with_len}
use Rattle.std.specs.Int.{bit_at}
use Rattle.cell_numbers.specs.declared.Word.{Word}

abbrev pub no_word : Word
no_word = record { bits = 0; before = 0 }

abbrev pub word_in : List Word → ℕ → Word
word_in words index = slice_index_or words index no_word

-- whether the bit of a cell is set
abbrev pub has_bit : List Word → ℕ → Bool
has_bit words cell = bit_at (word_in words (cell / 32)).bits (cell % 32) == 1

-- the first n cells whose bits are set
abbrev pub cells_below : List Word → ℕ → List ℕ
cells_below words n = filter (has_bit words) (range_with_len 0 n)

abbrev pub cells_in : List Word → List ℕ
cells_in words = cells_below words (32 * length words)

-- Each word counts the cells before it, and the last word has a cell.
pub record AreCounted (words : List Word) (count : ℕ) : Type 0 where
  pub before : (index : ℕ) → index < length words → (word_in words index).before ≡ length (cells_below words (32 * index))
  pub all : count ≡ length (cells_in words)
  pub last : (bound : ℕ) → All (λ cell. cell < bound) (cells_in words) → 32 * length words < bound + 32

abbrev pub with_bit : ℕ → Word → Word
with_bit bit word = record word { bits = bit_or word.bits (2 ^ bit) }
