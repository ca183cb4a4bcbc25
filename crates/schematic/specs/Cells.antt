-- The cells of a file: a list of varints, each the number of a block.
use Rattle.std.specs.Prelude.{◌≡◌, ℕ, zero, suc, ℤ, pos, ◌+◌, ◌*◌, ◌%◌, Bool, true, false, ◌&&◌, nat_lt, nat_le, if◌then◌else◌, List, [], ◌∷◌, map, length, Option, Some, None, is_some}
use Rattle.std.specs.List.{onto_first, range_with_len}
use Rattle.block_table.specs.declared.Block.{Block}
use Rattle.schematic.specs.Palette.{block_or_air}

-- a byte list cut behind each byte below 128: one varint each, and last what is cut
abbrev pub varints : List ℕ → List (List ℕ)
varints [] = []
varints (b ∷ bs) = if nat_lt b 128 then (b ∷ []) ∷ varints bs else onto_first b (varints bs)

-- its last byte is below 128
abbrev pub ends : List ℕ → Bool
ends [] = false
ends (b ∷ []) = nat_lt b 128
ends (b ∷ (c ∷ bs)) = ends (c ∷ bs)

-- seven bits a byte, low ones first
abbrev pub value_of : List ℕ → ℕ
value_of [] = 0
value_of (b ∷ bs) = b % 128 + 128 * value_of bs

-- a whole varint of 1 to 5 bytes
abbrev pub is_whole : List ℕ → Bool
is_whole varint = ends varint && nat_le (length varint) 5

-- and its number is that of a block
abbrev pub is_right : (ℤ → Option Block) → List ℕ → Bool
is_right numbered varint = is_whole varint && is_some (numbered (pos (value_of varint)))

-- From this place on there are to be n varints. The place of the first of them that isn't right, else that of the first byte behind them,
-- or the end where they are too few.
abbrev pub fault_from : (ℤ → Option Block) → ℕ → ℕ → List (List ℕ) → Option ℕ
fault_from numbered place zero [] = None
fault_from numbered place zero (v ∷ vs) = Some place
fault_from numbered place (suc n) [] = Some place
fault_from numbered place (suc n) (v ∷ vs) = if is_right numbered v then fault_from numbered (place + length v) n vs else Some place

-- the place of the first fault, where the bytes aren't so many numbers of blocks
unfoldable pub cells_fault : (ℤ → Option Block) → ℕ → List ℕ → Option ℕ
cells_fault numbered n cells = fault_from numbered 0 n (varints cells)

-- the block of each cell
unfoldable pub blocks_of : (ℤ → Option Block) → List ℕ → List Block
blocks_of numbered cells = map (λ varint. block_or_air (numbered (pos (value_of varint)))) (varints cells)

-- the blocks of the numbers from 0 on
abbrev pub first_blocks : (ℤ → Option Block) → ℕ → List (Option Block)
first_blocks numbered n = map (λ (i : ℕ). numbered (pos i)) (range_with_len 0 n)

-- The bytes begin with a whole varint of this number, and these come behind it.
pub record IsFirst (cells : List ℕ) (number : ℕ) (behind : List ℕ) : Type 0 where
  pub first : List ℕ
  pub cut : varints cells ≡ first ∷ varints behind
  pub whole : is_whole first ≡ true
  pub value : number ≡ value_of first
  pub count : length cells ≡ length first + length behind

-- The bytes don't begin with a whole varint.
abbrev pub HasNoFirst : List (List ℕ) → Type 0
HasNoFirst [] = Unit {0}
HasNoFirst (v ∷ vs) = is_whole v ≡ false
