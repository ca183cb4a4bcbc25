-- Numbers in plain decimal.
use Rattle.std.specs.Prelude.{ℕ, ◌+◌, ◌-◌, ◌*◌, ◌^◌, ◌==◌, ◌&&◌, ◌||◌, not, Bool, false, nat_lt, Option, Some, None, List, [], ◌∷◌, length, fold, if◌then◌else◌}
use Rattle.std.specs.Char.{is_ascii_digit}
use Rattle.std.specs.List.{list_all}

-- digits alone, at least one, and no 0 before others
abbrev pub is_plain : List ℕ → Bool
is_plain [] = false
is_plain (first ∷ rest) = list_all is_ascii_digit (first ∷ rest) && (not (first == 48) || length rest == 0)

-- the number that the digits write
abbrev pub number_of : List ℕ → ℕ
number_of word = fold (λ n digit. 10 * n + (digit - 48)) 0 word

-- the number that the word writes, where it is plain and has 32 bits at most
abbrev pub u32_of : List ℕ → Option ℕ
u32_of word = if is_plain word && nat_lt (number_of word) (2 ^ 32) then Some (number_of word) else None
