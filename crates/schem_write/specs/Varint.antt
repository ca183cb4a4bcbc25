-- The shortest varint of a number.
use Rattle.std.specs.Prelude.{ℕ, zero, suc, ◌+◌, ◌/◌, ◌%◌, nat_lt, if◌then◌else◌, List, [], ◌∷◌}

-- seven bits a byte, low ones first; so many bytes may follow the first
abbrev pub varint_within : ℕ → ℕ → List ℕ
varint_within zero n = n ∷ []
varint_within (suc more) n = if nat_lt n 128 then n ∷ [] else (128 + n % 128) ∷ varint_within more (n / 128)

-- n bytes are more than enough for n
unfoldable pub varint : ℕ → List ℕ
varint n = varint_within n n
