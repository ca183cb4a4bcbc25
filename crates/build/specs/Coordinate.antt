-- Coordinates of places in a box.
use Rattle.std.specs.Prelude.{ℕ, nat_lt, if◌then◌else◌, ℤ, pos, negsuc, Option, Some, None}

-- a coordinate that is at least 0 and below a limit
unfoldable pub placed : ℕ → ℤ → Option ℕ
placed limit (pos k) = if nat_lt k limit then Some k else None
placed limit (negsuc k) = None
