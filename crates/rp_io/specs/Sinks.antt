-- A sink in memory.
use Rattle.std.specs.Prelude.{ℕ, Bool, List, ◌||◌, ◌-◌, length, nat_eq, nat_le}
use Rattle.std.specs.List.{list_any}

-- the call of this number fails: it is listed, or the room is taken
abbrev pub fails : (failing : List ℕ) (call room : ℕ) (bytes : List ℕ) → Bool
fails failing call room bytes = list_any (λ n. nat_eq n call) failing || nat_le room (length bytes)

-- how many more bytes are taken
abbrev pub room_left : (room : ℕ) (bytes : List ℕ) → ℕ
room_left room bytes = room - length bytes
