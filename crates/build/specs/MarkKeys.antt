-- Marks as they are kept, by keys in order.
use Rattle.std.specs.Prelude.{ℤ}
use Rattle.circuit.specs.declared.Pos.{Pos}

-- a key is the y, z and x of a place
abbrev pub place_of_key : ℤ × ℤ × ℤ → Pos
place_of_key k = record { x = k.2; y = k.0; z = k.1 }
