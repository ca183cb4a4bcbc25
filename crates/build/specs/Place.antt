-- Places, their six sides, and the place beside a place.
use Rattle.std.specs.Prelude.{ℕ, Bool, ℤ, pos, negsuc, ◌+ℤ◌, ◌-ℤ◌, List, [], ◌∷◌, ◌==◌, ◌&&◌, ◌||◌, false, int_lt}
use Rattle.circuit.specs.declared.Pos.{Pos}
use Rattle.block_table.specs.declared.Side.{Side}
use Rattle.block_table.specs.declared.Side.TheVariants.{Down, Up, North, South, West, East}

-- the neighbour on a side
abbrev pub beside : Side → Pos → Pos
beside Down p = record p { y = p.y -ℤ pos 1 }
beside Up p = record p { y = p.y +ℤ pos 1 }
beside North p = record p { z = p.z -ℤ pos 1 }
beside South p = record p { z = p.z +ℤ pos 1 }
beside West p = record p { x = p.x -ℤ pos 1 }
beside East p = record p { x = p.x +ℤ pos 1 }

-- in the order of sides
abbrev pub sides : List Side
sides = Down ∷ Up ∷ North ∷ South ∷ West ∷ East ∷ []

abbrev pub number_of : Side → ℕ
number_of Down = 0
number_of Up = 1
number_of North = 2
number_of South = 3
number_of West = 4
number_of East = 5

abbrev pub same_side : Side → Side → Bool
same_side a b = number_of a == number_of b

abbrev pub same_int : ℤ → ℤ → Bool
same_int (pos a) (pos b) = a == b
same_int (negsuc a) (negsuc b) = a == b
same_int _ _ = false

abbrev pub same_place : Pos → Pos → Bool
same_place p q = same_int p.x q.x && (same_int p.y q.y && same_int p.z q.z)

-- in the order of places: by y, then z, then x
abbrev pub is_before : Pos → Pos → Bool
is_before p q = int_lt p.y q.y || (same_int p.y q.y && (int_lt p.z q.z || (same_int p.z q.z && int_lt p.x q.x)))
