-- Lists of cells of a build, and of their places.
use Rattle.std.specs.Prelude.{ℕ, ◌<◌, Bool, List, All, map, filter}
use Rattle.std.specs.List.{filter_map, list_any, range_with_len}
use Rattle.std.proofs.Math.Dec.{eqb}
use Rattle.circuit.specs.declared.Pos.{Pos}
use Rattle.build.specs.Plan.{Plan, volume, place_of, found_cell}

abbrev pub has_cell : List ℕ → ℕ → Bool
has_cell cells i = list_any (eqb i) cells

-- the part of the first n cells that a list has, in order
abbrev pub kept_cells : ℕ → List ℕ → List ℕ
kept_cells n cells = filter (has_cell cells) (range_with_len 0 n)

-- the cells of those places that are in the box
abbrev pub cells_of : Plan → List Pos → List ℕ
cells_of b ps = filter_map (found_cell b) ps

abbrev pub places_of : Plan → List ℕ → List Pos
places_of b cells = map (place_of b) cells

abbrev pub AreCells : Plan → List ℕ → Type 0
AreCells b cells = All (λ i. i < volume b) cells
