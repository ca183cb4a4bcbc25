use Rattle.std.proofs.Common.{◌≡◌, [], ◌∷◌, ◌++◌, take}
use Rattle.std.specs.List.{flat_map}
use Rattle.input_search.specs.CellLists.{cells_of}
use Rattle.input_search.proofs.wires.push_cells.Given as goal

abbrev pub invariant-loop-pos : goal.invariant-loop-pos
invariant-loop-pos l = l.cells.items ≡ l.fn.cells.items ++ flat_map (λ p. cells_of l.build (p ∷ [])) (take l.pos-index l.places)
