-- Cells that are listed place by place.
use Rattle.std.proofs.Common.{◌≡◌, ℕ, List, [], ◌∷◌, ◌++◌, refl, ap, sym, ◌∙◌}
use Rattle.std.specs.List.{flat_map}
use Rattle.std.proofs.lemmas.List.Elements.{filter_map-append}
use Rattle.circuit.specs.declared.Pos.{Pos}
use Rattle.build.specs.Plan.{Plan, found_cell}
use Rattle.input_search.specs.CellLists.{cells_of}

-- the cell of each place, joined, are the cells of the places
pub cells_joined : (b : Plan) (ps : List Pos) → flat_map (λ p. cells_of b (p ∷ [])) ps ≡ cells_of b ps
cells_joined b [] = refl
cells_joined b (p ∷ ps) = ap (λ (cells : List ℕ). cells_of b (p ∷ []) ++ cells) (cells_joined b ps) ∙ sym (filter_map-append (found_cell b) (p ∷ []) ps)
