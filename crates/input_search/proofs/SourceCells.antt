-- What wires read is among the cells of what can give power.
use Rattle.std.proofs.Common.{◌≡◌, ℕ, ◌<◌, true, List, [], ◌∷◌, Option, Some, None, refl, sym, ◌∙◌, ap, arith}
use Rattle.std.specs.Prelude.{is_some}
use Rattle.std.specs.List.{range_with_len, cons_option}
use Rattle.std.proofs.lemmas.List.Elements.{All-nil, All-cons}
use Rattle.circuit.specs.declared.Pos.{Pos}
use Rattle.circuit.specs.Circuit.{Among}
use Rattle.circuit.proofs.Keys.{among_filter}
use Rattle.build.specs.Plan.{Plan, volume, cell_of, place_of, found_cell, block_at, in_box}
use Rattle.build.specs.Places.{inside, cell_below, place-cell, found-cell_of, found-is_some}
use Rattle.std.proofs.Common.{inl, inr}
use Rattle.wiring.specs.Reads.{is_source, direct_places}
use Rattle.wiring.proofs.ReadLaws.{direct_places-source}
use Rattle.input_search.specs.CellLists.{has_cell, cells_of}
use Rattle.input_search.specs.Rows.{AreListed}
use Rattle.input_search.specs.Wiring.{source_cells, wire_cells, wire_place, read_row}
use Rattle.input_search.proofs.CellOrder.{range_has}
use Rattle.input_search.proofs.WireNumbers.{has-among, among-has}

source-listed : (b : Plan) (p : Pos) (i : ℕ) → is_source (block_at b p) ≡ true → found_cell b p ≡ Some i → has_cell (source_cells b) i ≡ true
unfolding source_cells
source-listed b p i h found =
    let box : in_box b p ≡ true = sym (found-is_some b p) ∙ ap is_some found in
    let at_p = inside b p box in
    let e : i ≡ cell_of b p = found-cell_of b p i (sym found) in
    let within : i < volume b = omega (arith, e, cell_below b p at_p) in
    let is : place_of b i ≡ p = ap (place_of b) e ∙ place-cell b p at_p in
    has-among _ i (among_filter (λ k. is_source (block_at b (place_of b k))) (range_with_len 0 (volume b)) i
    (among-has (range_with_len 0 (volume b)) i (range_has 0 (volume b) i (omega arith) (omega arith)))
    (ap (λ (q : Pos). is_source (block_at b q)) is ∙ h))

cells_listed : (b : Plan) (ps : List Pos) → ((p : Pos) → Among ps p → is_source (block_at b p) ≡ true) → AreListed (source_cells b) (cells_of b ps)
cells_listed b [] h = All-nil (λ i. has_cell (source_cells b) i ≡ true)
cells_listed b (p ∷ ps) h = one (found_cell b p) refl (cells_listed b ps (λ q k. h q (inr k)))
  where
    one : (found : Option ℕ) → found_cell b p ≡ found → AreListed (source_cells b) (cells_of b ps) → AreListed (source_cells b) (cons_option found (cells_of b ps))
    one None e rest = rest
    one (Some i) e rest = All-cons (λ k. has_cell (source_cells b) k ≡ true) i (cells_of b ps) (source-listed b p i (h p (inl refl)) e) rest

pub reads_listed : (b : Plan) (number : ℕ) → AreListed (source_cells b) (read_row b number)
unfolding read_row
reads_listed b number = cells_listed b (direct_places b (wire_place b (wire_cells b) number)) (direct_places-source b (wire_place b (wire_cells b) number))
