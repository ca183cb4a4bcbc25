use Rattle.std.proofs.Common.{ℕ, List, subst, ap, ◌∙◌, sym, arith}
use Rattle.circuit.specs.Circuit.{Among}
use Rattle.build.specs.Plan.{Plan}
use Rattle.input_search.specs.Links.{wires_in}
use Rattle.input_search.specs.CellLists.{has_cell}
use Rattle.input_search.specs.Wiring.{wire_cells, wire_place}
use Rattle.input_search.proofs.WireNumbers.{among-has}
use Rattle.input_search.proofs.Far.{far_links}
use Rattle.input_search.proofs.search.note_around.Goals as goal

pub go_on-requires-clause-wiring : goal.go_on-requires-clause-wiring
go_on-requires-clause-wiring c =
    let b : Plan = c.args.build.now in
    let d : ℕ = c.loop-distance.distance in
    c.note_far.ensures b c.loop-distance.invariant.wiring
    (λ number h.
    far_links b (wire_place b (wire_cells b) c.args.number) (wire_place b (wire_cells b) number) c.args.steps d c.requires.steps (omega arith)
    (subst (λ (start : ℕ). Among (wires_in b (wire_place b (wire_cells b) start) d) (wire_place b (wire_cells b) number)) c.loop-distance.invariant.start
    (c.loop-distance.invariant.at.at.reached number
    (among-has c.loop-distance.search.wires.items number (ap (λ (wires : List ℕ). has_cell wires number) (sym c.deref.ensures.value) ∙ h)))))
