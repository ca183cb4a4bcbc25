use Rattle.std.proofs.Common.{ℕ, List, map, set, sym, ap, ◌∙◌}
use Rattle.std.proofs.lemmas.List.{map-set}
use Rattle.cell_queue.specs.Held.{Holding}
use Rattle.world_engine.specs.Running.{value_of}
use Rattle.world_engine.proofs.valued.ValuedCells.hold.Goals as goal

pub invariant_of-self : goal.invariant_of-self
invariant_of-self c =
    ap (λ (xs : List ℕ). set xs c.args.key c.args.cell.value) c.self.invariant
    ∙ sym (map-set value_of c.self.inside.cells.cells c.args.key c.args.cell)
    ∙ sym (ap (λ (h : Holding). map value_of h.cells) c.hold.ensures)
