use Rattle.std.proofs.Common.{◌<◌, subst, sym, arith}
use Rattle.std.specs.Prelude.{◌^◌}
use Rattle.cell_queue.specs.Held.{Holding, NoneNow}
use Rattle.cell_queue.proofs.HeldSteps.{none_due}
use Rattle.cell_queue.proofs.cells.Cells.advance.Goals as goal

pub advance-requires : goal.advance-requires
advance-requires c = (
  omega arith,
  (
    none_due _ _ _ c.self.inside.cells.items c.self.invariant.queued (subst NoneNow (sym c.self.view_is) c.requires.none) (λ t a. a),
    subst (λ (h : Holding). h.time < 2 ^ 63) (sym c.self.view_is) c.requires.early,
  ),
)
