use Rattle.std.proofs.Common.{◌∙◌}
use Rattle.world_engine.proofs.ValueSteps.{values_taken}
use Rattle.world_engine.proofs.valued.ValuedCells.take_due.Goals as goal

pub invariant_of-self : goal.invariant_of-self
invariant_of-self c = c.self.invariant ∙ values_taken c.self.inside.cells c.take_due.new.self c.take_due.result c.take_due.ensures.taken
