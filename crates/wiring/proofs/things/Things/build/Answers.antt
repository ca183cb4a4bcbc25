use Rattle.wiring.proofs.Numbering.{few_numbered}
use Rattle.wiring.proofs.things.Things.build.Goals as goal

pub returns-clause-few : goal.returns-clause-few
returns-clause-few c = let w = c.self.invariant in rw (← c.self.view_is) (few_numbered _ w)
