use Rattle.coalesce.proofs.WaitSteps.{few_below}
use Rattle.coalesce.proofs.waiting.Waiting.put.Goals as goal

pub returns-clause-few : goal.returns-clause-few
returns-clause-few c = few_below c.insert.new.self c.insert.ensures.ordered
