use Rattle.unreach.specs.UnreachLaws.{unreach_same_runs, unreach_same_events}
use Rattle.unreach.proofs.laws.unreach_keeps_the_order.Goals as goal

pub returns : goal.returns
returns c = record { runs = unreach_same_runs; events = unreach_same_events }
