use Rattle.report.proofs.Appended.{Appends-then}
use Rattle.report.proofs.faults.push_signal_fault.Goals as goal

pub returns-clause-text : goal.returns-clause-text
returns-clause-text c = Appends-then c.push.ensures c.push_place.ensures.text
