use Rattle.schematic.proofs.Verdicts.{one_refusal}
use Rattle.schematic.proofs.laws.one_first_cause.Goals as goal

pub returns : goal.returns
returns c = one_refusal
