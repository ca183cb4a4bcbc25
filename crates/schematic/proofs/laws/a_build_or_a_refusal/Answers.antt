use Rattle.schematic.proofs.Verdicts.{verdict}
use Rattle.schematic.proofs.laws.a_build_or_a_refusal.Goals as goal

pub returns : goal.returns
returns c = verdict
