use Rattle.schematic.proofs.Verdicts.{not_both}
use Rattle.schematic.proofs.laws.a_refusal_excludes.Goals as goal

pub returns : goal.returns
returns c = not_both
