use Rattle.wiring.proofs.ReadLaws.{source-agree}
use Rattle.wiring.proofs.laws.bases_depend_on_taps.Goals as goal

pub returns : goal.returns
returns c = source-agree
