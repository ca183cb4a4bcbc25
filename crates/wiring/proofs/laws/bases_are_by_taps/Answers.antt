use Rattle.wiring.proofs.ReadLaws.{source-taps}
use Rattle.wiring.proofs.laws.bases_are_by_taps.Goals as goal

pub returns : goal.returns
returns c = source-taps
