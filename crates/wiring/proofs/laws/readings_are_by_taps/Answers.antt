use Rattle.wiring.proofs.ReadLaws.{readings-taps}
use Rattle.wiring.proofs.laws.readings_are_by_taps.Goals as goal

pub returns : goal.returns
returns c = readings-taps
