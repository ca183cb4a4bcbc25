use Rattle.wiring.proofs.ReadLaws.{readings-agree}
use Rattle.wiring.proofs.laws.readings_depend_on_taps.Goals as goal

pub returns : goal.returns
returns c = readings-agree
