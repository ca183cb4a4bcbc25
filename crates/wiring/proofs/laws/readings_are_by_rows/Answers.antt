use Rattle.wiring.proofs.LevelLaws.{reads-rows}
use Rattle.wiring.proofs.laws.readings_are_by_rows.Goals as goal

pub returns : goal.returns
returns c = reads-rows
