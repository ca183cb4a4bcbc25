use Rattle.schematic.proofs.Verdicts.{same_build}
use Rattle.schematic.proofs.laws.one_build.Goals as goal

pub returns : goal.returns
returns c = same_build
