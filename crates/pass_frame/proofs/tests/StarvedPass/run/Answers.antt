-- No step was taken.
use Rattle.pass_frame.specs.Frame.{Stays}
use Rattle.pass_frame.proofs.tests.StarvedPass.run.Goals as goal

pub returns-clause-ran : goal.returns-clause-ran
returns-clause-ran c = Stays
