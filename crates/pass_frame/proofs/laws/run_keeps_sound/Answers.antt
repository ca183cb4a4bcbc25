use Rattle.pass_frame.proofs.FrameSteps.{ran_sound}
use Rattle.pass_frame.proofs.laws.run_keeps_sound.Goals as goal

pub returns : goal.returns
returns g c = ran_sound g.P.Pass.step g.met.P.Pass.keeps_sound
