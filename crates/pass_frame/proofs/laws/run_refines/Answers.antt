use Rattle.pass_frame.proofs.FrameSteps.{ran_refines}
use Rattle.pass_frame.proofs.laws.run_refines.Goals as goal

pub returns : goal.returns
returns g c = ran_refines g.P.Pass.step g.met.P.Pass.keeps_sound g.met.P.Pass.refines
