-- The pass runs where the flag is on.
use Rattle.std.proofs.Common.{refl}
use Rattle.std.proofs.lemmas.Bool.{ne_eqb}
use Rattle.pass_frame.proofs.FrameSteps.{when_ran}
use Rattle.pass_frame.proofs.WhenPass.run.Goals as goal

pub returns-then-this-ne0-clause-ran : goal.returns-then-this-ne0-clause-ran
returns-then-this-ne0-clause-ran g c =
    when_ran _ g.P.Pass.step c.args.graph.now.nodes c.run.new.graph.nodes c.run.result (rw (ne_eqb g.row.ON 0 c.if-this-ne0.true) refl) c.run.ensures.ran
