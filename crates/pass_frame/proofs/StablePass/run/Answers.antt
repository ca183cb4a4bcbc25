-- The pass goes on from a sound graph, by whole steps.
use Rattle.std.proofs.Common.{◌<◌, true, Ok, refl}
use Rattle.graph.specs.Measure.{measure}
use Rattle.pass_frame.specs.Frame.{Ran, Stays, Goes}
use Rattle.pass_frame.proofs.FrameSteps.{ran_falls, ran_sound, ran_reaches, ran_err, went_on, went_reaches, reaches_append}
use Rattle.pass_frame.proofs.StablePass.run.Goals as goal

pub loop-took-smaller : goal.loop-took-smaller
loop-took-smaller g c =
    let went : Ran g.P.Pass.step c.loop-took.graph.nodes (Ok true) c.run.new.graph.nodes = rw c.if-branch.true at c.in_ok-run.ensures.ran in
    let less : measure c.run.new.graph.nodes < measure c.loop-took.graph.nodes =
    ran_falls g.P.Pass.step g.met.P.Pass.keeps_sound g.met.P.Pass.falls c.loop-took.graph.nodes c.run.new.graph.nodes c.loop-took.invariant.sound went in
    less

pub loop-took-preserved : goal.loop-took-preserved
loop-took-preserved g c = record {
  sound = ran_sound g.P.Pass.step g.met.P.Pass.keeps_sound c.loop-took.graph.nodes c.run.new.graph.nodes c.run.result c.loop-took.invariant.sound c.run.ensures.ran;
  turns = reaches_append g.P.Pass.turn c.loop-took.invariant.turns (Goes c.in_ok-run.ensures.turn Stays);
  went = went_on g.P.Pass.step c.args.graph.now.nodes c.loop-took.graph.nodes c.run.new.graph.nodes c.loop-took.took c.loop-took.invariant.went (rw c.if-branch.true at c.in_ok-run.ensures.ran);
}

pub returns-in_err-run-clause-ran : goal.returns-in_err-run-clause-ran
returns-in_err-run-clause-ran g c =
    ran_err g.P.Pass.step c.args.graph.now.nodes c.run.new.graph.nodes c.from_residual.result c.from_residual.ensures.0
    (went_reaches g.P.Pass.step c.args.graph.now.nodes c.loop-took.graph.nodes c.run.new.graph.nodes c.loop-took.took c.loop-took.invariant.went
    (ran_reaches g.P.Pass.step c.loop-took.graph.nodes c.run.new.graph.nodes c.run.result c.run.ensures.ran))

pub loop-took-init : goal.loop-took-init
loop-took-init g c = record { sound = c.requires; turns = Stays; went = refl }
