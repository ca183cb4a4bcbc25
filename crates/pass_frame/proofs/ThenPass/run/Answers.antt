-- The second pass goes on where the first has come.
use Rattle.std.proofs.Common.{true, false}
use Rattle.pass_frame.proofs.FrameSteps.{ran_sound, ran_err, first_reaches, then_reaches, then_ran}
use Rattle.pass_frame.proofs.ThenPass.run.Goals as goal

pub returns-in_err-first-clause-ran : goal.returns-in_err-first-clause-ran
returns-in_err-first-clause-ran g c = ran_err _ c.args.graph.now.nodes c.run.new.graph.nodes c.from_residual.result c.from_residual.ensures.0
    (first_reaches g.P.Pass.step g.Q.Pass.step c.args.graph.now.nodes c.run.new.graph.nodes c.run.result c.run.ensures.ran)

pub run-requires-2 : goal.run-requires-2
run-requires-2 g c = ran_sound g.P.Pass.step g.met.P.Pass.keeps_sound c.args.graph.now.nodes c.run.new.graph.nodes c.run.result c.requires c.run.ensures.ran

pub returns-in_err-second-clause-ran : goal.returns-in_err-second-clause-ran
returns-in_err-second-clause-ran g c = ran_err _ c.args.graph.now.nodes c.run-2.new.graph.nodes c.from_residual-in_err-second.result c.from_residual-in_err-second.ensures.0
    (then_reaches g.P.Pass.step g.Q.Pass.step c.args.graph.now.nodes c.run.new.graph.nodes c.run-2.new.graph.nodes c.run.result c.run-2.result c.run.ensures.ran c.run-2.ensures.ran)

pub returns-then-first-clause-ran : goal.returns-then-first-clause-ran
returns-then-first-clause-ran g c =
    rw c.if-first.true (then_ran g.P.Pass.step g.Q.Pass.step c.args.graph.now.nodes c.run.new.graph.nodes c.run-2.new.graph.nodes true c.in_ok-second.second
    (rw c.if-first.true at c.in_ok-first.ensures.ran) c.in_ok-second.ensures.ran)

pub returns-else-first-clause-ran : goal.returns-else-first-clause-ran
returns-else-first-clause-ran g c =
    then_ran g.P.Pass.step g.Q.Pass.step c.args.graph.now.nodes c.run.new.graph.nodes c.run-2.new.graph.nodes false c.in_ok-second.second
    (rw c.if-first.false at c.in_ok-first.ensures.ran) c.in_ok-second.ensures.ran

pub returns-then-first-clause-turn : goal.returns-then-first-clause-turn
returns-then-first-clause-turn g c = (c.run.new.graph.nodes, c.in_ok-first.ensures.turn, c.in_ok-second.ensures.turn)

pub returns-else-first-clause-turn : goal.returns-else-first-clause-turn
returns-else-first-clause-turn g c = (c.run.new.graph.nodes, c.in_ok-first.ensures.turn, c.in_ok-second.ensures.turn)
