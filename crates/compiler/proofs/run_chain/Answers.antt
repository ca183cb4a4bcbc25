-- The steps of the chain are those of the definition.
use Rattle.pass_frame.proofs.FrameSteps.{ran_reaches}
use Rattle.compiler.proofs.run_chain.Goals as goal

pub returns-clause-steps : goal.returns-clause-steps
returns-clause-steps g c = ran_reaches _ c.args.graph.now.nodes c.run.new.graph.nodes c.run.result c.run.ensures.ran

pub returns-clause-done : goal.returns-clause-done
returns-clause-done g c = c.in_ok-run.ensures.done

pub returns-clause-rounds : goal.returns-clause-rounds
returns-clause-rounds g c = c.in_ok-run.ensures.turn
