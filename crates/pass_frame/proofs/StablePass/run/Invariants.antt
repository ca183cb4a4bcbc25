use Rattle.graph.specs.Sound.{IsSound}
use Rattle.graph.specs.Measure.{measure}
use Rattle.pass_frame.specs.Frame.{Reaches}
use Rattle.pass_frame.proofs.FrameSteps.{Went}
use Rattle.pass_frame.proofs.StablePass.run.Given as goal

abbrev pub invariant-loop-took : goal.invariant-loop-took
invariant-loop-took g l = record { sound : IsSound l.graph.nodes; turns : Reaches g.P.Pass.turn l.initial.graph.nodes l.graph.nodes; went : Went g.P.Pass.step l.initial.graph.nodes l.took l.graph.nodes }

abbrev pub decreases-loop-took : goal.decreases-loop-took
decreases-loop-took g l = measure l.graph.nodes
