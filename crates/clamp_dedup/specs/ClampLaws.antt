-- The laws of Clamp.
use Rattle.std.specs.Prelude.{◌<◌}
use Rattle.std.proofs.Common.{arith, sym, subst}
use Rattle.circuit.specs.Bounds.{Bounded}
use Rattle.circuit.specs.Circuit.{outs}
use Rattle.circuit.specs.Shows.{SameRuns}
use Rattle.circuit.specs.Events.{SameEvents}
use Rattle.circuit.proofs.Bounded.{outs_le, bounded_is_invariant}
use Rattle.circuit.proofs.Matches.{IsInvariant}
use Rattle.graph.specs.Graph.{Nodes}
use Rattle.graph.specs.GraphCircuit.{graph_circuit}
use Rattle.graph.specs.Sound.{IsSound}
use Rattle.graph.specs.Steps.{Clamps}
use Rattle.graph.specs.Refines.{Refines}
use Rattle.graph.specs.Measure.{measure}
use Rattle.graph.proofs.BoundSteps.{graph_is_bounded}
use Rattle.graph.proofs.ListedSteps.{test_of_keys}
use Rattle.graph.proofs.Shares.{reading-without_heavy}
use Rattle.graph.proofs.LinkDrops.{BringsNothing, brings_nothing, drop_sound, drop_falls, drop_refines, drop_same_runs, drop_same_events}

-- no node of a sound graph ever gives more than 15
stays_bounded : (g : Nodes) → IsSound g → IsInvariant (graph_circuit g) (Bounded (graph_circuit g))
stays_bounded g sound = bounded_is_invariant (graph_circuit g) test_of_keys (graph_is_bounded g sound)

nothing_comes : (old new : Nodes) → IsSound old → (step : Clamps old new) → BringsNothing (Bounded (graph_circuit old)) old step.key step.index
nothing_comes old new sound step = brings_nothing (Bounded (graph_circuit old)) old step.key step.index step.link step.linked
    (λ s b group. reading-without_heavy (outs (graph_circuit old) s) group step.linked.node.links step.index step.link step.linked.at_index
    (omega (arith, outs_le (graph_circuit old) (graph_is_bounded old sound) s b step.link.from, step.heavy)))

pub clamp_keeps_sound : (old new : Nodes) → IsSound old → Clamps old new → IsSound new
clamp_keeps_sound old new sound step = subst IsSound (sym step.after) (drop_sound old step.key step.index sound)

pub clamp_refines : (old new : Nodes) → IsSound old → Clamps old new → Refines old new
clamp_refines old new sound step = subst (Refines old) (sym step.after) (drop_refines (Bounded (graph_circuit old)) old step.key step.index (nothing_comes old new sound step) (stays_bounded old sound))

pub clamp_falls : (old new : Nodes) → IsSound old → Clamps old new → measure new < measure old
clamp_falls old new sound step = subst (λ g. measure g < measure old) (sym step.after) (drop_falls old step.key step.index step.link step.linked)

pub clamp_same_runs : (old new : Nodes) → IsSound old → Clamps old new → SameRuns (graph_circuit old) (graph_circuit new)
clamp_same_runs old new sound step =
    subst (λ g. SameRuns (graph_circuit old) (graph_circuit g)) (sym step.after) (drop_same_runs (Bounded (graph_circuit old)) old step.key step.index (nothing_comes old new sound step) (stays_bounded old sound))

pub clamp_same_events : (old new : Nodes) → IsSound old → Clamps old new → SameEvents (graph_circuit old) (graph_circuit new)
clamp_same_events old new sound step =
    subst (λ g. SameEvents (graph_circuit old) (graph_circuit g)) (sym step.after) (drop_same_events (Bounded (graph_circuit old)) old step.key step.index (nothing_comes old new sound step) (stays_bounded old sound))
