-- The laws of Unreach.
use Rattle.std.specs.Prelude.{◌<◌}
use Rattle.std.proofs.Common.{arith, sym, subst}
use Rattle.circuit.specs.Circuit.{outs}
use Rattle.circuit.specs.Shows.{SameRuns}
use Rattle.circuit.specs.Events.{SameEvents}
use Rattle.graph.specs.Graph.{Nodes}
use Rattle.graph.specs.GraphCircuit.{graph_circuit}
use Rattle.graph.specs.Sound.{IsSound}
use Rattle.graph.specs.Steps.{Unreaches}
use Rattle.graph.specs.Refines.{Refines}
use Rattle.graph.specs.Measure.{measure}
use Rattle.graph.proofs.Shares.{reading-without_heavy}
use Rattle.graph.proofs.LinkDrops.{BringsNothing, brings_nothing, drop_sound, drop_falls, drop_refines, drop_same_runs, drop_same_events}
use Rattle.unreach.specs.Within.{Within, within_is_invariant, outs_le-bound}

nothing_comes : (old new : Nodes) → IsSound old → (step : Unreaches old new) → BringsNothing (Within old) old step.key step.index
nothing_comes old new sound step = brings_nothing (Within old) old step.key step.index step.link step.linked
    (λ s w group. reading-without_heavy (outs (graph_circuit old) s) group step.linked.node.links step.index step.link step.linked.at_index
    (omega (arith, outs_le-bound old sound s w step.link.from, step.heavy)))

pub unreach_keeps_sound : (old new : Nodes) → IsSound old → Unreaches old new → IsSound new
unreach_keeps_sound old new sound step = subst IsSound (sym step.after) (drop_sound old step.key step.index sound)

pub unreach_refines : (old new : Nodes) → IsSound old → Unreaches old new → Refines old new
unreach_refines old new sound step = subst (Refines old) (sym step.after) (drop_refines (Within old) old step.key step.index (nothing_comes old new sound step) (within_is_invariant old sound))

pub unreach_falls : (old new : Nodes) → IsSound old → Unreaches old new → measure new < measure old
unreach_falls old new sound step = subst (λ g. measure g < measure old) (sym step.after) (drop_falls old step.key step.index step.link step.linked)

pub unreach_same_runs : (old new : Nodes) → IsSound old → Unreaches old new → SameRuns (graph_circuit old) (graph_circuit new)
unreach_same_runs old new sound step =
    subst (λ g. SameRuns (graph_circuit old) (graph_circuit g)) (sym step.after) (drop_same_runs (Within old) old step.key step.index (nothing_comes old new sound step) (within_is_invariant old sound))

pub unreach_same_events : (old new : Nodes) → IsSound old → Unreaches old new → SameEvents (graph_circuit old) (graph_circuit new)
unreach_same_events old new sound step =
    subst (λ g. SameEvents (graph_circuit old) (graph_circuit g)) (sym step.after) (drop_same_events (Within old) old step.key step.index (nothing_comes old new sound step) (within_is_invariant old sound))
