-- The laws of Dedup.
use Rattle.std.specs.Prelude.{◌≡◌, ◌≢◌, ◌<◌, ◌≤◌, Some, slice_get}
use Rattle.std.proofs.Common.{arith, sym, ap, subst, ◌∙◌, inl, inr}
use Rattle.circuit.specs.Circuit.{outs}
use Rattle.circuit.specs.Shows.{SameRuns}
use Rattle.circuit.specs.Events.{SameEvents}
use Rattle.circuit.proofs.Matches.{any_is_invariant}
use Rattle.graph.specs.declared.Link.{Link}
use Rattle.graph.specs.Graph.{Node, Nodes}
use Rattle.graph.specs.GraphCircuit.{graph_circuit}
use Rattle.graph.specs.Sound.{IsSound}
use Rattle.graph.specs.Steps.{Dedups}
use Rattle.graph.specs.Refines.{Refines}
use Rattle.graph.specs.Measure.{measure}
use Rattle.graph.proofs.Shares.{reading-without, share-lighter, share_le-without}
use Rattle.graph.proofs.LinkDrops.{BringsNothing, brings_nothing, drop_sound, drop_falls, drop_refines, drop_same_runs, drop_same_events}

-- the better link stands beside the other one, at another index
beside : (old new : Nodes) (step : Dedups old new) → slice_get step.linked.node.links step.other ≡ Some step.better
beside old new step =
    let both : Some step.beside.node ≡ Some step.linked.node = sym step.beside.there ∙ step.linked.there in
    let same : step.beside.node ≡ step.linked.node = cc in
    subst (λ (node : Node). slice_get node.links step.other ≡ Some step.better) same step.beside.at_index

apart : (old new : Nodes) (step : Dedups old new) → step.other ≢ step.index
apart old new step e = elim step.worse [
  | inl less ↦
      (let both : Some step.better ≡ Some step.link = sym (beside old new step) ∙ ap (λ index. slice_get step.linked.node.links index) e ∙ step.linked.at_index in
      let same : step.better ≡ step.link = cc in
      let weight : step.better.weight ≡ step.link.weight = ap (λ (link : Link). link.weight) same in omega arith)
  | inr equal ↦ (let earlier = equal.1 in omega arith)
]

lighter : (old new : Nodes) (step : Dedups old new) → step.better.weight ≤ step.link.weight
lighter old new step = elim step.worse [ inl less ↦ omega arith | inr equal ↦ (let same = equal.0 in omega arith) ]

nothing_comes : (old new : Nodes) (step : Dedups old new) → BringsNothing (λ s. Unit {0}) old step.key step.index
nothing_comes old new step = brings_nothing (λ s. Unit {0}) old step.key step.index step.link step.linked
    (λ s b group. reading-without (outs (graph_circuit old) s) group step.linked.node.links step.index step.link step.linked.at_index
    (omega (
      arith,
      share-lighter (outs (graph_circuit old) s) group step.link step.better step.from step.group (lighter old new step),
      share_le-without (outs (graph_circuit old) s) group step.linked.node.links step.index step.other step.better (apart old new step) (beside old new step),
    )))

pub dedup_keeps_sound : (old new : Nodes) → IsSound old → Dedups old new → IsSound new
dedup_keeps_sound old new sound step = subst IsSound (sym step.after) (drop_sound old step.key step.index sound)

pub dedup_refines : (old new : Nodes) → IsSound old → Dedups old new → Refines old new
dedup_refines old new sound step = subst (Refines old) (sym step.after) (drop_refines (λ s. Unit {0}) old step.key step.index (nothing_comes old new step) (any_is_invariant (graph_circuit old)))

pub dedup_falls : (old new : Nodes) → IsSound old → Dedups old new → measure new < measure old
dedup_falls old new sound step = subst (λ g. measure g < measure old) (sym step.after) (drop_falls old step.key step.index step.link step.linked)

pub dedup_same_runs : (old new : Nodes) → Dedups old new → SameRuns (graph_circuit old) (graph_circuit new)
dedup_same_runs old new step =
    subst (λ g. SameRuns (graph_circuit old) (graph_circuit g)) (sym step.after) (drop_same_runs (λ s. Unit {0}) old step.key step.index (nothing_comes old new step) (any_is_invariant (graph_circuit old)))

pub dedup_same_events : (old new : Nodes) → Dedups old new → SameEvents (graph_circuit old) (graph_circuit new)
dedup_same_events old new step =
    subst (λ g. SameEvents (graph_circuit old) (graph_circuit g)) (sym step.after) (drop_same_events (λ s. Unit {0}) old step.key step.index (nothing_comes old new step) (any_is_invariant (graph_circuit old)))
