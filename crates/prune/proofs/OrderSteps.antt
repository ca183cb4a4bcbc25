-- Runs of what prune leaves, in the order of the whole graph.
use Rattle.std.proofs.Common.{ℕ, ap, subst}
use Rattle.std.specs.Prelude.{is_none}
use Rattle.circuit.specs.Circuit.{State}
use Rattle.circuit.specs.PutLast.{RefinesWith}
use Rattle.circuit.proofs.LeftLaw.{Agree}
use Rattle.circuit.proofs.PutRuns.{left_refines_with}
use Rattle.graph.specs.Graph.{Nodes}
use Rattle.graph.specs.GraphCircuit.{graph_circuit}
use Rattle.graph.specs.Sound.{IsSound}
use Rattle.graph.specs.Steps.{Prunes}
use Rattle.graph.proofs.ListedSteps.{test_of_keys}
use Rattle.pass_frame.specs.Frame.{Reaches as ReachesBy, Stays, Goes}
use Rattle.prune.specs.DropSteps.{node_of}
use Rattle.prune.specs.Pruned.{IsPruned, pruned_by, pruned_stays, pruned_then}
use Rattle.prune.specs.Order.{dropped_keys, AgreeOn}
use Rattle.prune.specs.LeftSteps.{is_gone, left_of, left_of-keys}
use Rattle.prune.specs.PruneLaws.{prune_sound}

-- any number of steps
pub pruned_after : {old new : Nodes} → IsSound old → ReachesBy Prunes old new → IsPruned old new
pruned_after {old} s Stays = pruned_stays old s
pruned_after {old} {new} s (Goes {mid = mid} step more) = pruned_then old mid new (pruned_by old mid s step) (pruned_after (prune_sound old mid s step) more)

agree_on : (new : Nodes) (s2 s1 : State ℕ) → Agree (is_gone new) s2 s1 → AgreeOn new s2 s1
agree_on new s2 s1 a = record { time = a.time; cells = λ key lives. let node = node_of new key lives in a.cells key (ap is_none node.1) }

pub pruned_refines_with : (old new : Nodes) → IsSound old → ReachesBy Prunes old new → RefinesWith (graph_circuit old) (graph_circuit new) (dropped_keys old new) (AgreeOn new)
pruned_refines_with old new s steps =
    let pruned = pruned_after s steps in
    let law : RefinesWith (graph_circuit old) (graph_circuit new) (dropped_keys old new) (Agree (is_gone new)) =
    subst (λ keys. RefinesWith (graph_circuit old) (graph_circuit new) keys (Agree (is_gone new))) (left_of-keys old new pruned) (left_refines_with (left_of old new pruned) test_of_keys) in
    record { plays = λ acts order views last p. let r = law.plays acts order views last p in (r.0, r.1, r.2, r.3, agree_on new last r.1 r.4) }
