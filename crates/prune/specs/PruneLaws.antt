-- The laws of a step of prune.
use Rattle.std.proofs.Common.{◌≡◌, ◌≢◌, ◌<◌, ℕ, true, Option, Some, None, refl, sym, ◌∙◌, subst}
use Rattle.std.specs.Prelude.{slice_get}
use Rattle.std.proofs.lemmas.Bool.{false≢true}
use Rattle.circuit.specs.Circuit.{EachBefore}
use Rattle.circuit.proofs.LeftLaw.{left_refines}
use Rattle.graph.specs.declared.Kind.{Kind}
use Rattle.graph.specs.declared.Kind.TheVariants.{Torch, Repeater, Comparator, Constant}
use Rattle.graph.specs.declared.Link.{Link}
use Rattle.graph.specs.Graph.{Node, Nodes, node_at, Lives}
use Rattle.graph.specs.Sound.{IsSound, IsSoundNode, places_of}
use Rattle.graph.specs.Steps.{Prunes, Itself, can_go}
use Rattle.graph.specs.Refines.{Refines, is_outer}
use Rattle.graph.specs.Measure.{measure}
use Rattle.graph.proofs.ListedSteps.{test_of_keys}
use Rattle.prune.specs.DropSteps.{node_of, lives_of, drop_falls}
use Rattle.prune.specs.PlaceSteps.{places_of_rest}
use Rattle.prune.specs.Pruned.{IsPruned, pruned_by}
use Rattle.prune.specs.LeftSteps.{left_of}

-- a node is sound in what is left where its links come from what is left
sound_in : (old new : Nodes) (node : Node) → IsSoundNode old node → ((i : ℕ) (link : Link) → slice_get node.links i ≡ Some link → Lives new link.from) → IsSoundNode new node
sound_in old new node s h = record {
  state = s.state;
  kind = s.kind;
  due = s.due;
  priority = s.priority;
  waiting = s.waiting;
  idle = s.idle;
  links = λ i link at. ((s.links i link at).0, h i link at);
}

pub prune_sound : (old new : Nodes) → IsSound old → Prunes old new → IsSound new
prune_sound old new s step = record {
  each = λ key node there. sound_in old new node (s.each key node (pruned.kept key node there)) (λ i link at. source_lives key node there i link at (node_at new link.from) refl);
  apart = subst (λ (g : Nodes). EachBefore (λ a b. a ≢ b) (places_of g)) (sym step.after) (places_of_rest (λ a b. a ≢ b) old step.keys s.apart);
}
  where
    pruned : IsPruned old new
    pruned = pruned_by old new s step

    source_lives : (key : ℕ) (node : Node) → node_at new key ≡ Some node → (i : ℕ) (link : Link) → slice_get node.links i ≡ Some link → (entry : Option Node) → node_at new link.from ≡ entry → Lives new link.from
    source_lives key node there i link at None e =
        let none : node_at new key ≡ None = pruned.closed key i link (record { node = node; there = pruned.kept key node there; at_index = at }) e in
        let bad : ◌≡◌ {A = Option Node} (Some node) None = sym there ∙ none in
        absurd (cc)
    source_lives key node there i link at (Some source) e = lives_of new link.from source e

outer_stays : (kind : Kind) → is_outer kind ≡ true → can_go kind ≡ true → ⊥
outer_stays Torch a b = false≢true a
outer_stays (Repeater delay) a b = false≢true a
outer_stays (Comparator subtract direct far) a b = false≢true a
outer_stays Constant a b = false≢true a
outer_stays _ a b = false≢true b

pub prune_refines : (old new : Nodes) → IsSound old → Prunes old new → Refines old new
prune_refines old new s step = record {
  shows = left_refines (left_of old new pruned) test_of_keys;
  kept = λ pos kind outer stands. record {
    key = stands.key;
    node = stands.node;
    there = stays stands.key stands.node stands.there (subst (λ k. is_outer k ≡ true) (sym stands.holds.1) outer) (node_at new stands.key) refl;
    holds = stands.holds;
  };
  none_new = λ pos kind outer stands. record {
    key = stands.key;
    node = stands.node;
    there = pruned.kept stands.key stands.node stands.there;
    holds = stands.holds;
  };
}
  where
    pruned : IsPruned old new
    pruned = pruned_by old new s step

    stays : (key : ℕ) (node : Node) → node_at old key ≡ Some node → is_outer node.kind ≡ true → (entry : Option Node) → node_at new key ≡ entry → node_at new key ≡ Some node
    stays key node there outer None e = absurd (outer_stays node.kind outer (pruned.unseen key node there e))
    stays key node there outer (Some n) e = let same : Some n ≡ Some node = sym (pruned.kept key n e) ∙ there in e ∙ same

pub prune_falls : (old new : Nodes) → IsSound old → Prunes old new → measure new < measure old
prune_falls old new s step =
    let node = node_of old step.key step.lives in
    subst (λ (g : Nodes). measure g < measure old) (sym step.after)
    (drop_falls old step.keys step.key node.0 node.1 ((step.reached step.key).1 Itself))
