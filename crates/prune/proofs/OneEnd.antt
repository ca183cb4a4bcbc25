-- Where nothing is left to prune, what is left is what is seen: one graph.
use Rattle.std.proofs.Common.{◌≡◌, ℕ, Option, Some, None, refl, sym, ◌∙◌}
use Rattle.std.specs.Prelude.{◌↔◌}
use Rattle.circuit.specs.Circuit.{Among}
use Rattle.graph.specs.Graph.{Node, Nodes, node_at}
use Rattle.graph.specs.Sound.{IsSound}
use Rattle.graph.specs.Steps.{Reaches, Itself, Along, Prunes}
use Rattle.pass_frame.specs.Frame.{IsDone}
use Rattle.pass_frame.specs.Rounds.{Exhausts}
use Rattle.pass_frame.proofs.FrameSteps.{reaches_sound}
use Rattle.pass_frame.proofs.SameNodes.{nodes_same}
use Rattle.prune.specs.DropSteps.{below, lives_of}
use Rattle.prune.specs.Pruned.{IsPruned}
use Rattle.prune.specs.PruneLaws.{prune_sound}
use Rattle.prune.proofs.OrderSteps.{pruned_after}
use Rattle.prune.proofs.ReachTest.{from_below, keys_reached, keys_reached_are}

-- what a node that went reaches went too
went_along : {old new : Nodes} → IsPruned old new → (a b : ℕ) → Reaches old a b → node_at new a ≡ None → node_at new b ≡ None
went_along p a _ Itself none = none
went_along p a _ (Along {key = key} {index = index} {link = link} r has) none = p.closed key index link has (went_along p a link.from r none)

-- and what a node reaches in what is left it reached before
reached_before : {old new : Nodes} → IsPruned old new → (a b : ℕ) → Reaches new a b → Reaches old a b
reached_before p a _ Itself = Itself
reached_before p a _ (Along {key = key} {index = index} {link = link} r has) =
    Along {index = index} (reached_before p a link.from r) (record { node = has.node; there = p.kept key has.node has.there; at_index = has.at_index })

-- A node that went in one graph is unseen, and goes in the other too, where nothing is left to prune.
goes_too : {old one other : Nodes} → IsPruned old one → IsPruned old other → IsSound one → IsDone Prunes one → (key : ℕ) → node_at other key ≡ None → node_at one key ≡ None
goes_too {old} {one} {other} p q sound done key none = by_entry (node_at one key) refl
  where
    by_entry : (entry : Option Node) → node_at one key ≡ entry → node_at one key ≡ None
    by_entry None e = e
    by_entry (Some node) e = absurd (done _ (record {
      key = key;
      keys = keys_reached one key;
      lives = lives_of one key node e;
      reached = reached;
      unseen = λ k n among there. q.unseen k n (p.kept k n there) (went_along q key k (reached_before p key k ((reached k).0 among)) none);
      after = refl;
    }))
      where
        reached : (k : ℕ) → Among (keys_reached one key) k ↔ Reaches one key k
        reached = keys_reached_are one (from_below one sound) key (below one key node e)

same_node : {old one other : Nodes} → IsPruned old one → IsPruned old other → ((key : ℕ) → node_at other key ≡ None → node_at one key ≡ None) → ((key : ℕ) → node_at one key ≡ None → node_at other key ≡ None) → (key : ℕ) → node_at one key ≡ node_at other key
same_node {old} {one} {other} p q back forth key = by_entries (node_at one key) refl (node_at other key) refl
  where
    by_entries : (a : Option Node) → node_at one key ≡ a → (b : Option Node) → node_at other key ≡ b → node_at one key ≡ node_at other key
    by_entries None e b f = e ∙ sym (forth key e)
    by_entries (Some node) e None f = back key f ∙ sym f
    by_entries (Some node) e (Some n) f = e ∙ sym (p.kept key node e) ∙ q.kept key n f ∙ sym f

pub pruned_one : (old one other : Nodes) → IsSound old → Exhausts Prunes old one → Exhausts Prunes old other → one ≡ other
pruned_one old one other sound a b =
    let p : IsPruned old one = pruned_after sound a.reaches in
    let q : IsPruned old other = pruned_after sound b.reaches in
    nodes_same one other (p.size ∙ sym q.size)
    (same_node p q (goes_too p q (reaches_sound Prunes prune_sound sound a.reaches) a.rests) (goes_too q p (reaches_sound Prunes prune_sound sound b.reaches) b.rests))
