-- What any number of steps of prune leaves of a graph.
use Rattle.std.proofs.Common.{◌≡◌, ℕ, true, false, Option, Some, None, refl, sym, ◌∙◌, subst, length}
use Rattle.std.specs.Prelude.{is_none}
use Rattle.graph.specs.declared.Link.{Link}
use Rattle.graph.specs.Graph.{Node, Nodes, node_at, HasLink}
use Rattle.graph.specs.Sound.{IsSound}
use Rattle.graph.specs.Steps.{Along, can_go, Prunes}
use Rattle.prune.specs.Among.{is_among_of}
use Rattle.prune.specs.DropSteps.{node_of, gone_at, gone_of, was_at, length-drop_set}

-- Nodes are gone, and what is left is as it was.
pub record IsPruned (old new : Nodes) : Type 0 where
  pub size : length new ≡ length old
  pub kept : (k : ℕ) (node : Node) → node_at new k ≡ Some node → node_at old k ≡ Some node
  -- what is gone links to what is gone, and was neither shown nor clicked
  pub closed : (k index : ℕ) (link : Link) → HasLink old k index link → node_at new link.from ≡ None → node_at new k ≡ None
  pub unseen : (k : ℕ) (node : Node) → node_at old k ≡ Some node → node_at new k ≡ None → can_go node.kind ≡ true

-- a key holds something or nothing
some_none : (A : Type 0) (entry : Option Node) (node : Node) → entry ≡ Some node → entry ≡ None → A
some_none A entry node there none = let bad : ◌≡◌ {A = Option Node} (Some node) None = sym there ∙ none in absurd (cc)

-- each source lives
source_none : (A : Type 0) (g : Nodes) (k index : ℕ) (link : Link) → IsSound g → HasLink g k index link → node_at g link.from ≡ None → A
source_none A g k index link s has none =
    let source = node_of g link.from ((s.each k has.node has.there).links index link has.at_index).1 in
    some_none A (node_at g link.from) source.0 source.1 none

-- one step
pub pruned_by : (old new : Nodes) → IsSound old → Prunes old new → IsPruned old new
pruned_by old new s step = subst (IsPruned old) (sym step.after) (record {
  size = length-drop_set old step.keys;
  kept = λ k node there. (was_at old step.keys k node there).1;
  closed = λ k index link has none.
      let source = node_of old link.from ((s.each k has.node has.there).links index link has.at_index).1 in
      let from = (step.reached link.from).0 (gone_of old step.keys link.from source.0 source.1 none) in
      gone_at old step.keys k (is_among_of step.keys k ((step.reached k).1 (Along {index = index} from has)));
  unseen = λ k node there none. step.unseen k node (gone_of old step.keys k node there none) there;
})

-- no step
pub pruned_stays : (g : Nodes) → IsSound g → IsPruned g g
pruned_stays g s = record {
  size = refl;
  kept = λ k node there. there;
  closed = λ k index link has none. source_none (node_at g k ≡ None) g k index link s has none;
  unseen = λ k node there none. some_none (can_go node.kind ≡ true) (node_at g k) node there none;
}

-- what is gone stays gone
stays_none : (old new : Nodes) → IsPruned old new → (k : ℕ) → node_at old k ≡ None → node_at new k ≡ None
stays_none old new p k none = by_entry (node_at new k) refl
  where
    by_entry : (entry : Option Node) → node_at new k ≡ entry → node_at new k ≡ None
    by_entry None e = e
    by_entry (Some node) e = some_none (node_at new k ≡ None) (node_at old k) node (p.kept k node e) none

-- steps after steps
pub pruned_then : (old mid new : Nodes) → IsPruned old mid → IsPruned mid new → IsPruned old new
pruned_then old mid new p q = record {
  size = q.size ∙ p.size;
  kept = λ k node there. p.kept k node (q.kept k node there);
  closed = λ k index link has none. closed k index link has none (node_at mid link.from) refl (node_at mid k) refl;
  unseen = λ k node there none. unseen k node there none (node_at mid k) refl;
}
  where
    closed : (k index : ℕ) (link : Link) → HasLink old k index link → node_at new link.from ≡ None → (from : Option Node) → node_at mid link.from ≡ from → (entry : Option Node) → node_at mid k ≡ entry → node_at new k ≡ None
    closed k index link has none from f None e = stays_none mid new q k e
    closed k index link has none None f (Some node) e = stays_none mid new q k (p.closed k index link has f)
    closed k index link has none (Some source) f (Some node) e =
        let same : Some node ≡ Some has.node = sym (p.kept k node e) ∙ has.there in
        q.closed k index link (record { node = has.node; there = e ∙ same; at_index = has.at_index }) none

    unseen : (k : ℕ) (node : Node) → node_at old k ≡ Some node → node_at new k ≡ None → (entry : Option Node) → node_at mid k ≡ entry → can_go node.kind ≡ true
    unseen k node there none None e = p.unseen k node there e
    unseen k node there none (Some n) e =
        let same : Some n ≡ Some node = sym (p.kept k n e) ∙ there in
        q.unseen k node (e ∙ same) none

-- where the key still holds something, it is what it held
pub same_at : (old new : Nodes) → IsPruned old new → (k : ℕ) → is_none (node_at new k) ≡ false → node_at new k ≡ node_at old k
same_at old new p k h = by_entry (node_at new k) refl h
  where
    by_entry : (entry : Option Node) → node_at new k ≡ entry → is_none entry ≡ false → node_at new k ≡ node_at old k
    by_entry None e h = absurd (cc)
    by_entry (Some node) e h = e ∙ sym (p.kept k node e)

pub none_at : (g : Nodes) (k : ℕ) → is_none (node_at g k) ≡ true → node_at g k ≡ None
none_at g k h = by_entry (node_at g k) refl h
  where
    by_entry : (entry : Option Node) → node_at g k ≡ entry → is_none entry ≡ true → node_at g k ≡ None
    by_entry None e h = e
    by_entry (Some node) e h = absurd (cc)
