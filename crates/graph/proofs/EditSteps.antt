-- What an edit of one stored node is of the graph, and that each edit keeps the links in their groups.
use Rattle.std.proofs.Common.{◌≡◌, ◌≢◌, ℕ, zero, suc, ◌<◌, ◌≤◌, ◌^◌, List, [], ◌∷◌, ◌++◌, Option, Some, None, refl, sym, ap, ◌∙◌, subst, arith, map, set, length, get_or, inl, inr, ◌⊎◌}
use Rattle.std.specs.Prelude.{option_map, remove, Result, Ok, Err, OnOk, OnErr}
use Rattle.rp_text.specs.declared.NoMemory.{NoMemory}
use Rattle.std.proofs.lemmas.List.{map-set, length-map, length-append}
use Rattle.std.proofs.lemmas.Bool.{cases_eq}
use Rattle.graph.specs.declared.Node.{Node as StoredNode}
use Rattle.graph.specs.declared.Link.{Link}
use Rattle.graph.specs.Graph.{Node, Nodes, node_at}
use Rattle.graph.specs.Links.{in_groups}
use Rattle.graph.specs.Stored.{plain, plain_nodes, room_at, IsStored}
use Rattle.graph.specs.Edits.{change, with_link, without_link, renamed, renamed_link, folded, standing_for, drop_set}
use Rattle.graph.proofs.NodeSteps.{node_at-plain}
use Rattle.graph.proofs.GroupSteps.{in_groups-twice, length-in_groups, in_groups-remove, in_groups-renamed, length-remove_le}

-- a stored node is replaced by one that is a change of it
pub change-plain : (f : Node → Node) (entries : List (Option StoredNode)) (key : ℕ) (old new : StoredNode) → get_or entries key None ≡ Some old → plain new ≡ f (plain old) →
    plain_nodes (set entries key (Some new)) ≡ change f (plain_nodes entries) key
change-plain f entries key old new here e =
    map-set (option_map plain) entries key (Some new)
    ∙ ap (set (plain_nodes entries) key) (ap Some e ∙ ap (option_map f) (sym (node_at-plain entries key ∙ ap (option_map plain) here)))

-- what stands under the keys after a change of one
entry_after : (g : Nodes) (key : ℕ) (entry : Option Node) (other : ℕ) (node : Node) → node_at (set g key entry) other ≡ Some node → ((other ≡ key) × (entry ≡ Some node)) ⊎ (node_at g other ≡ Some node)
entry_after [] key entry other node h = inr h
entry_after (n ∷ g) zero entry zero node h = inl (refl, h)
entry_after (n ∷ g) zero entry (suc other) node h = inr h
entry_after (n ∷ g) (suc key) entry zero node h = inr h
entry_after (n ∷ g) (suc key) entry (suc other) node h = elim (entry_after g key entry other node h) [
  | inl a ↦ inl (ap (λ n. suc n) a.0, a.1)
  | inr b ↦ inr b
]

-- a graph stays stored where the entry that comes in may be stored
pub stored_after_set : (g : Nodes) (key : ℕ) (entry : Option Node) → IsStored g → ((node : Node) → entry ≡ Some node → (in_groups node.links ≡ node.links) × (length node.links ≤ 2 ^ 32)) → IsStored (set g key entry)
stored_after_set g key entry stored h = record {
  groups = λ other node e. elim (entry_after g key entry other node e) [ inl a ↦ (h node a.1).0 | inr b ↦ stored.groups other node b ];
  few = λ other node e. elim (entry_after g key entry other node e) [ inl a ↦ (h node a.1).1 | inr b ↦ stored.few other node b ];
}

pub stored_after_change : (f : Node → Node) (g : Nodes) (key : ℕ) → IsStored g →
    ((node : Node) → node_at g key ≡ Some node → (in_groups (f node).links ≡ (f node).links) × (length (f node).links ≤ 2 ^ 32)) → IsStored (change f g key)
stored_after_change f g key stored h = stored_after_set g key (option_map f (node_at g key)) stored (λ node e. by_entry (node_at g key) refl node e)
  where
    by_entry : (entry : Option Node) → node_at g key ≡ entry → (node : Node) → option_map f entry ≡ Some node → (in_groups node.links ≡ node.links) × (length node.links ≤ 2 ^ 32)
    by_entry None e node q = absurd (cc)
    by_entry (Some old) e node q = let same : f old ≡ node = cc in subst (λ n. (in_groups n.links ≡ n.links) × (length n.links ≤ 2 ^ 32)) same (h old e)

-- dropping nodes keeps the others
pub stored_after_drop : (g : Nodes) (keys : List ℕ) → IsStored g → IsStored (drop_set g keys)
stored_after_drop g [] stored = stored
stored_after_drop g (key ∷ keys) stored = stored_after_drop (set g key None) keys (stored_after_set g key None stored (λ node e. absurd (cc)))

-- where a node stands, it stands in the plain graph
pub node_here : (entries : List (Option StoredNode)) (key : ℕ) (old : StoredNode) → get_or entries key None ≡ Some old → node_at (plain_nodes entries) key ≡ Some (plain old)
node_here entries key old here = node_at-plain entries key ∙ ap (option_map plain) here

-- a graph stays stored where the node that comes in may be stored
pub stored_after_put : (entries : List (Option StoredNode)) (key : ℕ) (new : StoredNode) → IsStored (plain_nodes entries) →
    (in_groups new.links.items ≡ new.links.items) × (length new.links.items ≤ 2 ^ 32) → IsStored (plain_nodes (set entries key (Some new)))
stored_after_put entries key new stored h = subst IsStored (sym (map-set (option_map plain) entries key (Some new)))
    (stored_after_set (plain_nodes entries) key (Some (plain new)) stored
    (λ node e. let same : plain new ≡ node = cc in subst (λ (n : Node). (in_groups n.links ≡ n.links) × (length n.links ≤ 2 ^ 32)) same h))

-- after a link was put in, or not, the links are in their groups and not too many
pub groups_after_add : (r : Result (Unit {0}) NoMemory) (link : Link) (old new : StoredNode) → OnOk r (plain new ≡ with_link link (plain old)) → OnOk r (length old.links.items < 2 ^ 32) → OnErr r (new ≡ old) →
    in_groups old.links.items ≡ old.links.items → length old.links.items ≤ 2 ^ 32 → (in_groups new.links.items ≡ new.links.items) × (length new.links.items ≤ 2 ^ 32)
groups_after_add (Ok u) link old new ok less err groups few =
    let links : new.links.items ≡ in_groups (old.links.items ++ link ∷ []) = ap (λ (n : Node). n.links) ok in (
      rw links (in_groups-twice (old.links.items ++ link ∷ [])),
      rw (links, length-in_groups (old.links.items ++ link ∷ []), length-append old.links.items (link ∷ [])) (omega arith),
    )
groups_after_add (Err e) link old new ok less err groups few = rw err (groups, few)

pub groups_after_drop : (index : ℕ) (old new : StoredNode) → plain new ≡ without_link index (plain old) → in_groups old.links.items ≡ old.links.items → length old.links.items ≤ 2 ^ 32 →
    (in_groups new.links.items ≡ new.links.items) × (length new.links.items ≤ 2 ^ 32)
groups_after_drop index old new e groups few =
    let links : new.links.items ≡ remove old.links.items index = ap (λ (n : Node). n.links) e in
    (rw links (in_groups-remove old.links.items index groups), rw links (omega (arith, length-remove_le old.links.items index)))

pub groups_after_fold : (value : ℕ) (old new : StoredNode) → plain new ≡ folded value (plain old) → (in_groups new.links.items ≡ new.links.items) × (length new.links.items ≤ 2 ^ 32)
groups_after_fold value old new e =
    let links : new.links.items ≡ [] = ap (λ (n : Node). n.links) e in (rw links refl, rw links (omega arith))

pub no_links_stored : (links : List Link) → links ≡ [] → (in_groups links ≡ links) × (length links ≤ 2 ^ 32)
no_links_stored links e = (rw e refl, rw e (omega arith))

pub groups_after_reserve : (old new : StoredNode) → plain new ≡ plain old → in_groups old.links.items ≡ old.links.items → length old.links.items ≤ 2 ^ 32 →
    (in_groups new.links.items ≡ new.links.items) × (length new.links.items ≤ 2 ^ 32)
groups_after_reserve old new e groups few =
    let links : new.links.items ≡ old.links.items = ap (λ (n : Node). n.links) e in (rw links groups, rw links few)

-- the room at each key after a node was written
pub room_after_same : (entries : List (Option StoredNode)) (key : ℕ) (old new : StoredNode) → get_or entries key None ≡ Some old → get_or (map room_at (set entries key (Some new))) key 0 ≡ new.links.spare
room_after_same [] key old new here = absurd (cc)
room_after_same (n ∷ entries) zero old new here = refl
room_after_same (n ∷ entries) (suc key) old new here = room_after_same entries key old new here

pub room_after_other : (entries : List (Option StoredNode)) (key : ℕ) (entry : Option StoredNode) (other : ℕ) → other ≢ key → get_or (map room_at (set entries key entry)) other 0 ≡ get_or (map room_at entries) other 0
room_after_other [] key entry other n = refl
room_after_other (e ∷ entries) zero entry zero n = absurd (n refl)
room_after_other (e ∷ entries) zero entry (suc other) n = refl
room_after_other (e ∷ entries) (suc key) entry zero n = refl
room_after_other (e ∷ entries) (suc key) entry (suc other) n = room_after_other entries key entry other (λ e. n (ap (λ k. suc k) e))

pub room_here : (entries : List (Option StoredNode)) (key : ℕ) (old : StoredNode) → get_or entries key None ≡ Some old → get_or (map room_at entries) key 0 ≡ old.links.spare
room_here [] key old here = absurd (cc)
room_here (n ∷ entries) zero old here = ap room_at here
room_here (n ∷ entries) (suc key) old here = room_here entries key old here

-- no room is lost where the node that comes in has no less
pub room_kept : (entries : List (Option StoredNode)) (key : ℕ) (old new : StoredNode) → get_or entries key None ≡ Some old → old.links.spare ≤ new.links.spare →
    (other : ℕ) → get_or (map room_at entries) other 0 ≤ get_or (map room_at (set entries key (Some new))) other 0
room_kept entries key old new here more other = elim (cases_eq other key) [
  | inl e ↦ rw e (let a = room_here entries key old here in let b = room_after_same entries key old new here in omega (arith, a, b, more))
  | inr n ↦ omega (arith, room_after_other entries key (Some new) other n)
]

-- after all links from one were given to another
entry_renamed : (f : Node → Node) (g : Nodes) (key : ℕ) (node : Node) → node_at (map (option_map f) g) key ≡ Some node → (old : Node) × (node_at g key ≡ Some old) × (f old ≡ node)
entry_renamed f [] key node h = absurd (cc)
entry_renamed f (None ∷ g) zero node h = absurd (cc)
entry_renamed f (Some old ∷ g) zero node h = (old, refl, cc)
entry_renamed f (n ∷ g) (suc key) node h = entry_renamed f g key node h

pub stored_after_renamed : (keep gone : ℕ) (g : Nodes) → IsStored g → IsStored (map (option_map (renamed keep gone)) g)
stored_after_renamed keep gone g stored = record {
  groups = λ key node e.
      let was = entry_renamed (renamed keep gone) g key node e in
      subst (λ (n : Node). in_groups n.links ≡ n.links) was.2 (in_groups-renamed keep gone was.0.links ∙ ap (map (renamed_link keep gone)) (stored.groups key was.0 was.1));
  few = λ key node e.
      let was = entry_renamed (renamed keep gone) g key node e in
      subst (λ (n : Node). length n.links ≤ 2 ^ 32) was.2 (rw (length-map was.0.links (renamed_link keep gone)) (stored.few key was.0 was.1));
}

-- one node takes the places of another, which goes
pub standing-plain : (entries : List (Option StoredNode)) (keep gone : ℕ) (a b new : StoredNode) → get_or entries keep None ≡ Some a → get_or entries gone None ≡ Some b →
    plain new ≡ record (plain a) { also = a.also.items.items ++ b.pos ∷ b.also.items.items } →
    plain_nodes (set (set entries keep (Some new)) gone None) ≡ set (change (standing_for (node_at (plain_nodes entries) gone)) (plain_nodes entries) keep) gone None
standing-plain entries keep gone a b new here_a here_b e =
    map-set (option_map plain) (set entries keep (Some new)) gone None
    ∙ ap (λ (g : Nodes). set g gone None) (change-plain (standing_for (node_at (plain_nodes entries) gone)) entries keep a new here_a
    (e ∙ ap (λ (entry : Option Node). standing_for entry (plain a)) (sym (node_here entries gone b here_b))))
