-- A graph that passes the test is sound.
use Rattle.std.proofs.Common.{◌≡◌, ◌≢◌, ℕ, zero, suc, Bool, true, not, ◌&&◌, List, [], ◌∷◌, Option, Some, None, sym, ◌∙◌, subst, arith, inl}
use Rattle.std.specs.Prelude.{◌==◌, nat_le, slice_get, is_some}
use Rattle.std.specs.List.{list_all}
use Rattle.std.proofs.lemmas.Bool.{false≢true, and_parts, not-true, eqb-true, leb-true}
use Rattle.circuit.specs.declared.Pos.{Pos}
use Rattle.circuit.specs.Circuit.{Each, EachBefore}
use Rattle.graph.specs.declared.Kind.{Kind}
use Rattle.graph.specs.declared.Kind.TheVariants.{Button, Repeater, Comparator}
use Rattle.graph.specs.Graph.{Node, Nodes, node_at, Lives}
use Rattle.graph.specs.GraphCircuit.{role_of}
use Rattle.graph.specs.Sound.{IsSound, IsSoundNode, IsKindInRange, top_of, places_of}
use Rattle.graph.specs.Clicks.{is_same_place}
use Rattle.prune.specs.Sample.{is_plain, is_sound_link, is_sound_entry, are_apart, is_sound}

all_at : {A : Type 0} (test : A → Bool) (xs : List A) (i : ℕ) (x : A) → list_all test xs ≡ true → slice_get xs i ≡ Some x → test x ≡ true
all_at test [] i x h at = absurd (cc)
all_at test (y ∷ xs) zero x h at = let same : y ≡ x = cc in subst (λ z. test z ≡ true) same (and_parts (test y) (list_all test xs) h).0
all_at test (y ∷ xs) (suc i) x h at = all_at test xs i x (and_parts (test y) (list_all test xs) h).1 at

entry_at : (test : Option Node → Bool) (g : Nodes) (key : ℕ) (node : Node) → list_all test g ≡ true → node_at g key ≡ Some node → test (Some node) ≡ true
entry_at test [] key node h there = absurd (cc)
entry_at test (entry ∷ g) zero node h there = subst (λ e. test e ≡ true) there (and_parts (test entry) (list_all test g) h).0
entry_at test (entry ∷ g) (suc key) node h there = entry_at test g key node (and_parts (test entry) (list_all test g) h).1 there

plain_range : (kind : Kind) → is_plain kind ≡ true → IsKindInRange kind
plain_range (Button delay) h = inl (eqb-true delay 10 h)
plain_range (Repeater delay) h = let p = and_parts (nat_le 1 delay) (nat_le delay 4) h in (leb-true 1 delay p.0, leb-true delay 4 p.1)
plain_range (Comparator subtract None None) h = (tt, tt)
plain_range (Comparator subtract direct far) h = absurd (false≢true h)
plain_range _ h = tt

lives_where : (g : Nodes) (key : ℕ) → is_some (node_at g key) ≡ true → Lives g key
lives_where g key h = h

node_sound : (g : Nodes) (node : Node) → is_sound_entry g (Some node) ≡ true → IsSoundNode g node
node_sound g node h =
    let both = and_parts (nat_le node.state (top_of (role_of node.kind)) && is_plain node.kind) ((node.due == 0 && node.priority == 0) && list_all (is_sound_link g) node.links) h in
    let kind = and_parts (nat_le node.state (top_of (role_of node.kind))) (is_plain node.kind) both.0 in
    let rest = and_parts (node.due == 0 && node.priority == 0) (list_all (is_sound_link g) node.links) both.1 in
    let tick = and_parts (node.due == 0) (node.priority == 0) rest.0 in
    let due : node.due ≡ 0 = eqb-true node.due 0 tick.0 in
    let priority : node.priority ≡ 0 = eqb-true node.priority 0 tick.1 in
    record {
      state = leb-true node.state (top_of (role_of node.kind)) kind.0;
      kind = plain_range node.kind kind.1;
      due = omega arith;
      priority = omega arith;
      waiting = λ n. absurd (n due);
      idle = λ e. priority;
      links = λ i link at.
          let one = and_parts (nat_le link.weight 15) (is_some (node_at g link.from)) (all_at (is_sound_link g) node.links i link rest.1 at) in
          (leb-true link.weight 15 one.0, lives_where g link.from one.1);
    }

place_itself : (p : Pos) → is_same_place p p ≡ true
place_itself p = grind arith

apart_each : (place : Pos) (places : List Pos) → list_all (λ other. not (is_same_place place other)) places ≡ true → Each (λ other. place ≢ other) places
apart_each place [] h = tt
apart_each place (other ∷ places) h =
    let both = and_parts (not (is_same_place place other)) (list_all (λ q. not (is_same_place place q)) places) h in (
      λ e. false≢true (sym (not-true (is_same_place place other) both.0) ∙ subst (λ q. is_same_place place q ≡ true) e (place_itself place)),
      apart_each place places both.1,
    )

places_apart : (places : List Pos) → are_apart places ≡ true → EachBefore (λ a b. a ≢ b) places
places_apart [] h = tt
places_apart (place ∷ places) h =
    let both = and_parts (list_all (λ other. not (is_same_place place other)) places) (are_apart places) h in
    (apart_each place places both.0, places_apart places both.1)

pub sound_where : (g : Nodes) → is_sound g ≡ true → IsSound g
sound_where g h =
    let both = and_parts (list_all (is_sound_entry g) g) (are_apart (places_of g)) h in
    record { each = λ key node there. node_sound g node (entry_at (is_sound_entry g) g key node both.0 there); apart = places_apart (places_of g) both.1 }
