-- A graph of good nodes is sound.
use Rattle.std.proofs.Common.{◌≡◌, ◌≢◌, ◌⊎◌, ℕ, zero, suc, ◌+◌, ◌<◌, ◌≤◌, Bool, true, false, List, [], ◌∷◌, ◌++◌, length, Option, Some, None, refl, sym, ap, ◌∙◌, subst, arith, inl, inr, pos}
use Rattle.std.specs.Prelude.{◌==◌, ◌&&◌, ◌||◌, nat_le, nat_lt, is_some, slice_get, IfSome, if◌then◌else◌}
use Rattle.std.specs.List.{list_all}
use Rattle.std.specs.Ordering.{int_eq}
use Rattle.std.proofs.lemmas.Bool.{and_parts, eqb-true, leb-true}
use Rattle.std.proofs.lemmas.Bool.Decides.{Decides-int_eq}
use Rattle.circuit.specs.declared.Pos.{Pos}
use Rattle.circuit.specs.Circuit.{Each, EachBefore, Among}
use Rattle.graph.specs.declared.Kind.{Kind}
use Rattle.graph.specs.declared.Kind.TheVariants.{Button, Repeater, Comparator}
use Rattle.graph.specs.declared.Link.{Link}
use Rattle.graph.specs.Graph.{Node, Nodes, node_at}
use Rattle.graph.specs.GraphCircuit.{role_of}
use Rattle.graph.specs.Sound.{can_wait, top_of, IsKindInRange, IsSoundNode, places_of, IsSound}
use Rattle.graph.proofs.ListedSteps.{among_keys}
use Rattle.node_arena.specs.Items.{keys_of}
use Rattle.plain_machine.specs.Good.{is_small, is_kind_good, is_tick_good, is_link_good, is_alone, is_node_good, is_entry_good, is_key_good, is_good}

either_true : (a b : Bool) → a || b ≡ true → (a ≡ true) ⊎ (b ≡ true)
either_true true b h = inl refl
either_true false b h = inr h

small : (o : Option ℕ) → is_small o ≡ true → IfSome o (λ strength. strength ≤ 15)
small None h = tt
small (Some s) h = leb-true s 15 h

in_range : (kind : Kind) → is_kind_good kind ≡ true → IsKindInRange kind
in_range (Button delay) h = elim (either_true (delay == 10) (delay == 15) h) [ inl e ↦ inl (eqb-true delay 10 e) | inr e ↦ inr (eqb-true delay 15 e) ]
in_range (Repeater delay) h = let parts = and_parts (nat_le 1 delay) (nat_le delay 4) h in (leb-true 1 delay parts.0, leb-true delay 4 parts.1)
in_range (Comparator subtract direct far) h = let parts = and_parts (is_small direct) (is_small far) h in (small direct parts.0, small far parts.1)
in_range _ h = tt

all_here : (test : Link → Bool) (links : List Link) → list_all test links ≡ true → (index : ℕ) (link : Link) → slice_get links index ≡ Some link → test link ≡ true
all_here test [] h index link e = absurd (cc)
all_here test (l ∷ links) h zero link e = let parts = and_parts (test l) (list_all test links) h in let same : l ≡ link = cc in ap test (sym same) ∙ parts.0
all_here test (l ∷ links) h (suc index) link e = let parts = and_parts (test l) (list_all test links) h in all_here test links parts.1 index link e

otherwise : (b x y : Bool) → (if b then x else y) ≡ true → (b ≡ true → ⊥) → y ≡ true
otherwise true x y h never = absurd (never refl)
otherwise false x y h never = h

record TickFits (kind : Kind) (ticks rank : ℕ) : Type 0 where
  due : ticks ≤ 15
  priority : rank ≤ 3
  waiting : ticks ≢ 0 → can_wait kind ≡ true
  idle : ticks ≡ 0 → rank ≡ 0

tick_fits : (kind : Kind) (due priority : ℕ) → is_tick_good kind due priority ≡ true → TickFits kind due priority
tick_fits kind zero priority h =
    let none : priority ≡ 0 = eqb-true priority 0 h in
    record { due = omega arith; priority = omega (arith, none); waiting = λ w. absurd (w refl); idle = λ i. none }
tick_fits kind (suc left) priority h =
    let waits : can_wait kind && (nat_le (suc left) 15 && nat_le priority 3) ≡ true = otherwise (suc left == 0) (priority == 0) _ h (λ e. let none : suc left ≡ 0 = eqb-true (suc left) 0 e in absurd (omega (arith, none))) in
    let a = and_parts (can_wait kind) (nat_le (suc left) 15 && nat_le priority 3) waits in
    let b = and_parts (nat_le (suc left) 15) (nat_le priority 3) a.1 in
    record { due = leb-true (suc left) 15 b.0; priority = leb-true priority 3 b.1; waiting = λ w. a.0; idle = λ i. absurd (omega (arith, i)) }

record Good (g : Nodes) (key : ℕ) (node : Node) : Type 0 where
  sound : IsSoundNode g node
  x : node.pos.x ≡ pos key
  alone : length node.also ≡ 0

good_node : (g : Nodes) (key : ℕ) (node : Node) → is_node_good g key node ≡ true → Good g key node
good_node g key node h =
    let a = and_parts (nat_le node.state (top_of (role_of node.kind))) _ h in
    let b = and_parts (is_kind_good node.kind) _ a.1 in
    let c = and_parts (is_tick_good node.kind node.due node.priority) _ b.1 in
    let e = and_parts (list_all (is_link_good g) node.links) (is_alone key node) c.1 in
    let f = and_parts (int_eq node.pos.x (pos key)) (length node.also == 0) e.1 in
    let tick = tick_fits node.kind node.due node.priority c.0 in
    record {
      sound = record {
        state = leb-true node.state (top_of (role_of node.kind)) a.0;
        kind = in_range node.kind b.0;
        due = tick.due;
        priority = tick.priority;
        waiting = tick.waiting;
        idle = tick.idle;
        links = λ index link at.
            let parts = and_parts (nat_le link.weight 15) (is_some (node_at g link.from)) (all_here (is_link_good g) node.links e.0 index link at) in
            (leb-true link.weight 15 parts.0, parts.1);
      };
      x = (Decides-int_eq node.pos.x (pos key)).0 f.0;
      alone = eqb-true (length node.also) 0 f.1;
    }

no_more : {A : Type 0} (xs : List A) → length xs ≡ 0 → xs ≡ []
no_more [] h = refl
no_more (x ∷ xs) h = absurd (omega arith)

abbrev AllGood : Nodes → ℕ → Nodes → Type 0
AllGood whole from g = (key : ℕ) (node : Node) → node_at g key ≡ Some node → Good whole (from + key) node

next_good : (whole : Nodes) (from : ℕ) (entry : Option Node) (g : Nodes) → AllGood whole from (entry ∷ g) → AllGood whole (suc from) g
next_good whole from entry g all key node e = subst (λ k. Good whole k node) (omega arith) (all (suc key) node e)

places_beyond : (whole : Nodes) (p : Pos) (low from : ℕ) (g : Nodes) → p.x ≡ pos low → low < from → AllGood whole from g → Each (λ q. p ≢ q) (places_of g)
places_beyond whole p low from [] x below all = tt
places_beyond whole p low from (None ∷ g) x below all = places_beyond whole p low (suc from) g x (omega arith) (next_good whole from None g all)
places_beyond whole p low from (Some node ∷ g) x below all =
    let here : Good whole (from + 0) node = all 0 node refl in
    let none : node.also ≡ [] = no_more node.also here.alone in
    let apart : p ≢ node.pos = λ e. let same : pos low ≡ pos (from + 0) = sym x ∙ ap (λ (q : Pos). q.x) e ∙ here.x in let number : low ≡ from + 0 = cc in absurd (omega arith) in
    subst (λ (l : List Pos). Each (λ q. p ≢ q) ((node.pos ∷ l) ++ places_of g)) (sym none) (apart, places_beyond whole p low (suc from) g x (omega arith) (next_good whole from (Some node) g all))

places_apart : (whole : Nodes) (from : ℕ) (g : Nodes) → AllGood whole from g → EachBefore (λ a b. a ≢ b) (places_of g)
places_apart whole from [] all = tt
places_apart whole from (None ∷ g) all = places_apart whole (suc from) g (next_good whole from None g all)
places_apart whole from (Some node ∷ g) all =
    let here : Good whole (from + 0) node = all 0 node refl in
    let none : node.also ≡ [] = no_more node.also here.alone in
    let rest = next_good whole from (Some node) g all in
    subst (λ (l : List Pos). EachBefore (λ a b. a ≢ b) ((node.pos ∷ l) ++ places_of g)) (sym none) (places_beyond whole node.pos (from + 0) (suc from) g here.x (omega arith) rest, places_apart whole (suc from) g rest)

each_among : (test : ℕ → Bool) (keys : List ℕ) (key : ℕ) → list_all test keys ≡ true → Among keys key → test key ≡ true
each_among test [] key h among = absurd among
each_among test (k ∷ keys) key h among = let parts = and_parts (test k) (list_all test keys) h in elim among [ inl e ↦ ap test e ∙ parts.0 | inr more ↦ each_among test keys key parts.1 more ]

pub sound_where_good : (g : Nodes) → is_good g ≡ true → IsSound g
sound_where_good g good = record {
  each = λ key node e. (all key node e).sound;
  apart = places_apart g 0 g (λ key node e. subst (λ k. Good g k node) (omega arith) (all key node e));
}
  where
    all : (key : ℕ) (node : Node) → node_at g key ≡ Some node → Good g key node
    all key node e =
        let among : Among (keys_of g) key = subst (Among (keys_of g)) (omega arith) (among_keys 0 key g node e) in
        let parts = and_parts (nat_lt key 100) (is_entry_good g key (node_at g key)) (each_among (is_key_good g) (keys_of g) key good among) in
        good_node g key node (ap (is_entry_good g key) (sym e) ∙ parts.1)
