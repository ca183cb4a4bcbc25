-- The links into a node, one after another, and what a graph begins with.
use Rattle.std.proofs.Common.{◌≡◌, ℕ, zero, suc, ◌+◌, ◌<◌, ◌≤◌, ◌^◌, Bool, true, false, cond, List, [], ◌∷◌, ◌++◌, length, map, length-append, length-take, get_or, set, take, Option, Some, None, refl, sym, ap, ◌∙◌, subst, arith, inl, inr}
use Rattle.std.specs.Prelude.{◌==◌, ◌&&◌, count_by, All, IfSome, IsSome, nat_lt}
use Rattle.std.proofs.lemmas.Bool.{cases_Bool, cases_eq, cases_lt, eq-eqb, ne_eqb, lt-ltb, le-ltb, false≢true}
use Rattle.std.proofs.lemmas.List.{get_or-set_same, get_or-set_other, get_or_past, take_all, length-map}
use Rattle.std.proofs.Math.ListN.{get_or-map}
use Rattle.std.proofs.lemmas.List.Sums.{sum_by-cons, sum_by-append, sum_by_more, count_by-le-length}
use Rattle.std.proofs.lemmas.Option.{slice_get-get_or}
use Rattle.circuit.specs.declared.Component.{Component}
use Rattle.circuit.specs.Component.{top}
use Rattle.circuit.specs.Circuit.{outs, out_at}
use Rattle.graph.specs.declared.Group.{Group}
use Rattle.graph.specs.declared.Group.TheVariants.{Back, Side}
use Rattle.graph.specs.declared.Link.{Link}
use Rattle.graph.specs.Graph.{Node, Nodes, node_at, Lives}
use Rattle.graph.specs.GraphCircuit.{role_of, role_at, base_of, base_at, begin_of, begin_at, graph_circuit}
use Rattle.graph.specs.Sound.{top_of, IsSoundNode, IsSound}
use Rattle.node_arena.specs.Items.{keys_from}
use Rattle.link_counts.specs.declared.counts.Counts.{Counts}
use Rattle.graph_machine.specs.declared.links.OutLink.{OutLink}
use Rattle.graph_machine.specs.declared.net.Part.{Part}
use Rattle.graph_machine.specs.Outgoing.{links_at, links_from, outgoing}
use Rattle.link_counts.specs.Counted.{one_if, count_at, no_counts, tally}
use Rattle.graph_machine.specs.Counted.{is_strength, brings, row, hits, comes}
use Rattle.circuit.proofs.Bounded.{outs_le, bounded_is_invariant}
use Rattle.graph.proofs.BoundSteps.{graph_is_bounded}
use Rattle.graph.proofs.ListedSteps.{test_of_keys}
use Rattle.graph_machine.specs.declared.net.Brief.{Brief}
use Rattle.graph_machine.specs.Wired.{given, part_at, no_brief, brief_by, IsWired}
use Rattle.graph_machine.specs.Wiring.{IsSmall, role_out, part_out, WiresLinks, entry_below, WiredBelow, WiredUp, IsKept}
use Rattle.link_counts.proofs.TableSteps.{tally-push}
use Rattle.graph_machine.proofs.CountSteps.{count_cons}

count_push : {A : Type 0} (p : A → Bool) (xs : List A) (x : A) → count_by p (xs ++ x ∷ []) ≡ count_by p xs + one_if (p x)
count_push p xs x = omega (arith, sum_by-append (λ y. one_if (p y)) xs (x ∷ []), count_cons p x [])

count_more : {A : Type 0} (p : A → Bool) (xs : List A) (i : ℕ) (x : A) → i < length xs → x ≡ get_or xs i x → count_by p (take (i + 1) xs) ≡ count_by p (take i xs) + one_if (p x)
count_more p xs i x inside here = sum_by_more (λ y. one_if (p y)) xs i x inside ∙ ap (λ y. count_by p (take i xs) + one_if (p y)) (sym here)

row-set : (rows : List (List OutLink)) (at from : ℕ) (new : List OutLink) → at < length rows → row (set rows at new) from ≡ cond (at == from) new (row rows from)
row-set rows at from new inside = elim (cases_eq at from) [
  | inl e ↦ rw (eq-eqb at from e, sym e) (get_or-set_same rows at new [] inside)
  | inr n ↦ rw (ne_eqb at from n) (get_or-set_other rows at from new [] (λ e. n (sym e)))
]

length-set : {A : Type 0} (xs : List A) (i : ℕ) (x : A) → length (set xs i x) ≡ length xs
length-set [] i x = refl
length-set (y ∷ xs) zero x = refl
length-set (y ∷ xs) (suc i) x = ap suc (length-set xs i x)

cond_none : (b : Bool) → cond {A = ℕ} b 0 0 ≡ 0
cond_none true = refl
cond_none false = refl

pub wires_none : (given : ℕ → ℕ) (key : ℕ) (counts : Counts) (before : List (List OutLink)) → ((group : Group) (strength : ℕ) → strength < 16 → count_at counts group strength ≡ 0) → WiresLinks given key [] counts before before
wires_none given key counts before none = record {
  counted = none;
  same = λ test from to. omega (arith, cond_none (key == to));
  count = λ from. omega arith;
  inside = λ from all. all;
  whole = refl;
}

all_push : {A : Type 0} (P : A → Type 0) (xs : List A) (x : A) → All P xs → P x → All P (xs ++ x ∷ [])
all_push P [] x all here zero d below = here
all_push P [] x all here (suc k) d below = absurd (omega arith)
all_push P (y ∷ xs) x all here zero d below = all 0 d (omega arith)
all_push P (y ∷ xs) x all here (suc k) d below = all_push P xs x (λ j e h. all (suc j) e (omega arith)) here k d (omega arith)

pub wires_more : (given : ℕ → ℕ) (key : ℕ) (links : List Link) (i : ℕ) (link : Link) (counts next : Counts) (before now after : List (List OutLink)) → i < length links → link ≡ get_or links i link →
    link.from < length before → key < length before → WiresLinks given key (take i links) counts before now →
    ((group : Group) (strength : ℕ) → count_at next group strength ≡ count_at counts group strength + one_if (is_strength (given link.from) group strength link.group link.weight)) →
    after ≡ set now link.from (row now link.from ++ record { to = key; group = link.group; weight = link.weight } ∷ []) → WiresLinks given key (take (i + 1) links) next before after
wires_more given key links i link counts next before now after inside here from_inside key_inside so_far added put = record {
  counted = λ group strength small. omega (arith, added group strength, so_far.counted group strength small, count_more (brings given group strength) links i link inside here);
  same = λ test from to.
      let far = so_far.same test from to in
      let more = count_more (λ (l : Link). (l.from == from) && test l.group l.weight) links i link inside here in
      elim (cases_eq link.from from) [
        | inl e ↦
            (let same : (link.from == from) ≡ true = eq-eqb link.from from e in
            let row_is : row after from ≡ row now from ++ one ∷ [] = row_after from ∙ rw (same, e) refl in
            let hit : hits test to (row after from) ≡ hits test to (row now from) + one_if ((key == to) && test link.group link.weight) =
            ap (hits test to) row_is ∙ count_push (λ (o : OutLink). (o.to == to) && test o.group o.weight) (row now from) one in
            let more_here : comes test from (take (i + 1) links) ≡ comes test from (take i links) + one_if (test link.group link.weight) = rw same at more in
            elim (cases_Bool (key == to)) [
              | inl k ↦
                  (let far_here : hits test to (row now from) ≡ hits test to (row before from) + comes test from (take i links) = rw k at far in
                  let hit_here : hits test to (row after from) ≡ hits test to (row now from) + one_if (test link.group link.weight) = rw k at hit in
                  rw k (omega (arith, far_here, hit_here, more_here)))
              | inr k ↦
                  (let far_here : hits test to (row now from) ≡ hits test to (row before from) + 0 = rw k at far in
                  let hit_here : hits test to (row after from) ≡ hits test to (row now from) + 0 = rw k at hit in
                  rw k (omega (arith, far_here, hit_here)))
            ])
        | inr n ↦
            (let same : (link.from == from) ≡ false = ne_eqb link.from from n in
            let row_is : row after from ≡ row now from = row_after from ∙ rw same refl in
            let hit : hits test to (row after from) ≡ hits test to (row now from) = ap (hits test to) row_is in
            let more_here : comes test from (take (i + 1) links) ≡ comes test from (take i links) + 0 = rw same at more in
            let whole : comes test from (take (i + 1) links) ≡ comes test from (take i links) = omega (arith, more_here) in
            hit ∙ far ∙ ap (λ n. hits test to (row before from) + cond (key == to) n 0) (sym whole))
      ];
  count = λ from.
      let far = so_far.count from in
      let more = count_more (λ (l : Link). l.from == from) links i link inside here in
      elim (cases_eq link.from from) [
        | inl e ↦
            (let same : (link.from == from) ≡ true = eq-eqb link.from from e in
            let row_is : row after from ≡ row now from ++ one ∷ [] = row_after from ∙ rw (same, e) refl in
            let long : length (row after from) ≡ length (row now from ++ one ∷ []) = ap (λ l. length l) row_is in
            let more_here : count_by (λ (l : Link). l.from == from) (take (i + 1) links) ≡ count_by (λ (l : Link). l.from == from) (take i links) + 1 = rw same at more in
            omega (arith, far, long, more_here, length-append (row now from) (one ∷ [])))
        | inr n ↦
            (let same : (link.from == from) ≡ false = ne_eqb link.from from n in
            let row_is : row after from ≡ row now from = row_after from ∙ rw same refl in
            let long : length (row after from) ≡ length (row now from) = ap (λ l. length l) row_is in
            let more_here : count_by (λ (l : Link). l.from == from) (take (i + 1) links) ≡ count_by (λ (l : Link). l.from == from) (take i links) + 0 = rw same at more in
            omega (arith, far, long, more_here))
      ];
  inside = λ from all.
      let before_this = so_far.inside from all in
      elim (cases_eq link.from from) [
        | inl e ↦
            (let row_is : row after from ≡ row now from ++ one ∷ [] = row_after from ∙ rw (eq-eqb link.from from e, e) refl in
            subst (All (λ (o : OutLink). o.to < length before)) (sym row_is) (all_push (λ (o : OutLink). o.to < length before) (row now from) one before_this key_inside))
        | inr n ↦ (let row_is : row after from ≡ row now from = row_after from ∙ rw (ne_eqb link.from from n) refl in subst (All (λ (o : OutLink). o.to < length before)) (sym row_is) before_this)
      ];
  whole = ap (λ l. length l) put ∙ length-set now link.from (row now link.from ++ one ∷ []) ∙ so_far.whole;
}
  where
    one : OutLink
    one = record { to = key; group = link.group; weight = link.weight }

    row_after : (from : ℕ) → row after from ≡ cond (link.from == from) (row now link.from ++ one ∷ []) (row now from)
    row_after from = ap (λ l. row l from) put ∙ row-set now link.from from (row now link.from ++ one ∷ []) (omega (arith, from_inside, so_far.whole))

-- ---- what a graph begins with

pub small_part : (g : Nodes) → IsSound g → (key : ℕ) → IsSmall (part_at (node_at g key))
small_part g sound key = by_entry (node_at g key) (sound.each key)
  where
    by_entry : (entry : Option Node) → ((node : Node) → entry ≡ Some node → IsSoundNode g node) → IsSmall (part_at entry)
    by_entry None h = tt
    by_entry (Some node) h = (h node refl).state

pub role_small : (role : Option Component) (state : ℕ) → state ≤ top_of role → IfSome role (λ c. state ≤ top c)
role_small None state h = tt
role_small (Some c) state h = h

begin_out : (role : Option Component) (state due priority : ℕ) → role_out role state ≡ out_at role (base_of role state) (begin_of role (record { value = state; due = due; priority = priority }))
begin_out None state due priority = refl
begin_out (Some c) state due priority = refl

pub part_out-at : (entry : Option Node) → part_out (part_at entry) ≡ out_at (role_at entry) (base_at entry) (begin_at entry)
part_out-at None = refl
part_out-at (Some node) = begin_out (role_of node.kind) node.state node.due node.priority

-- ---- the keys of a graph

-- ---- all nodes, one after another

below_step : (count : ℕ) (g : Nodes) (key : ℕ) → entry_below (count + 1) g key ≡ cond (count == key) (node_at g count) (entry_below count g key)
below_step count g key = elim (cases_eq count key) [
  | inl e ↦ (let low : nat_lt key (count + 1) ≡ true = lt-ltb key (count + 1) (omega arith) in rw (eq-eqb count key e, low) (ap (node_at g) (sym e)))
  | inr n ↦ elim (cases_lt key count) [
    | inl below ↦ rw (ne_eqb count key n, lt-ltb key (count + 1) (omega arith), lt-ltb key count below) refl
    | inr above ↦ rw (ne_eqb count key n, le-ltb key (count + 1) (omega arith), le-ltb key count above) refl
  ]
]

below_none : (g : Nodes) (key : ℕ) → entry_below 0 g key ≡ None
below_none g key = rw (le-ltb key 0 (omega arith)) refl

below_itself : (count : ℕ) (g : Nodes) → entry_below count g count ≡ None
below_itself count g = rw (le-ltb count count (omega arith)) refl

below_all : (count : ℕ) (g : Nodes) → ((key : ℕ) → count ≤ key → node_at g key ≡ None) → (key : ℕ) → entry_below count g key ≡ node_at g key
below_all count g past key = elim (cases_lt key count) [
  | inl below ↦ rw (lt-ltb key count below) refl
  | inr above ↦ rw (le-ltb key count above) (sym (past key above))
]

outgoing_step : (g : Nodes) (count from : ℕ) → outgoing (take (count + 1) g) from ≡ outgoing (take count g) from + links_from from (node_at g count)
outgoing_step g count from = elim (cases_lt count (length g)) [
  | inl below ↦ sum_by_more (links_from from) g count None below
  | inr above ↦
      (let none : links_from from (node_at g count) ≡ 0 = ap (links_from from) (get_or_past g count None above) in
      let now : outgoing (take (count + 1) g) from ≡ outgoing g from = ap (λ l. outgoing l from) (take_all (count + 1) g (omega arith)) in
      let was : outgoing (take count g) from ≡ outgoing g from = ap (λ l. outgoing l from) (take_all count g above) in
      omega (arith, none, now, was))
]

outgoing_none : (g : Nodes) (from : ℕ) → ((key : ℕ) → node_at g key ≡ None) → outgoing g from ≡ 0
outgoing_none [] from none = refl
outgoing_none (entry ∷ g) from none =
    let first : links_from from entry ≡ 0 = ap (links_from from) (none 0) in
    omega (arith, first, sum_by-cons (links_from from) entry g, outgoing_none g from (λ key. none (suc key)))

outgoing_all : (g : Nodes) (count from : ℕ) → ((key : ℕ) → count ≤ key → node_at g key ≡ None) → outgoing (take count g) from ≡ outgoing g from
outgoing_all g zero from past = sym (outgoing_none g from (λ key. past key (omega arith)))
outgoing_all [] (suc count) from past = refl
outgoing_all (entry ∷ g) (suc count) from past =
    omega (arith, sum_by-cons (links_from from) entry (take count g), sum_by-cons (links_from from) entry g, outgoing_all g count from (λ key h. past (suc key) (omega arith)))

pub wired_none : (g : Nodes) (size : ℕ) (given : ℕ → ℕ) (counts : List Counts) (rows : List (List OutLink)) → counts ≡ [] →
    ((from : ℕ) → row rows from ≡ []) → length rows ≡ size → WiredBelow g 0 size given counts rows
wired_none g size given counts rows no_count no_link whole = record {
  counted = λ key group strength small. ap (λ l. tally l key group strength) no_count ∙ none group strength ∙ ap (λ e. count_by (brings given group strength) (links_at e)) (sym (below_none g key));
  same = λ test from to. ap (hits test to) (no_link from) ∙ ap (λ e. comes test from (links_at e)) (sym (below_none g to));
  out = λ from. ap (λ l. length l) (no_link from);
  inside = λ from. subst (All (λ (link : OutLink). link.to < length rows)) (sym (no_link from)) (λ k d below. absurd (omega arith));
  few = λ key. subst (λ e. length (links_at e) < 2 ^ 31) (sym (below_none g key)) (omega arith);
  whole = whole;
}
  where
    none : (group : Group) (strength : ℕ) → count_at no_counts group strength ≡ 0
    none Back strength = refl
    none Side strength = refl

pub wired_more : (g : Nodes) (count size : ℕ) (given : ℕ → ℕ) (counts after : List Counts) (rows next : List (List OutLink)) (c : Counts) → length counts ≡ count → WiredBelow g count size given counts rows →
    WiresLinks given count (links_at (node_at g count)) c rows next → length (links_at (node_at g count)) < 2 ^ 31 → after ≡ counts ++ c ∷ [] → WiredBelow g (count + 1) size given after next
wired_more g count size given counts after rows next c long so_far wires few put = record {
  counted = λ key group strength small.
      let tally_is : tally after key group strength ≡ cond (count == key) (count_at c group strength) (tally counts key group strength) = ap (λ l. tally l key group strength) put ∙ tally-push counts c key group strength ∙ ap (λ n. cond (n == key) (count_at c group strength) (tally counts key group strength)) long in
      tally_is ∙ by_key (λ e. count_by (brings given group strength) (links_at e)) key (count_at c group strength) (tally counts key group strength) (wires.counted group strength small) (so_far.counted key group strength small);
  same = λ test from to.
      wires.same test from to ∙ ap (λ n. n + cond (count == to) (comes test from (links_at (node_at g count))) 0) (so_far.same test from to)
      ∙ elim (cases_eq count to) [
        | inl e ↦
            (let nothing : comes test from (links_at (entry_below count g to)) ≡ 0 = ap (λ e. comes test from (links_at e)) (ap (entry_below count g) (sym e) ∙ below_itself count g) in
            let entry : entry_below (count + 1) g to ≡ node_at g count = below_step count g to ∙ rw (eq-eqb count to e) refl in
            let whole : comes test from (links_at (entry_below (count + 1) g to)) ≡ comes test from (links_at (node_at g count)) = ap (λ e. comes test from (links_at e)) entry in
            rw (eq-eqb count to e) (omega (arith, nothing, whole)))
        | inr n ↦
            (let entry : entry_below (count + 1) g to ≡ entry_below count g to = below_step count g to ∙ rw (ne_eqb count to n) refl in
            let whole : comes test from (links_at (entry_below (count + 1) g to)) ≡ comes test from (links_at (entry_below count g to)) = ap (λ e. comes test from (links_at e)) entry in
            rw (ne_eqb count to n) (omega (arith, whole)))
      ];
  out = λ from. omega (arith, wires.count from, so_far.out from, outgoing_step g count from);
  inside = λ from. subst (λ n. All (λ (link : OutLink). link.to < n) (row next from)) (sym wires.whole) (wires.inside from (so_far.inside from));
  few = λ key. elim (cases_eq count key) [
    | inl e ↦ (let entry : entry_below (count + 1) g key ≡ node_at g count = below_step count g key ∙ rw (eq-eqb count key e) refl in subst (λ e. length (links_at e) < 2 ^ 31) (sym entry) few)
    | inr n ↦ (let entry : entry_below (count + 1) g key ≡ entry_below count g key = below_step count g key ∙ rw (ne_eqb count key n) refl in subst (λ e. length (links_at e) < 2 ^ 31) (sym entry) (so_far.few key))
  ];
  whole = wires.whole ∙ so_far.whole;
}
  where
    by_key : (f : Option Node → ℕ) (key here there : ℕ) → here ≡ f (node_at g count) → there ≡ f (entry_below count g key) → cond (count == key) here there ≡ f (entry_below (count + 1) g key)
    by_key f key here there a b = elim (cases_Bool (count == key)) [
      | inl e ↦ (let entry : entry_below (count + 1) g key ≡ node_at g count = below_step count g key ∙ rw e refl in rw e (a ∙ ap f (sym entry)))
      | inr e ↦ (let entry : entry_below (count + 1) g key ≡ entry_below count g key = below_step count g key ∙ rw e refl in rw e (b ∙ ap f (sym entry)))
    ]

pub wired_all : (g : Nodes) (count : ℕ) (given : ℕ → ℕ) (counts : List Counts) (rows : List (List OutLink)) → ((key : ℕ) → count ≤ key → node_at g key ≡ None) → WiredBelow g count count given counts rows → WiredUp g count given counts rows
wired_all g count given counts rows past wired = record {
  counted = record { each = λ key group strength small. wired.counted key group strength small ∙ ap (λ e. count_by (brings given group strength) (links_at e)) (below_all count g past key) };
  turned = record {
    same = λ test from to. wired.same test from to ∙ ap (λ e. comes test from (links_at e)) (below_all count g past to);
    count = λ from. wired.out from ∙ outgoing_all g count from past;
    inside = wired.inside;
  };
  few = λ key. subst (λ e. length (links_at e) < 2 ^ 31) (below_all count g past key) (wired.few key);
  whole = wired.whole;
}

-- each link comes from a key with a node
pub from_inside : (g : Nodes) (size : ℕ) → IsSound g → ((key : ℕ) → size ≤ key → node_at g key ≡ None) → (key : ℕ) → All (λ (link : Link). link.from < size) (links_at (node_at g key))
from_inside g size sound past key = by_entry (node_at g key) (sound.each key)
  where
    inside : (from : ℕ) → Lives g from → from < size
    inside from lives = elim (cases_lt from size) [
      | inl below ↦ below
      | inr above ↦ absurd (false≢true (subst (λ (e : Option Node). IsSome e) (past from above) lives))
    ]

    by_entry : (entry : Option Node) → ((node : Node) → entry ≡ Some node → IsSoundNode g node) → All (λ (link : Link). link.from < size) (links_at entry)
    by_entry None h k d below = absurd (omega arith)
    by_entry (Some node) h k d below = inside (get_or node.links k d).from ((h node refl).links k (get_or node.links k d) (slice_get-get_or node.links k d below)).1

-- a count is at most the number of links
pub count_few : (given : ℕ → ℕ) (key : ℕ) (links : List Link) (i : ℕ) (counts : Counts) (before now : List (List OutLink)) (group : Group) (strength : ℕ) → strength < 16 → i < length links → length links < 2 ^ 31 →
    WiresLinks given key (take i links) counts before now → count_at counts group strength + 1 < 2 ^ 32
count_few given key links i counts before now group strength small inside few wires =
    omega (arith, wires.counted group strength small, count_by-le-length (brings given group strength) (take i links), length-take i links, inside, few)

-- what a key gives at the beginning is below 16
pub begin_small : (g : Nodes) → IsSound g → (key : ℕ) → part_out (part_at (node_at g key)) < 16
begin_small g sound key =
    let le = outs_le (graph_circuit g) (graph_is_bounded g sound) (record { time = 0; cells = (graph_circuit g).begin }) (bounded_is_invariant (graph_circuit g) test_of_keys (graph_is_bounded g sound)).begins key in
    omega (arith, part_out-at (node_at g key), le)

pub wired_from : (g : Nodes) (parts : List (Option Part)) (briefs : List Brief) (outs : List ℕ) (counts : List Counts) (rows : List (List OutLink)) → IsKept g parts → briefs ≡ map brief_by parts →
    length parts ≡ length outs → length counts ≡ length outs → ((key : ℕ) → given outs key < 16) → length outs ≤ 2 ^ 32 → WiredUp g (length outs) (given outs) counts rows → IsWired g parts briefs outs counts rows
wired_from g parts briefs outs counts rows kept made parts_whole counts_whole small few_keys wired = record {
  kept = kept;
  brief = λ key. ap (λ (l : List Brief). get_or l key no_brief) made ∙ get_or-map brief_by parts key None ∙ ap brief_by (kept key);
  parts_whole = parts_whole;
  briefs_whole = ap (λ (l : List Brief). length l) made ∙ length-map parts brief_by ∙ parts_whole;
  counts_whole = counts_whole;
  rows_whole = wired.whole;
  small = small;
  counted = wired.counted;
  turned = wired.turned;
  few = wired.few;
  few_keys = few_keys;
}
