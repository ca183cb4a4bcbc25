-- What is accepted is sound.
use Rattle.std.proofs.Common.{◌≡◌, ◌≢◌, ℕ, zero, suc, ◌+◌, ◌<◌, ◌≤◌, Bool, true, false, ℤ, List, [], ◌∷◌, ◌++◌, length, Option, Some, None, IsSome, map, refl, sym, ap, ◌∙◌, subst, arith, inl, inr}
use Rattle.std.specs.Prelude.{◌==◌, ◌&&◌, ◌||◌, nat_le, nat_lt, option_map, if◌then◌else◌, filter, slice_get, IfSome}
use Rattle.std.specs.List.{filter_map, list_all}
use Rattle.std.specs.Ordering.{int_eq}
use Rattle.std.proofs.lemmas.Bool.{cases_Bool, and_parts, false≢true, eqb-true}
use Rattle.std.proofs.lemmas.Bool.Decides.{Decides-int_eq, nat_tests}
use Rattle.circuit.specs.declared.Pos.{Pos}
use Rattle.circuit.specs.Circuit.{Each, EachBefore}
use Rattle.graph.specs.declared.Kind.{Kind}
use Rattle.graph.specs.declared.Kind.TheVariants.{Button, Repeater, Comparator}
use Rattle.graph.specs.declared.Link.{Link}
use Rattle.graph.specs.declared.Group.TheVariants.{Back, Side}
use Rattle.graph.specs.Clicks.{is_same_place}
use Rattle.graph.specs.Graph.{Node, Nodes, node_at, Lives}
use Rattle.graph.specs.GraphCircuit.{role_of}
use Rattle.graph.specs.Links.{of_group, in_groups}
use Rattle.graph.specs.Sound.{top_of, can_wait, IsKindInRange, IsSoundNode, IsSound, places_at, places_of}
use Rattle.report.specs.declared.GraphRefusal.{GraphRefusal}
use Rattle.serde_json.specs.Data.{Data}
use Rattle.graph_file.specs.declared.entries.LinkEntry.{LinkEntry}
use Rattle.graph_file.specs.GraphFile.{is_strength, is_kind, is_tick, is_node, is_place, with_place, is_repeated, with_places, node_cause, seen_after, nodes_cause, nowhere, link_cause, links_cause, or_later, plain_link, links_to, with_links, linked}
use Rattle.graph_file.specs.Reading.{node_of, link_of}
use Rattle.graph_file.proofs.LinkingSteps.{entry_linked}

-- ---- lists

each_at : {A : Type 0} (P : A → Type 0) (xs : List A) (i : ℕ) (x : A) → Each P xs → slice_get xs i ≡ Some x → P x
each_at P [] i x e h = absurd (cc)
each_at P (y ∷ xs) zero x e h = let s : y ≡ x = cc in subst P s e.0
each_at P (y ∷ xs) (suc i) x e h = each_at P xs i x e.1 h

each_filter : {A : Type 0} (P : A → Type 0) (p : A → Bool) (xs : List A) → Each P xs → Each P (filter p xs)
each_filter P p [] e = tt
each_filter P p (x ∷ xs) e = elim (cases_Bool (p x)) [
  | inl h ↦ rw h (e.0, each_filter P p xs e.1)
  | inr h ↦ rw h (each_filter P p xs e.1)
]

each_append : {A : Type 0} (P : A → Type 0) (xs ys : List A) → Each P xs → Each P ys → Each P (xs ++ ys)
each_append P [] ys e f = f
each_append P (x ∷ xs) ys e f = (e.0, each_append P xs ys e.1 f)

each_as : {A : Type 0} (P Q : A → Type 0) (xs : List A) → ((x : A) → P x → Q x) → Each P xs → Each Q xs
each_as P Q [] h e = tt
each_as P Q (x ∷ xs) h e = (h x e.0, each_as P Q xs h e.1)

before_append : {A : Type 0} (R : A → A → Type 0) (xs ys : List A) → EachBefore R xs → EachBefore R ys → Each (λ x. Each (R x) ys) xs → EachBefore R (xs ++ ys)
before_append R [] ys e f g = f
before_append R (x ∷ xs) ys e f g = (each_append (R x) xs ys e.0 g.0, before_append R xs ys e.1 f g.1)

-- ---- links

abbrev IsFine : ℕ → LinkEntry → Type 0
IsFine count link = (link.from < count) × (link.weight ≤ 15)

fine_link : (index count : ℕ) (link : LinkEntry) → link_cause index count (Some link) ≡ None → IsFine count link
fine_link index count link h = elim (cases_Bool (nat_lt link.from count && nat_lt link.to count)) [
  | inl e ↦ elim (cases_Bool (nat_le link.group 1 && nat_le link.weight 15)) [
    | inl f ↦ (let a = and_parts (nat_lt link.from count) (nat_lt link.to count) e in let b = and_parts (nat_le link.group 1) (nat_le link.weight 15) f in
        (below link.from count a.0, at_most link.weight 15 b.1))
    | inr f ↦ absurd (let n = rw (e, f) at h in cc)
  ]
  | inr e ↦ absurd (let n = rw e at h in cc)
]
  where
    below : (a b : ℕ) → nat_lt a b ≡ true → a < b
    below a b h = grind (arith, nat_tests)

    at_most : (a b : ℕ) → nat_le a b ≡ true → a ≤ b
    at_most a b h = grind (arith, nat_tests)

first_none : (cause later : Option GraphRefusal) → or_later cause later ≡ None → (cause ≡ None) × (later ≡ None)
first_none None later h = (refl, h)
first_none (Some r) later h = absurd (cc)

fine_links : (index count : ℕ) (ds : List Data) → links_cause index count ds ≡ None → Each (IsFine count) (filter_map link_of ds)
fine_links index count [] h = tt
fine_links index count (d ∷ ds) h =
    let both = first_none (link_cause index count (link_of d)) (links_cause (suc index) count ds) h in
    by_link (link_of d) refl both.0 (fine_links (suc index) count ds both.1)
  where
    by_link : (found : Option LinkEntry) → link_of d ≡ found → link_cause index count (link_of d) ≡ None → Each (IsFine count) (filter_map link_of ds) → Each (IsFine count) (filter_map link_of (d ∷ ds))
    by_link None e none rest = absurd (let n = rw e at none in cc)
    by_link (Some link) e none rest = rw e (fine_link index count link (rw e at none), rest)

each_to : (P : Link → Type 0) (Q : LinkEntry → Type 0) → ((l : LinkEntry) → Q l → P (plain_link l)) → (key : ℕ) (ls : List LinkEntry) → Each Q ls → Each P (links_to key ls)
each_to P Q f key [] e = tt
each_to P Q f key (l ∷ ls) e = elim (cases_Bool (l.to == key)) [
  | inl h ↦ rw h (f l e.0, each_to P Q f key ls e.1)
  | inr h ↦ rw h (each_to P Q f key ls e.1)
]

-- ---- numbers

in_range : (kind : Kind) → is_kind kind ≡ true → IsKindInRange kind
in_range (Button delay) h = elim (cases_Bool (delay == 10)) [
  | inl e ↦ inl (eqb-true delay 10 e)
  | inr e ↦ inr (eqb-true delay 15 (rw e at h))
]
in_range (Repeater delay) h = let b = and_parts (nat_le 1 delay) (nat_le delay 4) h in (at_most 1 delay b.0, at_most delay 4 b.1)
  where
    at_most : (a b : ℕ) → nat_le a b ≡ true → a ≤ b
    at_most a b h = grind (arith, nat_tests)
in_range (Comparator subtract direct far) h = let b = and_parts (is_strength direct) (is_strength far) h in (strength direct b.0, strength far b.1)
  where
    strength : (s : Option ℕ) → is_strength s ≡ true → IfSome s (λ n. n ≤ 15)
    strength None h = tt
    strength (Some n) h = grind (arith, nat_tests)
in_range _ h = tt

at_most : (a b : ℕ) → nat_le a b ≡ true → a ≤ b
at_most a b h = grind (arith, nat_tests)

sound_node : (g : Nodes) (node : Node) (links : List Link) → is_node node ≡ true → Each (λ (l : Link). (l.weight ≤ 15) × Lives g l.from) links → IsSoundNode g (record node { links = links })
sound_node g node links h e =
    let parts = and_parts (is_place node.pos && list_all is_place node.also) ((nat_le node.state (top_of (role_of node.kind)) && is_kind node.kind) && is_tick node.kind node.due node.priority) h in
    let numbers = and_parts (nat_le node.state (top_of (role_of node.kind)) && is_kind node.kind) (is_tick node.kind node.due node.priority) parts.1 in
    let state = and_parts (nat_le node.state (top_of (role_of node.kind))) (is_kind node.kind) numbers.0 in
    let tick = and_parts (nat_le node.due 15 && nat_le node.priority 3) (if node.due == 0 then node.priority == 0 else can_wait node.kind) numbers.1 in
    let small = and_parts (nat_le node.due 15) (nat_le node.priority 3) tick.0 in
    record {
      state = at_most node.state (top_of (role_of node.kind)) state.0;
      kind = in_range node.kind state.1;
      due = at_most node.due 15 small.0;
      priority = at_most node.priority 3 small.1;
      waiting = λ n. waits (node.due == 0) (λ b. n (eqb-true node.due 0 b)) (node.priority == 0) (can_wait node.kind) tick.1;
      idle = λ z. eqb-true node.priority 0 (idles (node.due == 0) (eqb-of node.due z) (node.priority == 0) (can_wait node.kind) tick.1);
      links = λ index link at. each_at (λ (l : Link). (l.weight ≤ 15) × Lives g l.from) links index link e at;
    }
  where
    waits : (b : Bool) → (b ≡ true → ⊥) → (p w : Bool) → (if b then p else w) ≡ true → w ≡ true
    waits true n p w h = absurd (n refl)
    waits false n p w h = h

    idles : (b : Bool) → b ≡ true → (p w : Bool) → (if b then p else w) ≡ true → p ≡ true
    idles true e p w h = h
    idles false e p w h = absurd (false≢true e)

    eqb-of : (n : ℕ) → n ≡ 0 → (n == 0) ≡ true
    eqb-of n z = ap (λ m. m == 0) z

-- ---- places

same_place : (p q : Pos) → p ≡ q → is_same_place p q ≡ true
same_place p q e = subst (λ r. is_same_place p r ≡ true) e (itself p)
  where
    int_itself : (a : ℤ) → int_eq a a ≡ true
    int_itself a = (Decides-int_eq a a).1 refl

    itself : (p : Pos) → is_same_place p p ≡ true
    itself p = rw (int_itself p.x, int_itself p.y, int_itself p.z) refl

or_false : (a b : Bool) → (a || b) ≡ false → (a ≡ false) × (b ≡ false)
or_false true b h = absurd (cc)
or_false false b h = (refl, h)

abbrev AreNew : (Pos → Bool) → List Pos → Type 0
AreNew seen places = EachBefore (λ a b. a ≢ b) places × Each (λ p. seen p ≡ false) places

-- places that aren't repeated, and what is new behind them
new_places : (seen : Pos → Bool) (places more : List Pos) → is_repeated seen places ≡ false → AreNew (with_places places seen) more → AreNew seen (places ++ more)
new_places seen [] more h new = new
new_places seen (p ∷ places) more h new =
    let both = or_false (seen p) (is_repeated (with_place p seen) places) h in
    let rest : AreNew (with_place p seen) (places ++ more) = new_places (with_place p seen) places more both.1 new in (
      (each_as (λ q. with_place p seen q ≡ false) (λ q. p ≢ q) (places ++ more) (λ q f e. false≢true (sym (or_false (is_same_place q p) (seen q) f).0 ∙ same_place q p (sym e))) rest.1, rest.0),
      (both.0, each_as (λ q. with_place p seen q ≡ false) (λ q. seen q ≡ false) (places ++ more) (λ q f. (or_false (is_same_place q p) (seen q) f).1) rest.1),
    )

accepted : (index : ℕ) (seen : Pos → Bool) (node : Node) → node_cause index seen (Some node) ≡ None → (is_node node ≡ true) × (is_repeated seen (node.pos ∷ node.also) ≡ false)
accepted index seen node h = elim (cases_Bool (is_node node)) [
  | inl e ↦ elim (cases_Bool (is_repeated seen (node.pos ∷ node.also))) [
    | inl f ↦ absurd (let n = rw (e, f) at h in cc)
    | inr f ↦ (e, f)
  ]
  | inr e ↦ absurd (let n = rw e at h in cc)
]

new_nodes : (index : ℕ) (seen : Pos → Bool) (ds : List Data) → nodes_cause index seen ds ≡ None → AreNew seen (places_of (map node_of ds))
new_nodes index seen [] h = (tt, tt)
new_nodes index seen (d ∷ ds) h =
    let both = first_none (node_cause index seen (node_of d)) (nodes_cause (suc index) (seen_after seen (node_of d)) ds) h in
    by_node (node_of d) both.0 (new_nodes (suc index) (seen_after seen (node_of d)) ds both.1)
  where
    by_node : (node : Option Node) → node_cause index seen node ≡ None → AreNew (seen_after seen node) (places_of (map node_of ds)) → AreNew seen (places_at node ++ places_of (map node_of ds))
    by_node None none new = absurd (cc)
    by_node (Some node) none new = new_places seen (node.pos ∷ node.also) (places_of (map node_of ds)) (accepted index seen node none).1 new

-- links change no place
places_linked : (key : ℕ) (ls : List LinkEntry) (g : Nodes) → places_of (linked key ls g) ≡ places_of g
places_linked key ls [] = refl
places_linked key ls (None ∷ g) = places_linked (suc key) ls g
places_linked key ls (Some node ∷ g) = ap (λ rest. (node.pos ∷ node.also) ++ rest) (places_linked (suc key) ls g)

-- ---- the whole

node_accepted : (index : ℕ) (seen : Pos → Bool) (ds : List Data) → nodes_cause index seen ds ≡ None → (k : ℕ) (node : Node) → node_at (map node_of ds) k ≡ Some node → is_node node ≡ true
node_accepted index seen [] h k node e = absurd (cc)
node_accepted index seen (d ∷ ds) h zero node e =
    let both = first_none (node_cause index seen (node_of d)) (nodes_cause (suc index) (seen_after seen (node_of d)) ds) h in
    (accepted index seen node (ap (node_cause index seen) (sym e) ∙ both.0)).0
node_accepted index seen (d ∷ ds) h (suc k) node e =
    let both = first_none (node_cause index seen (node_of d)) (nodes_cause (suc index) (seen_after seen (node_of d)) ds) h in
    node_accepted (suc index) (seen_after seen (node_of d)) ds both.1 k node e

pub nodes_live : (index : ℕ) (seen : Pos → Bool) (ds : List Data) → nodes_cause index seen ds ≡ None → (k : ℕ) → k < length ds → Lives (map node_of ds) k
nodes_live index seen [] h k less = absurd (omega arith)
nodes_live index seen (d ∷ ds) h zero less =
    let both = first_none (node_cause index seen (node_of d)) (nodes_cause (suc index) (seen_after seen (node_of d)) ds) h in
    by_node (node_of d) both.0
  where
    by_node : (node : Option Node) → node_cause index seen node ≡ None → IsSome node
    by_node None none = absurd (cc)
    by_node (Some node) none = refl
nodes_live index seen (d ∷ ds) h (suc k) less =
    let both = first_none (node_cause index seen (node_of d)) (nodes_cause (suc index) (seen_after seen (node_of d)) ds) h in
    nodes_live (suc index) (seen_after seen (node_of d)) ds both.1 k (omega arith)

pub linked_lives : (ls : List LinkEntry) (g : Nodes) (k : ℕ) → Lives g k → Lives (linked 0 ls g) k
linked_lives ls g k h = by_entry (node_at g k) refl h
  where
    by_entry : (entry : Option Node) → node_at g k ≡ entry → IsSome entry → Lives (linked 0 ls g) k
    by_entry None e some = absurd (false≢true some)
    by_entry (Some node) e some = subst IsSome (sym (entry_linked 0 ls g k ∙ ap (option_map (with_links (links_to (0 + k) ls))) e)) refl

pub file_is_sound : (nodes links : List Data) → nodes_cause 0 nowhere nodes ≡ None → links_cause 0 (length nodes) links ≡ None → IsSound (linked 0 (filter_map link_of links) (map node_of nodes))
file_is_sound nodes links no_node no_link = record {
  each = λ k node e. by_entry k node (node_at bare k) refl e;
  apart = subst (EachBefore (λ a b. a ≢ b)) (sym (places_linked 0 ls bare)) (new_nodes 0 nowhere nodes no_node).0;
}
  where
    ls : List LinkEntry
    ls = filter_map link_of links

    bare : Nodes
    bare = map node_of nodes

    fine : Each (IsFine (length nodes)) ls
    fine = fine_links 0 (length nodes) links no_link

    good : (l : LinkEntry) → IsFine (length nodes) l → (l.weight ≤ 15) × Lives (linked 0 ls bare) l.from
    good l f = (f.1, linked_lives ls bare l.from (nodes_live 0 nowhere nodes no_node l.from f.0))

    each_good : (k : ℕ) → Each (λ (l : Link). (l.weight ≤ 15) × Lives (linked 0 ls bare) l.from) (in_groups (links_to k ls))
    each_good k =
        let to = each_to (λ (l : Link). (l.weight ≤ 15) × Lives (linked 0 ls bare) l.from) (IsFine (length nodes)) good k ls fine in
        each_append (λ (l : Link). (l.weight ≤ 15) × Lives (linked 0 ls bare) l.from) (filter (of_group Back) (links_to k ls)) (filter (of_group Side) (links_to k ls))
        (each_filter (λ (l : Link). (l.weight ≤ 15) × Lives (linked 0 ls bare) l.from) (of_group Back) (links_to k ls) to)
        (each_filter (λ (l : Link). (l.weight ≤ 15) × Lives (linked 0 ls bare) l.from) (of_group Side) (links_to k ls) to)

    by_entry : (k : ℕ) (node : Node) (entry : Option Node) → node_at bare k ≡ entry → node_at (linked 0 ls bare) k ≡ Some node → IsSoundNode (linked 0 ls bare) node
    by_entry k node None here e = absurd (let n : None ≡ Some node = sym (entry_linked 0 ls bare k ∙ ap (option_map (with_links (links_to (0 + k) ls))) here) ∙ e in cc)
    by_entry k node (Some old) here e =
        let is : Some (with_links (links_to (0 + k) ls) old) ≡ Some node = sym (entry_linked 0 ls bare k ∙ ap (option_map (with_links (links_to (0 + k) ls))) here) ∙ e in
        let same : with_links (links_to (0 + k) ls) old ≡ node = cc in
        subst (IsSoundNode (linked 0 ls bare)) same (sound_node (linked 0 ls bare) old (in_groups (links_to (0 + k) ls)) (node_accepted 0 nowhere nodes no_node k old here) (each_good (0 + k)))
