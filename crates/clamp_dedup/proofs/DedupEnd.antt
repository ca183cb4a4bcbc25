-- Where nothing is left to drop, just the links are left that none of the first links beats. Each link has its place at first with it.
use Rattle.std.proofs.Common.{◌≡◌, ◌≢◌, ℕ, zero, suc, ◌<◌, Bool, true, false, not, ◌||◌, ◌&&◌, List, [], ◌∷◌, Option, Some, None, refl, sym, ap, ◌∙◌, subst, arith, map, length, inl, inr, ◌⊎◌}
use Rattle.std.specs.Prelude.{nat_lt, ◌==◌, filter, remove, slice_get, option_map}
use Rattle.std.proofs.lemmas.Bool.{cases_Bool, cases_eq, cases_lt, false≢true, lt-ltb, ltb-true, eq-eqb, eqb-true, and_parts}
use Rattle.std.proofs.lemmas.List.{length-set}
use Rattle.circuit.specs.Circuit.{Among, Each, EachBefore}
use Rattle.graph.specs.declared.Group.{Group}
use Rattle.graph.specs.declared.Group.TheVariants.{Back, Side}
use Rattle.graph.specs.declared.Link.{Link}
use Rattle.graph.specs.AtKeys.{at_other, at_changed}
use Rattle.graph.specs.Edits.{relinked, without_link, drop_link}
use Rattle.graph.specs.Graph.{Node, Nodes, node_at}
use Rattle.graph.specs.Links.{is_group}
use Rattle.graph.specs.LinkAt.{links_of}
use Rattle.graph.specs.Steps.{Dedups}
use Rattle.pass_frame.specs.Frame.{Reaches, Stays, Goes, IsDone}
use Rattle.pass_frame.specs.Rounds.{Exhausts}
use Rattle.pass_frame.proofs.LinksLeft.{filter_removed, filter_all}
use Rattle.pass_frame.proofs.SameNodes.{nodes_same}

-- a link with its place
record Placed : Type 0 where
  pub place : ℕ
  pub link : Link

abbrev placed : ℕ → List Link → List Placed
placed place [] = []
placed place (link ∷ links) = record { place = place; link = link } ∷ placed (suc place) links

abbrev link_in : Placed → Link
link_in x = x.link

-- the first of the two makes the other one needless
record Beats (y x : Placed) : Type 0 where
  pub from : x.link.from ≡ y.link.from
  pub group : x.link.group ≡ y.link.group
  pub worse : (y.link.weight < x.link.weight) ⊎ ((y.link.weight ≡ x.link.weight) × (y.place < x.place))

abbrev beats : Placed → Placed → Bool
beats y x = (x.link.from == y.link.from) && (is_group x.link.group y.link.group && (nat_lt y.link.weight x.link.weight || ((y.link.weight == x.link.weight) && nat_lt y.place x.place)))

same_group : (a b : Group) → is_group a b ≡ true → a ≡ b
same_group Back Back h = refl
same_group Back Side h = absurd (false≢true h)
same_group Side Back h = absurd (false≢true h)
same_group Side Side h = refl

is_same_group : (a b : Group) → a ≡ b → is_group a b ≡ true
is_same_group Back Back e = refl
is_same_group Back Side e = absurd (cc)
is_same_group Side Back e = absurd (cc)
is_same_group Side Side e = refl

beats_of : (y x : Placed) → beats y x ≡ true → Beats y x
beats_of y x h =
    let outer = and_parts (x.link.from == y.link.from) (is_group x.link.group y.link.group && (nat_lt y.link.weight x.link.weight || ((y.link.weight == x.link.weight) && nat_lt y.place x.place))) h in
    let inner = and_parts (is_group x.link.group y.link.group) (nat_lt y.link.weight x.link.weight || ((y.link.weight == x.link.weight) && nat_lt y.place x.place)) outer.1 in
    record { from = eqb-true x.link.from y.link.from outer.0; group = same_group x.link.group y.link.group inner.0; worse = weights inner.1 }
  where
    weights : (nat_lt y.link.weight x.link.weight || ((y.link.weight == x.link.weight) && nat_lt y.place x.place)) ≡ true → (y.link.weight < x.link.weight) ⊎ ((y.link.weight ≡ x.link.weight) × (y.place < x.place))
    weights w = elim (cases_Bool (nat_lt y.link.weight x.link.weight)) [
      | inl l ↦ inl (ltb-true y.link.weight x.link.weight l)
      | inr l ↦
          (let both = and_parts (y.link.weight == x.link.weight) (nat_lt y.place x.place) (rw l at w) in
          inr (eqb-true y.link.weight x.link.weight both.0, ltb-true y.place x.place both.1))
    ]

of_beats : (y x : Placed) → Beats y x → beats y x ≡ true
of_beats y x b = rw (eq-eqb x.link.from y.link.from b.from, is_same_group x.link.group y.link.group b.group) (elim b.worse [
  | inl l ↦ rw (lt-ltb y.link.weight x.link.weight l) refl
  | inr e ↦ or_true (nat_lt y.link.weight x.link.weight) ((y.link.weight == x.link.weight) && nat_lt y.place x.place) (rw (eq-eqb y.link.weight x.link.weight e.0) (lt-ltb y.place x.place e.1))
])
  where
    or_true : (a b : Bool) → b ≡ true → (a || b) ≡ true
    or_true true b h = refl
    or_true false b h = h

beats_then : {z y x : Placed} → Beats z y → Beats y x → Beats z x
beats_then {z} {y} {x} b c = record { from = c.from ∙ b.from; group = c.group ∙ b.group; worse = both b.worse c.worse }
  where
    both : (z.link.weight < y.link.weight) ⊎ ((z.link.weight ≡ y.link.weight) × (z.place < y.place)) → (y.link.weight < x.link.weight) ⊎ ((y.link.weight ≡ x.link.weight) × (y.place < x.place)) →
        (z.link.weight < x.link.weight) ⊎ ((z.link.weight ≡ x.link.weight) × (z.place < x.place))
    both (inl l) (inl m) = inl (omega (arith, l, m))
    both (inl l) (inr e) = inl (omega (arith, l, e.0))
    both (inr d) (inl m) = inl (omega (arith, d.0, m))
    both (inr d) (inr e) = inr (d.0 ∙ e.0, omega (arith, d.1, e.1))

beats_none : (x : Placed) → Beats x x → ⊥
beats_none x b = elim b.worse [ inl l ↦ omega (arith, l) | inr e ↦ omega (arith, e.1) ]

-- some link of these beats it
abbrev beaten : List Placed → Placed → Bool
beaten [] x = false
beaten (y ∷ ys) x = beats y x || beaten ys x

beaten_of : (ys : List Placed) (x y : Placed) → Among ys y → Beats y x → beaten ys x ≡ true
beaten_of [] x y a b = absurd a
beaten_of (z ∷ ys) x y a b = elim (cases_Bool (beats z x)) [
  | inl h ↦ rw h refl
  | inr h ↦ elim a [
    | inl e ↦ absurd (false≢true (sym h ∙ ap (λ w. beats w x) (sym e) ∙ of_beats y x b))
    | inr c ↦ rw h (beaten_of ys x y c b)
  ]
]

-- The best of these beats it, or is it.
record IsBest (ys : List Placed) (x best : Placed) : Type 0 where
  pub is : (best ≡ x) ⊎ (Among ys best × Beats best x)
  pub none : beaten ys best ≡ false

best_of : (ys : List Placed) (x : Placed) → (best : Placed) × IsBest ys x best
best_of [] x = (x, record { is = inl refl; none = refl })
best_of (y ∷ ys) x =
    let rest = best_of ys x in
    elim (cases_Bool (beats y rest.0)) [
      | inr h ↦ (rest.0, record { is = among_more rest.1.is; none = rw h rest.1.none })
      | inl h ↦ (y, record { is = inr (inl refl, over (beats_of y rest.0 h) rest.1.is); none = none rest.0 rest.1.none (beats_of y rest.0 h) })
    ]
  where
    among_more : {b : Placed} → (b ≡ x) ⊎ (Among ys b × Beats b x) → (b ≡ x) ⊎ (Among (y ∷ ys) b × Beats b x)
    among_more (inl e) = inl e
    among_more (inr c) = inr (inr c.0, c.1)

    over : {b : Placed} → Beats y b → (b ≡ x) ⊎ (Among ys b × Beats b x) → Beats y x
    over h (inl e) = subst (Beats y) e h
    over h (inr c) = beats_then h c.1

    others : (b : Placed) (zs : List Placed) → beaten zs b ≡ false → Beats y b → beaten zs y ≡ false
    others b [] n h = refl
    others b (z ∷ zs) n h = elim (cases_Bool (beats z b)) [
      | inl l ↦ absurd (false≢true (sym n ∙ rw l refl))
      | inr l ↦ elim (cases_Bool (beats z y)) [
        | inl m ↦ absurd (false≢true (sym l ∙ of_beats z b (beats_then (beats_of z y m) h)))
        | inr m ↦ rw m (others b zs (rw l at n) h)
      ]
    ]

    none : (b : Placed) → beaten ys b ≡ false → Beats y b → beaten (y ∷ ys) y ≡ false
    none b n h = elim (cases_Bool (beats y y)) [ inl l ↦ absurd (beats_none y (beats_of y y l)) | inr l ↦ rw l (others b ys n h) ]

-- a link is left where none of the first links beats it
abbrev stays : List Placed → Placed → Bool
stays first x = not (beaten first x)

-- What is left of a node's first links: links with their places, of which none that stays is gone.
record AreLeft (first links : List Link) : Type 0 where
  pub items : List Placed
  pub are : map link_in items ≡ links
  pub rise : EachBefore (λ (x y : Placed). x.place < y.place) items
  pub from : (x : Placed) → Among items x → Among (placed 0 first) x
  pub same : filter (stays (placed 0 first)) items ≡ filter (stays (placed 0 first)) (placed 0 first)

links_placed : (place : ℕ) (links : List Link) → map link_in (placed place links) ≡ links
links_placed place [] = refl
links_placed place (link ∷ links) = ap (λ ls. link ∷ ls) (links_placed (suc place) links)

above_placed : (low place : ℕ) (links : List Link) → low < place → Each (λ (y : Placed). low < y.place) (placed place links)
above_placed low place [] h = tt
above_placed low place (link ∷ links) h = (h, above_placed low (suc place) links (omega (arith, h)))

rise_placed : (place : ℕ) (links : List Link) → EachBefore (λ (x y : Placed). x.place < y.place) (placed place links)
rise_placed place [] = tt
rise_placed place (link ∷ links) = (above_placed place (suc place) links (omega arith), rise_placed (suc place) links)

left_first : (links : List Link) → AreLeft links links
left_first links = record { items = placed 0 links; are = links_placed 0 links; rise = rise_placed 0 links; from = λ x a. a; same = refl }

-- one link less
removed_links : (items : List Placed) (index : ℕ) → map link_in (remove items index) ≡ remove (map link_in items) index
removed_links [] zero = refl
removed_links [] (suc index) = refl
removed_links (x ∷ items) zero = refl
removed_links (x ∷ items) (suc index) = ap (λ ls. x.link ∷ ls) (removed_links items index)

removed_each : (P : Placed → Type 0) (items : List Placed) (index : ℕ) → Each P items → Each P (remove items index)
removed_each P [] zero e = e
removed_each P [] (suc index) e = e
removed_each P (x ∷ items) zero e = e.1
removed_each P (x ∷ items) (suc index) e = (e.0, removed_each P items index e.1)

removed_rise : (R : Placed → Placed → Type 0) (items : List Placed) (index : ℕ) → EachBefore R items → EachBefore R (remove items index)
removed_rise R [] zero e = e
removed_rise R [] (suc index) e = e
removed_rise R (x ∷ items) zero e = e.1
removed_rise R (x ∷ items) (suc index) e = (removed_each (R x) items index e.0, removed_rise R items index e.1)

removed_among : (items : List Placed) (index : ℕ) (x : Placed) → Among (remove items index) x → Among items x
removed_among [] zero x a = absurd a
removed_among [] (suc index) x a = absurd a
removed_among (y ∷ items) zero x a = inr a
removed_among (y ∷ items) (suc index) x a = elim a [ inl e ↦ inl e | inr b ↦ inr (removed_among items index x b) ]

-- the link at an index, with its place
item_at : (items : List Placed) (index : ℕ) (link : Link) → slice_get (map link_in items) index ≡ Some link → (x : Placed) × (slice_get items index ≡ Some x) × (x.link ≡ link)
item_at [] index link e = absurd (cc)
item_at (x ∷ items) zero link e = (x, refl, cc)
item_at (x ∷ items) (suc index) link e = item_at items index link e

link_of_item : (items : List Placed) (index : ℕ) (x : Placed) → slice_get items index ≡ Some x → slice_get (map link_in items) index ≡ Some x.link
link_of_item [] index x e = absurd (cc)
link_of_item (y ∷ items) zero x e = (let same : y ≡ x = cc in ap (λ (z : Placed). Some z.link) same)
link_of_item (y ∷ items) (suc index) x e = link_of_item items index x e

among_at : (items : List Placed) (index : ℕ) (x : Placed) → slice_get items index ≡ Some x → Among items x
among_at [] index x e = absurd (cc)
among_at (y ∷ items) zero x e = (let same : y ≡ x = cc in inl (sym same))
among_at (y ∷ items) (suc index) x e = inr (among_at items index x e)

index_of : (items : List Placed) (x : Placed) → Among items x → (index : ℕ) × (slice_get items index ≡ Some x)
index_of [] x a = absurd a
index_of (y ∷ items) x a = elim a [
  | inl e ↦ (zero, ap Some (sym e))
  | inr b ↦ (let r = index_of items x b in (suc r.0, r.1))
]

each_at : (P : Placed → Type 0) (items : List Placed) (index : ℕ) (x : Placed) → Each P items → slice_get items index ≡ Some x → P x
each_at P [] index x e at = absurd (cc)
each_at P (y ∷ items) zero x e at = (let same : y ≡ x = cc in subst P same e.0)
each_at P (y ∷ items) (suc index) x e at = each_at P items index x e.1 at

-- places rise along the list
rises : (items : List Placed) (i j : ℕ) (x y : Placed) → EachBefore (λ (a b : Placed). a.place < b.place) items → slice_get items i ≡ Some x → slice_get items j ≡ Some y → i < j → x.place < y.place
rises [] i j x y e at_i at_j less = absurd (cc)
rises (z ∷ items) i zero x y e at_i at_j less = absurd (omega (arith, less))
rises (z ∷ items) zero (suc j) x y e at_i at_j less = (let same : z ≡ x = cc in subst (λ (w : Placed). w.place < y.place) same (each_at (λ b. z.place < b.place) items j y e.0 at_j))
rises (z ∷ items) (suc i) (suc j) x y e at_i at_j less = rises items i j x y e.1 at_i at_j (omega (arith, less))

before : (items : List Placed) (i j : ℕ) (x y : Placed) → EachBefore (λ (a b : Placed). a.place < b.place) items → slice_get items i ≡ Some x → slice_get items j ≡ Some y → x.place < y.place → i < j
before items i j x y e at_i at_j less = elim (cases_lt i j) [
  | inl l ↦ l
  | inr up ↦ elim (cases_eq i j) [
    | inl same ↦
        (let one : Some x ≡ Some y = sym at_i ∙ ap (slice_get items) same ∙ at_j in
        let equal : x ≡ y = cc in
        absurd (omega (arith, less, ap (λ (w : Placed). w.place) equal)))
    | inr n ↦ absurd (omega (arith, less, rises items j i y x e at_j at_i (omega (arith, up, n))))
  ]
]

-- a link that is dropped was beaten
left_next : (first links : List Link) (index other : ℕ) (link better : Link) → AreLeft first links → slice_get links index ≡ Some link → slice_get links other ≡ Some better → link.from ≡ better.from → link.group ≡ better.group →
    (better.weight < link.weight) ⊎ ((better.weight ≡ link.weight) × (other < index)) → AreLeft first (remove links index)
left_next first links index other link better left at beside from group worse = record {
  items = remove left.items index;
  are = removed_links left.items index ∙ ap (λ ls. remove ls index) left.are;
  rise = removed_rise (λ a b. a.place < b.place) left.items index left.rise;
  from = λ z a. left.from z (removed_among left.items index z a);
  same = filter_removed (stays (placed 0 first)) left.items index x.0 x.1 (ap not (beaten_of (placed 0 first) x.0 y.0 (left.from y.0 (among_at left.items other y.0 y.1)) by)) ∙ left.same;
}
  where
    x : (z : Placed) × (slice_get left.items index ≡ Some z) × (z.link ≡ link)
    x = item_at left.items index link (ap (λ ls. slice_get ls index) left.are ∙ at)

    y : (z : Placed) × (slice_get left.items other ≡ Some z) × (z.link ≡ better)
    y = item_at left.items other better (ap (λ ls. slice_get ls other) left.are ∙ beside)

    weight_x : x.0.link.weight ≡ link.weight
    weight_x = ap (λ (l : Link). l.weight) x.2

    weight_y : y.0.link.weight ≡ better.weight
    weight_y = ap (λ (l : Link). l.weight) y.2

    by : Beats y.0 x.0
    by = record {
      from = ap (λ (l : Link). l.from) x.2 ∙ from ∙ sym (ap (λ (l : Link). l.from) y.2);
      group = ap (λ (l : Link). l.group) x.2 ∙ group ∙ sym (ap (λ (l : Link). l.group) y.2);
      worse = elim worse [
        | inl l ↦ inl (omega (arith, l, weight_x, weight_y))
        | inr e ↦ inr (weight_y ∙ e.0 ∙ sym weight_x, rises left.items other index y.0 x.0 left.rise y.1 x.1 e.1)
      ];
    }

-- no link of these may be dropped
abbrev AreSingle : List Link → Type 0
AreSingle links = (index other : ℕ) (link better : Link) → slice_get links index ≡ Some link → slice_get links other ≡ Some better → link.from ≡ better.from → link.group ≡ better.group →
    (better.weight < link.weight) ⊎ ((better.weight ≡ link.weight) × (other < index)) → ⊥

among_passing : (keep : Placed → Bool) (xs : List Placed) (x : Placed) → Among xs x → keep x ≡ true → Among (filter keep xs) x
among_passing keep [] x a h = absurd a
among_passing keep (y ∷ xs) x a h = elim a [
  | inl e ↦ rw (subst (λ z. keep z ≡ true) e h) (inl e)
  | inr b ↦ elim (cases_Bool (keep y)) [ inl k ↦ rw k (inr (among_passing keep xs x b h)) | inr k ↦ rw k (among_passing keep xs x b h) ]
]

of_passing : (keep : Placed → Bool) (xs : List Placed) (x : Placed) → Among (filter keep xs) x → Among xs x
of_passing keep [] x a = absurd a
of_passing keep (y ∷ xs) x a = elim (cases_Bool (keep y)) [
  | inl k ↦ (let here : (x ≡ y) ⊎ Among (filter keep xs) x = rw k at a in elim here [ inl e ↦ inl e | inr b ↦ inr (of_passing keep xs x b) ])
  | inr k ↦ inr (of_passing keep xs x (rw k at a))
]

-- at the end all that is left stays
left_end : (first links : List Link) (left : AreLeft first links) → AreSingle links → links ≡ map link_in (filter (stays (placed 0 first)) (placed 0 first))
left_end first links left single = sym left.are ∙ ap (λ xs. map link_in xs) (sym (filter_all (stays (placed 0 first)) left.items all) ∙ left.same)
  where
    all : (index : ℕ) (x : Placed) → slice_get left.items index ≡ Some x → stays (placed 0 first) x ≡ true
    all index x at =
        let best = best_of (placed 0 first) x in
        elim best.1.is [
          | inl e ↦ ap not (subst (λ z. beaten (placed 0 first) z ≡ false) e best.1.none)
          | inr by ↦
              (let there : Among left.items best.0 =
              of_passing (stays (placed 0 first)) left.items best.0
              (subst (λ (xs : List Placed). Among xs best.0) (sym left.same) (among_passing (stays (placed 0 first)) (placed 0 first) best.0 by.0 (ap not best.1.none))) in
              let other = index_of left.items best.0 there in
              absurd (single index other.0 x.link best.0.link (ap (λ ls. slice_get ls index) (sym left.are) ∙ link_of_item left.items index x at)
              (ap (λ ls. slice_get ls other.0) (sym left.are) ∙ link_of_item left.items other.0 best.0 other.1) by.1.from by.1.group (elim by.1.worse [
                | inl l ↦ inl l
                | inr e ↦ inr (e.0, before left.items other.0 index best.0 x left.rise other.1 at e.1)
              ])))
        ]

-- ---- nodes

-- the node but for its links
abbrev bare : Option Node → Option Node
bare entry = option_map (relinked []) entry

-- What is left of all nodes.
record NodesLeft (old new : Nodes) : Type 0 where
  pub size : length new ≡ length old
  pub same : (key : ℕ) → bare (node_at new key) ≡ bare (node_at old key)
  pub left : (key : ℕ) → AreLeft (links_of (node_at old key)) (links_of (node_at new key))

nodes_first : (g : Nodes) → NodesLeft g g
nodes_first g = record { size = refl; same = λ key. refl; left = λ key. left_first (links_of (node_at g key)) }

links_without : (index : ℕ) (entry : Option Node) (node : Node) → entry ≡ Some node → links_of (option_map (without_link index) entry) ≡ remove node.links index
links_without index None node there = absurd (cc)
links_without index (Some n) node there = (let same : n ≡ node = cc in ap (λ (m : Node). remove m.links index) same)

bare_without : (index : ℕ) (entry : Option Node) → bare (option_map (without_link index) entry) ≡ bare entry
bare_without index None = refl
bare_without index (Some node) = refl

nodes_next : (old mid new : Nodes) → NodesLeft old mid → Dedups mid new → NodesLeft old new
nodes_next old mid new are step = subst (NodesLeft old) (sym step.after) (record {
  size = length-set mid step.key (option_map (without_link step.index) (node_at mid step.key)) ∙ are.size;
  same = λ key. elim (cases_eq key step.key) [
    | inl e ↦ ap (λ k. bare (node_at after k)) e ∙ ap bare (at_changed (without_link step.index) mid step.key) ∙ bare_without step.index (node_at mid step.key) ∙ ap (λ k. bare (node_at mid k)) (sym e) ∙ are.same key
    | inr n ↦ ap bare (others key n) ∙ are.same key
  ];
  left = λ key. elim (cases_eq key step.key) [
    | inl e ↦ subst (λ k. AreLeft (links_of (node_at old k)) (links_of (node_at after k))) (sym e) here
    | inr n ↦ subst (AreLeft (links_of (node_at old key))) (ap links_of (sym (others key n))) (are.left key)
  ];
})
  where
    after : Nodes
    after = drop_link mid step.key step.index

    others : (key : ℕ) → key ≢ step.key → node_at after key ≡ node_at mid key
    others key n = at_other mid step.key (option_map (without_link step.index) (node_at mid step.key)) key n

    beside : slice_get step.linked.node.links step.other ≡ Some step.better
    beside =
        let same : Some step.beside.node ≡ Some step.linked.node = sym step.beside.there ∙ step.linked.there in
        let node : step.beside.node ≡ step.linked.node = cc in
        ap (λ (m : Node). slice_get m.links step.other) (sym node) ∙ step.beside.at_index

    here : AreLeft (links_of (node_at old step.key)) (links_of (node_at after step.key))
    here = subst (AreLeft (links_of (node_at old step.key))) (sym (ap links_of (at_changed (without_link step.index) mid step.key) ∙ links_without step.index (node_at mid step.key) step.linked.node step.linked.there))
        (left_next (links_of (node_at old step.key)) step.linked.node.links step.index step.other step.link step.better
        (subst (AreLeft (links_of (node_at old step.key))) (ap links_of step.linked.there) (are.left step.key)) step.linked.at_index beside step.from step.group step.worse)

nodes_along : (old mid new : Nodes) → NodesLeft old mid → Reaches Dedups mid new → NodesLeft old new
nodes_along old mid _ are Stays = are
nodes_along old mid new are (Goes {mid = next} step r) = nodes_along old next new (nodes_next old mid next are step) r

-- where nothing is left to drop no link may be
all_single : (g : Nodes) → IsDone Dedups g → (key : ℕ) (entry : Option Node) → node_at g key ≡ entry → AreSingle (links_of entry)
all_single g done key None e index other link better at beside from group worse = absurd (cc)
all_single g done key (Some node) e index other link better at beside from group worse = done (drop_link g key index) (record {
  key = key;
  index = index;
  other = other;
  link = link;
  better = better;
  linked = record { node = node; there = e; at_index = at };
  beside = record { node = node; there = e; at_index = beside };
  from = from;
  group = group;
  worse = worse;
  after = refl;
})

same_entry : (a b : Option Node) → bare a ≡ bare b → links_of a ≡ links_of b → a ≡ b
same_entry None None e l = refl
same_entry None (Some n) e l = absurd (cc)
same_entry (Some m) None e l = absurd (cc)
same_entry (Some m) (Some n) e l =
    let same : relinked [] m ≡ relinked [] n = cc in
    λ i. Some (relinked (l i) (same i))

pub deduped_one : (old one other : Nodes) → Exhausts Dedups old one → Exhausts Dedups old other → one ≡ other
deduped_one old one other a b =
    let p = nodes_along old old one (nodes_first old) a.reaches in
    let q = nodes_along old old other (nodes_first old) b.reaches in
    nodes_same one other (p.size ∙ sym q.size) (λ key. same_entry (node_at one key) (node_at other key) (p.same key ∙ sym (q.same key))
    (left_end (links_of (node_at old key)) (links_of (node_at one key)) (p.left key) (all_single one a.rests key (node_at one key) refl)
    ∙ sym (left_end (links_of (node_at old key)) (links_of (node_at other key)) (q.left key) (all_single other b.rests key (node_at other key) refl))))
