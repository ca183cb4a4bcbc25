-- Keys by places: the outputs in their order, and who takes a click.
use Rattle.std.proofs.Common.{◌≡◌, ◌≢◌, ℕ, ℤ, zero, suc, ◌+◌, ◌<◌, ◌≤◌, Bool, true, false, cond, List, [], ◌∷◌, ◌++◌, map, drop, Option, Some, None, refl, sym, ap, ap₂, ◌∙◌, subst, arith, inl, inr, ◌⊎◌}
use Rattle.std.specs.Prelude.{◌&&◌, int_lt}
use Rattle.std.specs.declared.cmp.Ordering.TheVariants.{Less, Equal, Greater}
use Rattle.std.specs.Bool.{MatchBool}
use Rattle.std.specs.Ordering.{int_cmp, int_eq, is_eq, match_ordering}
use Rattle.std.specs.BTreeMap.{BTreeMap, get, is_at, insert_entry, Updates}
use Rattle.std.specs.Map.{lookup, values_of}
use Rattle.std.proofs.lemmas.Bool.{cases_Bool, cases_eq, and_parts, false≢true, cases_lt}
use Rattle.std.proofs.lemmas.Bool.Decides.{Decides-int_eq}
use Rattle.std.proofs.lemmas.Map.Lookups.{exact_signed}
use Rattle.circuit.specs.declared.Click.{Click}
use Rattle.circuit.specs.declared.Component.{Component}
use Rattle.circuit.specs.declared.Pos.{Pos}
use Rattle.circuit.specs.Circuit.{Each, EachBefore}
use Rattle.circuit.specs.Component.{takes}
use Rattle.circuit.specs.Taken.{Takes}
use Rattle.graph.specs.declared.Kind.{Kind}
use Rattle.graph.specs.declared.Kind.TheVariants.{Lever, Button, Plate, Weighted, Torch, Repeater, Comparator, Lamp, Trapdoor, Note, Wire, Constant}
use Rattle.graph.specs.Clicks.{is_same_place}
use Rattle.graph.specs.Graph.{Node, Nodes, node_at}
use Rattle.graph.specs.GraphCircuit.{Output, is_before, is_output, output_of, in_order, outputs_from, role_of, role_at, place_at, graph_circuit}
use Rattle.graph.specs.Sound.{IsSound, places_at, places_of}
use Rattle.graph_machine.specs.declared.net.Part.{Part}
use Rattle.graph_machine.specs.Places.{Spot, spot, spot_cmp, output_in, part_output, with_output, is_clicked, part_clicked, PutsClicked, AreClickedBelow, AreClicked, role_takes, part_takes, TakesAt}
use Rattle.graph_machine.specs.Wired.{part_at}

-- ---- the order of places

compared : (a b : ℤ) → ((int_cmp a b ≡ Less) × (int_lt a b ≡ true)) ⊎ (((int_cmp a b ≡ Greater) × (int_lt a b ≡ false) × (int_eq a b ≡ false)) ⊎ ((int_cmp a b ≡ Equal) × (int_lt a b ≡ false) × (int_eq a b ≡ true) × (a ≡ b)))
compared a b = elim (cases_Bool (int_lt a b)) [
  | inl e ↦ inl (rw e refl, e)
  | inr e ↦ elim (cases_Bool (int_lt b a)) [
    | inl f ↦ inr (inl (rw (e, f) refl, e, apart e f))
    | inr f ↦ (let same : int_cmp a b ≡ Equal = rw (e, f) refl in let is : a ≡ b = exact_signed a b same in inr (inr (same, e, (Decides-int_eq a b).1 is, is)))
  ]
]
  where
    apart : int_lt a b ≡ false → int_lt b a ≡ true → int_eq a b ≡ false
    apart e f = elim (cases_Bool (int_eq a b)) [
      | inl q ↦ (let is : a ≡ b = (Decides-int_eq a b).0 q in absurd (false≢true (sym e ∙ ap (λ n. int_lt n b) is ∙ ap (int_lt b) (sym is) ∙ f)))
      | inr q ↦ q
    ]

-- two places are compared by their order, unless they are one
cmp_before : (p q : Pos) → (spot_cmp (spot p) (spot q) ≡ cond (is_before p q) Less Greater) ⊎ (p ≡ q)
cmp_before p q = elim (compared p.y q.y) [
  | inl l ↦ inl (rw (l.0, l.1) refl)
  | inr r ↦ elim r [
    | inl g ↦ inl (rw (g.0, g.1) refl)
    | inr y ↦ elim (compared p.z q.z) [
      | inl l ↦ inl (rw (y.0, y.1, l.0, l.1) refl)
      | inr r ↦ elim r [
        | inl g ↦ inl (rw (y.0, y.1, g.0, g.1) refl)
        | inr z ↦ elim (compared p.x q.x) [
          | inl l ↦ inl (rw (y.0, y.1, z.0, z.1, l.0, l.1) refl)
          | inr r ↦ elim r [
            | inl g ↦ inl (rw (y.0, y.1, z.0, z.1, g.0, g.1) refl)
            | inr x ↦ inr (λ i. record { x = x.3 i; y = y.3 i; z = z.3 i })
          ]
        ]
      ]
    ]
  ]
]

apart_cmp : (p q : Pos) → p ≢ q → is_eq (spot_cmp (spot p) (spot q)) ≡ false
apart_cmp p q n = elim (cmp_before p q) [
  | inl c ↦ ap is_eq c ∙ (elim (is_before p q) as (λ b. is_eq (cond b Less Greater) ≡ false) [ true ↦ refl | false ↦ refl ])
  | inr same ↦ absurd (n same)
]

-- ---- places of a sound graph

each_left : {K : Type 0} (P : K → Type 0) (xs ys : List K) → Each P (xs ++ ys) → Each P xs
each_left P [] ys e = tt
each_left P (x ∷ xs) ys e = (e.0, each_left P xs ys e.1)

each_right : {K : Type 0} (P : K → Type 0) (xs ys : List K) → Each P (xs ++ ys) → Each P ys
each_right P [] ys e = e
each_right P (x ∷ xs) ys e = each_right P xs ys e.1

before_right : {K : Type 0} (R : K → K → Type 0) (xs ys : List K) → EachBefore R (xs ++ ys) → EachBefore R ys
before_right R [] ys e = e
before_right R (x ∷ xs) ys e = before_right R xs ys e.1

abbrev AreApart : List Pos → Type 0
AreApart places = EachBefore (λ a b. a ≢ b) places

-- the place of a node is none of those behind it
places_behind : (g : Nodes) → AreApart (places_of g) → (key : ℕ) (node : Node) → node_at g key ≡ Some node → Each (λ q. node.pos ≢ q) (places_of (drop (suc key) g))
places_behind [] apart key node here = absurd (cc)
places_behind (entry ∷ g) apart zero node here =
    let whole : AreApart (places_at (Some node) ++ places_of g) = subst (λ e. AreApart (places_at e ++ places_of g)) here apart in
    each_right (λ q. node.pos ≢ q) node.also (places_of g) whole.0
places_behind (entry ∷ g) apart (suc key) node here = places_behind g (before_right (λ a b. a ≢ b) (places_at entry) (places_of g) apart) key node here

each_place : (P : Pos → Type 0) (g : Nodes) → Each P (places_of g) → (key : ℕ) (node : Node) → node_at g key ≡ Some node → P node.pos
each_place P [] e key node here = absurd (cc)
each_place P (entry ∷ g) e zero node here = let whole : Each P (places_at (Some node) ++ places_of g) = subst (λ x. Each P (places_at x ++ places_of g)) here e in whole.0
each_place P (entry ∷ g) e (suc key) node here = each_place P g (each_right P (places_at entry) (places_of g) e) key node here

nodes_apart : (g : Nodes) → AreApart (places_of g) → (i j : ℕ) (a b : Node) → i < j → node_at g i ≡ Some a → node_at g j ≡ Some b → a.pos ≢ b.pos
nodes_apart [] apart i j a b low first second = absurd (cc)
nodes_apart (entry ∷ g) apart i zero a b low first second = absurd (omega arith)
nodes_apart (entry ∷ g) apart zero (suc j) a b low first second = each_place (λ q. a.pos ≢ q) g (places_behind (entry ∷ g) apart zero a first) j b second
nodes_apart (entry ∷ g) apart (suc i) (suc j) a b low first second = nodes_apart g (before_right (λ p q. p ≢ q) (places_at entry) (places_of g) apart) i j a b (omega arith) first second

-- ---- the outputs in order

pub each_in_order : (P : Output → Type 0) (entry : Option Output) (others : List Output) → ((one : Output) → entry ≡ Some one → P one) → Each P others → Each P (in_order entry others)
each_in_order P None others first rest = rest
each_in_order P (Some one) [] first rest = (first one refl, tt)
each_in_order P (Some one) (other ∷ others) first rest = elim (cases_Bool (is_before one.place other.place)) [
  | inl h ↦ rw h (first one refl, rest)
  | inr h ↦ rw h (rest.0, each_in_order P (Some one) others first rest.1)
]

output_place : (P : Pos → Type 0) (key : ℕ) (entry : Option Node) → Each P (places_at entry) → (one : Output) → output_of key entry ≡ Some one → P one.place
output_place P key None e one is = absurd (cc)
output_place P key (Some node) e one is = elim (cases_Bool (is_output node.kind)) [
  | inl h ↦ (let some : Some (record { place = node.pos; key = key }) ≡ Some one = rw h at is in let same : record { place = node.pos; key = key } ≡ one = cc in subst (λ (o : Output). P o.place) same e.0)
  | inr h ↦ (let none : None ≡ Some one = rw h at is in absurd (cc))
]

each_output : (P : Pos → Type 0) (from : ℕ) (g : Nodes) → Each P (places_of g) → Each (λ (o : Output). P o.place) (outputs_from from g)
each_output P from [] e = tt
each_output P from (entry ∷ g) e = each_in_order (λ (o : Output). P o.place) (output_of from entry) (outputs_from (suc from) g) (output_place P from entry (each_left P (places_at entry) (places_of g) e))
    (each_output P (suc from) g (each_right P (places_at entry) (places_of g) e))

-- a key that is put in by its place is an output that is put in by its place
in_order-entries : (one : Output) (es : List (Spot × ℕ)) → Each (λ (o : Output). one.place ≢ o.place) (map output_in es) → map output_in (insert_entry spot_cmp es (spot one.place) one.key) ≡ in_order (Some one) (map output_in es)
in_order-entries one [] apart = refl
in_order-entries one (e ∷ es) apart = elim (cmp_before one.place (output_in e).place) [
  | inl c ↦ ap (λ o. map output_in (match_ordering o ((spot one.place, one.key) ∷ e ∷ es) ((e.0, one.key) ∷ es) (e ∷ insert_entry spot_cmp es (spot one.place) one.key))) c ∙ by_test (in_order-entries one es apart.1) (is_before one.place (output_in e).place)
  | inr same ↦ absurd (apart.0 same)
]
  where
    by_test : map output_in (insert_entry spot_cmp es (spot one.place) one.key) ≡ in_order (Some one) (map output_in es) → (b : Bool) → map output_in (match_ordering (cond b Less Greater) ((spot one.place, one.key) ∷ e ∷ es) ((e.0, one.key) ∷ es) (e ∷ insert_entry spot_cmp es (spot one.place) one.key))
        ≡ cond b (one ∷ output_in e ∷ map output_in es) (output_in e ∷ in_order (Some one) (map output_in es))
    by_test rest true = refl
    by_test rest false = ap (λ l. output_in e ∷ l) rest

part_output-at : (key : ℕ) (entry : Option Node) → part_output key (part_at entry) ≡ output_of key entry
part_output-at key None = refl
part_output-at key (Some node) = refl

-- one entry before the others
outputs_step : (from key : ℕ) (g : Nodes) → outputs_from from (drop key g) ≡ in_order (output_of from (node_at g key)) (outputs_from (suc from) (drop (suc key) g))
outputs_step from zero [] = refl
outputs_step from (suc key) [] = refl
outputs_step from zero (entry ∷ g) = refl
outputs_step from (suc key) (entry ∷ g) = outputs_step from key g

outputs_none : (from : ℕ) (g : Nodes) → ((key : ℕ) → node_at g key ≡ None) → outputs_from from g ≡ []
outputs_none from [] none = refl
outputs_none from (entry ∷ g) none = ap₂ in_order (ap (output_of from) (none 0)) (outputs_none (suc from) g (λ key. none (suc key)))

-- behind the last node there is no output
pub outputs_past : (from count : ℕ) (g : Nodes) → ((key : ℕ) → count ≤ key → node_at g key ≡ None) → outputs_from from (drop count g) ≡ []
outputs_past from zero g past = outputs_none from g (λ key. past key (omega arith))
outputs_past from (suc count) [] past = refl
outputs_past from (suc count) (entry ∷ g) past = outputs_past from count g (λ key h. past (suc key) (omega arith))

entries_step : (g : Nodes) → IsSound g → (key : ℕ) (before : List (Spot × ℕ)) → map output_in before ≡ outputs_from (suc key) (drop (suc key) g) →
    map output_in (with_output before (output_of key (node_at g key))) ≡ outputs_from key (drop key g)
entries_step g sound key before so_far = by_entry (node_at g key) refl ∙ sym (outputs_step key key g)
  where
    by_output : (node : Node) → node_at g key ≡ Some node → (one : Option Output) → output_of key (Some node) ≡ one → map output_in (with_output before one) ≡ in_order one (outputs_from (suc key) (drop (suc key) g))
    by_output node here None is = so_far
    by_output node here (Some one) is =
        let behind : Each (λ (q : Pos). node.pos ≢ q) (places_of (drop (suc key) g)) = places_behind g sound.apart key node here in
        let apart : Each (λ (o : Output). one.place ≢ o.place) (outputs_from (suc key) (drop (suc key) g)) =
        output_place (λ p. Each (λ (o : Output). p ≢ o.place) (outputs_from (suc key) (drop (suc key) g))) key (Some (record node { also = [] })) (each_output (λ q. node.pos ≢ q) (suc key) (drop (suc key) g) behind, tt) one is in
        in_order-entries one before (subst (Each (λ (o : Output). one.place ≢ o.place)) (sym so_far) apart) ∙ ap (in_order (Some one)) so_far

    by_entry : (entry : Option Node) → node_at g key ≡ entry → map output_in (with_output before (output_of key (node_at g key))) ≡ in_order (output_of key (node_at g key)) (outputs_from (suc key) (drop (suc key) g))
    by_entry None here = ap (λ e. map output_in (with_output before (output_of key e))) here ∙ so_far ∙ ap (λ e. in_order (output_of key e) (outputs_from (suc key) (drop (suc key) g))) (sym here)
    by_entry (Some node) here = ap (λ e. map output_in (with_output before (output_of key e))) here ∙ by_output node here (output_of key (Some node)) refl
        ∙ ap (λ e. in_order (output_of key e) (outputs_from (suc key) (drop (suc key) g))) (sym here)

pub shown_more : (g : Nodes) → IsSound g → (count key : ℕ) (part : Option Part) (before after : List (Spot × ℕ)) → count ≡ suc key → part ≡ part_at (node_at g key) → map output_in before ≡ outputs_from count (drop count g) →
    after ≡ with_output before (part_output key part) → map output_in after ≡ outputs_from key (drop key g)
shown_more g sound count key part before after next here so_far more =
    let so : map output_in before ≡ outputs_from (suc key) (drop (suc key) g) = subst (λ n. map output_in before ≡ outputs_from n (drop n g)) next so_far in
    ap (map output_in) (more ∙ ap (with_output before) (ap (part_output key) here ∙ part_output-at key (node_at g key))) ∙ entries_step g sound key before so

values_are : (es : List (Spot × ℕ)) → values_of es ≡ map (λ (o : Output). o.key) (map output_in es)
values_are [] = refl
values_are (e ∷ es) = ap (λ l. e.1 ∷ l) (values_are es)

pub shown_keys : (g : Nodes) (es : List (Spot × ℕ)) → map output_in es ≡ outputs_from 0 g → values_of es ≡ (graph_circuit g).shown
shown_keys g es e = values_are es ∙ ap (map (λ (o : Output). o.key)) e

-- ---- clicks

-- one node more
pub clicked_more : (g : Nodes) → IsSound g → (key : ℕ) (part : Option Part) (old new : BTreeMap Spot ℕ) → part ≡ part_at (node_at g key) → PutsClicked key part old new → AreClickedBelow key g old → AreClickedBelow (key + 1) g new
clicked_more g sound key part old new here put so_far k below clicked = elim (cases_eq k key) [
  | inl e ↦ subst (λ j. get spot_cmp new (spot (place_at (node_at g j))) ≡ Some j) (sym e) (mine (node_at g key) refl (subst (λ j. part_clicked (part_at (node_at g j)) ≡ true) e clicked))
  | inr n ↦ another (omega arith) (node_at g key) (node_at g k) refl refl clicked
]
  where
    mine : (entry : Option Node) → node_at g key ≡ entry → part_clicked (part_at entry) ≡ true → get spot_cmp new (spot (place_at (node_at g key))) ≡ Some key
    mine None is c = absurd (false≢true c)
    mine (Some node) is c =
        let p : PutsClicked key (part_at (Some node)) old new = subst (λ q. PutsClicked key q old new) (here ∙ ap part_at is) put in
        let u : Updates spot_cmp old new (spot node.pos) (Some key) = subst (λ b. MatchBool b (Updates spot_cmp old new (spot node.pos) (Some key)) (new.entries ≡ old.entries)) c p in
        ap (λ e. get spot_cmp new (spot (place_at e))) is ∙ u.1

    same : new.entries ≡ old.entries → k < key → get spot_cmp new (spot (place_at (node_at g k))) ≡ Some k
    same e low = ap (lookup (is_at (spot_cmp (spot (place_at (node_at g k)))))) e ∙ so_far k low clicked

    another : k < key → (entry other : Option Node) → node_at g key ≡ entry → node_at g k ≡ other → part_clicked (part_at other) ≡ true → get spot_cmp new (spot (place_at (node_at g k))) ≡ Some k
    another low None other is there c = same (subst (λ q. PutsClicked key q old new) (here ∙ ap part_at is) put) low
    another low (Some node) None is there c = absurd (false≢true c)
    another low (Some node) (Some a) is there c =
        let p : PutsClicked key (part_at (Some node)) old new = subst (λ q. PutsClicked key q old new) (here ∙ ap part_at is) put in
        elim (cases_Bool (is_clicked node.kind)) [
          | inl t ↦
              (let u : Updates spot_cmp old new (spot node.pos) (Some key) = subst (λ b. MatchBool b (Updates spot_cmp old new (spot node.pos) (Some key)) (new.entries ≡ old.entries)) t p in
              let apart : node.pos ≢ a.pos = λ e. nodes_apart g sound.apart k key a node low there is (sym e) in
              let far : is_eq (spot_cmp (spot node.pos) (spot (place_at (node_at g k)))) ≡ false = subst (λ e. is_eq (spot_cmp (spot node.pos) (spot (place_at e))) ≡ false) (sym there) (apart_cmp node.pos a.pos apart) in
              u.2 (spot (place_at (node_at g k))) far ∙ so_far k low clicked)
          | inr t ↦ same (subst (λ b. MatchBool b (Updates spot_cmp old new (spot node.pos) (Some key)) (new.entries ≡ old.entries)) t p) low
        ]

pub clicked_all : (g : Nodes) (count : ℕ) (keys : BTreeMap Spot ℕ) → ((key : ℕ) → count ≤ key → node_at g key ≡ None) → AreClickedBelow count g keys → AreClicked g keys
clicked_all g count keys past below key clicked = elim (cases_lt key count) [
  | inl low ↦ below key low clicked
  | inr high ↦ absurd (false≢true (ap (λ e. part_clicked (part_at e)) (sym (past key high)) ∙ clicked))
]

-- who takes clicks
taker_clicked : (entry : Option Node) (click : Click) (component : Component) → role_at entry ≡ Some component → takes component click ≡ true → part_clicked (part_at entry) ≡ true
taker_clicked None click component there taken = absurd (cc)
taker_clicked (Some node) click component there taken = by_kind node.kind there
  where
    other : (one : Component) → takes one click ≡ false → Some one ≡ Some component → ⊥
    other one none is = let same : one ≡ component = cc in false≢true (sym none ∙ ap (λ c. takes c click) same ∙ taken)

    by_kind : (kind : Kind) → role_of kind ≡ Some component → is_clicked kind ≡ true
    by_kind Lever is = refl
    by_kind (Button delay) is = refl
    by_kind Plate is = refl
    by_kind Weighted is = refl
    by_kind Torch is = absurd (other _ refl is)
    by_kind (Repeater delay) is = absurd (other _ refl is)
    by_kind (Comparator subtract direct far) is = absurd (other _ refl is)
    by_kind Lamp is = absurd (other _ refl is)
    by_kind Trapdoor is = absurd (other _ refl is)
    by_kind Note is = absurd (other _ refl is)
    by_kind Wire is = absurd (other _ refl is)
    by_kind Constant is = absurd (cc)

found_taker : (g : Nodes) (keys : BTreeMap Spot ℕ) (pos : Pos) (click : Click) → AreClicked g keys → (t : Takes (graph_circuit g) pos click) → get spot_cmp keys (spot pos) ≡ Some t.key
found_taker g keys pos click clicked t = ap (λ p. get spot_cmp keys (spot p)) (sym t.place) ∙ clicked t.key (taker_clicked (node_at g t.key) click t.component t.there t.taken)

same_place : (p q : Pos) → is_same_place p q ≡ true → p ≡ q
same_place p q h =
    let first : (int_eq p.x q.x ≡ true) × (int_eq p.y q.y && int_eq p.z q.z ≡ true) = and_parts (int_eq p.x q.x) (int_eq p.y q.y && int_eq p.z q.z) h in
    let rest : (int_eq p.y q.y ≡ true) × (int_eq p.z q.z ≡ true) = and_parts (int_eq p.y q.y) (int_eq p.z q.z) first.1 in
    λ i. record { x = (Decides-int_eq p.x q.x).0 first.0 i; y = (Decides-int_eq p.y q.y).0 rest.0 i; z = (Decides-int_eq p.z q.z).0 rest.1 i }

itself : (p : Pos) → is_same_place p p ≡ true
itself p = rw ((Decides-int_eq p.x p.x).1 refl, (Decides-int_eq p.y p.y).1 refl, (Decides-int_eq p.z p.z).1 refl) refl

role_taken : (role : Option Component) (click : Click) → role_takes role click ≡ true → (component : Component) × (role ≡ Some component) × (takes component click ≡ true)
role_taken None click h = absurd (false≢true h)
role_taken (Some c) click h = (c, refl, h)

pub taker_here : (g : Nodes) (key : ℕ) (pos : Pos) (click : Click) → part_takes (part_at (node_at g key)) pos click ≡ true → TakesAt g key pos click
taker_here g key pos click h = by_entry (node_at g key) refl h
  where
    by_entry : (entry : Option Node) → node_at g key ≡ entry → part_takes (part_at entry) pos click ≡ true → TakesAt g key pos click
    by_entry None e t = absurd (false≢true t)
    by_entry (Some node) e t =
        let parts = and_parts (is_same_place node.pos pos) (role_takes (role_of node.kind) click) t in
        let role = role_taken (role_of node.kind) click parts.1 in
        record { component = role.0; there = ap role_at e ∙ role.1; place = ap place_at e ∙ same_place node.pos pos parts.0; taken = role.2 }

takes_there : (entry : Option Node) (pos : Pos) (click : Click) (component : Component) → role_at entry ≡ Some component → place_at entry ≡ pos → takes component click ≡ true → part_takes (part_at entry) pos click ≡ true
takes_there None pos click component role place taken = absurd (cc)
takes_there (Some node) pos click component role place taken =
    let here : is_same_place node.pos pos ≡ true = subst (λ p. is_same_place node.pos p ≡ true) place (itself node.pos) in
    let takes_it : role_takes (role_of node.kind) click ≡ true = ap (λ r. role_takes r click) role ∙ taken in
    rw (here, takes_it) refl

-- where no key is found there, none takes the click
pub none_found : (g : Nodes) (keys : BTreeMap Spot ℕ) (pos : Pos) (click : Click) → AreClicked g keys → get spot_cmp keys (spot pos) ≡ None → Takes (graph_circuit g) pos click → ⊥
none_found g keys pos click clicked none t = let clash : None ≡ Some t.key = sym none ∙ found_taker g keys pos click clicked t in absurd (cc)

-- and where the key that is found doesn't take it
pub other_found : (g : Nodes) (keys : BTreeMap Spot ℕ) (key : ℕ) (pos : Pos) (click : Click) → AreClicked g keys → get spot_cmp keys (spot pos) ≡ Some key → part_takes (part_at (node_at g key)) pos click ≡ false → Takes (graph_circuit g) pos click → ⊥
other_found g keys key pos click clicked found none t =
    let both : Some key ≡ Some t.key = sym found ∙ found_taker g keys pos click clicked t in
    let same : key ≡ t.key = cc in
    false≢true (sym none ∙ ap (λ k. part_takes (part_at (node_at g k)) pos click) same ∙ takes_there (node_at g t.key) pos click t.component t.there t.place t.taken)
