-- What twins read, and what others read between their firings.
use Rattle.std.proofs.Common.{◌≡◌, ◌≢◌, ℕ, zero, suc, ◌-◌, ◌*◌, ◌<◌, ◌≤◌, max, Bool, true, false, List, [], ◌∷◌, Option, Some, None, refl, sym, ap, ap₂, ◌∙◌, subst, arith, cond, ◌⊎◌, inl, inr}
use Rattle.std.specs.Prelude.{slice_get, ◌==◌, nat_lt, ◌&&◌}
use Rattle.std.proofs.lemmas.Bool.{cases_eq, eqb-true, or_cases, false≢true, lt-ltb, le-ltb}
use Rattle.std.proofs.lemmas.Bool.Decides.{nat_tests}
use Rattle.circuit.specs.declared.Component.{Component}
use Rattle.circuit.specs.declared.Component.TheVariants.{Torch as TorchPart, Repeater as RepeaterPart}
use Rattle.circuit.specs.declared.Readings.{Readings}
use Rattle.circuit.specs.declared.Cell.{Cell}
use Rattle.circuit.specs.Circuit.{State, outs, out_at}
use Rattle.circuit.specs.Bounds.{BoundedAt, Bounded}
use Rattle.circuit.specs.Between.{Between, Path3, Early, Late, BackOnly, SideOnly}
use Rattle.circuit.specs.Merged.{ActsAs, Moves}
use Rattle.graph.specs.declared.Kind.{Kind}
use Rattle.graph.specs.declared.Kind.TheVariants.{Lever, Button, Plate, Torch, Repeater, Comparator, Constant}
use Rattle.graph.specs.declared.Group.{Group}
use Rattle.graph.specs.declared.Group.TheVariants.{Back, Side}
use Rattle.graph.specs.declared.Link.{Link}
use Rattle.graph.specs.Graph.{Node, Nodes, node_at}
use Rattle.graph.specs.Links.{is_group, of_group}
use Rattle.graph.specs.Readings.{share, reading, back_of, readings_of}
use Rattle.graph.specs.GraphCircuit.{role_of, role_at, base_of, base_at, readings_at, graph_circuit}
use Rattle.graph.specs.Sound.{IsKindInRange, IsSound}
use Rattle.graph.specs.Steps.{is_full_or_none, asks_for_any, AreTwins}

-- what differs between two readings makes no difference to what asks for any power alone
acts_for_any : (kind : Kind) (component : Component) (r q : Readings) → asks_for_any kind ≡ true → role_of kind ≡ Some component → nat_lt 0 r.back ≡ nat_lt 0 q.back → r.side ≡ q.side → ActsAs component r q
acts_for_any Torch component r q c role b s =
    let e : TorchPart ≡ component = cc in
    subst (λ x. ActsAs x r q) e (record { goals = rw b refl; locks = refl; fires = λ value. rw b refl; again = λ value. refl })
acts_for_any (Repeater delay) component r q c role b s =
    let e : RepeaterPart delay ≡ component = cc in
    subst (λ x. ActsAs x r q) e (record { goals = rw b refl; locks = ap (nat_lt 0) s; fires = λ value. rw (b, s) refl; again = λ value. rw s (ap (λ x. (q.side == 0) && ((value == 0) && x)) zeros) })
  where
    zeros : (r.back == 0) ≡ (q.back == 0)
    zeros = grind (arith, nat_tests)
acts_for_any Lever component r q c role b s = absurd (false≢true c)
acts_for_any _ component r q c role b s = absurd (false≢true c)

back_for_any : (kind : Kind) (power : ℕ) → asks_for_any kind ≡ true → back_of kind power ≡ power
back_for_any Torch power c = refl
back_for_any (Repeater delay) power c = refl
back_for_any Lever power c = refl
back_for_any _ power c = absurd (false≢true c)

acts_alike : (component : Component) (r q : Readings) → r ≡ q → ActsAs component r q
acts_alike component r q e = subst (ActsAs component r) e (record { goals = refl; locks = refl; fires = λ value. refl; again = λ value. refl })

-- two light links of any weight bring something at once from a source that gives all or nothing
above_same : (x wa wb : ℕ) → (x ≡ 0) ⊎ (x ≡ 15) → wa < 15 → wb < 15 → nat_lt 0 (max (x - wa) 0) ≡ nat_lt 0 (max (x - wb) 0)
above_same x wa wb h a b = elim h [
  | inl e ↦ le-ltb 0 (max (x - wa) 0) (omega arith) ∙ sym (le-ltb 0 (max (x - wb) 0) (omega arith))
  | inr e ↦ lt-ltb 0 (max (x - wa) 0) (omega arith) ∙ sym (lt-ltb 0 (max (x - wb) 0) (omega arith))
]

switch_out : (value : ℕ) → value ≤ 1 → (15 * value ≡ 0) ⊎ (15 * value ≡ 15)
switch_out value v = elim (cases_eq value 0) [ inl e ↦ inl (omega arith) | inr n ↦ inr (omega arith) ]

full_out : (kind : Kind) (state : ℕ) (cell : Cell) → is_full_or_none kind state ≡ true → BoundedAt (role_of kind) cell →
    (out_at (role_of kind) (base_of (role_of kind) state) cell ≡ 0) ⊎ (out_at (role_of kind) (base_of (role_of kind) state) cell ≡ 15)
full_out Lever state cell h v = switch_out cell.value v
full_out (Button delay) state cell h v = switch_out cell.value v
full_out Plate state cell h v = switch_out cell.value v
full_out Torch state cell h v = switch_out cell.value v
full_out (Repeater delay) state cell h v = switch_out cell.value v
full_out Constant state cell h v = elim (or_cases (state == 0) (state == 15) h) [ inl e ↦ inl (eqb-true state 0 e) | inr e ↦ inr (eqb-true state 15 e) ]
full_out _ state cell h v = absurd (false≢true h)

full_entry_out : (entry : Option Node) (cell : Cell) (node : Node) → entry ≡ Some node → is_full_or_none node.kind node.state ≡ true → BoundedAt (role_at entry) cell →
    (out_at (role_at entry) (base_at entry) cell ≡ 0) ⊎ (out_at (role_at entry) (base_at entry) cell ≡ 15)
full_entry_out None cell node there h b = absurd (cc)
full_entry_out (Some n) cell node there h b =
    let same : n ≡ node = cc in full_out n.kind n.state cell (rw same h) b

-- a node with one Back link reads by it alone
one_back : (given : ℕ → ℕ) (node : Node) (link : Link) → node.links ≡ link ∷ [] → link.group ≡ Back → readings_of given node ≡ record { back = back_of node.kind (max (given link.from - link.weight) 0); side = 0 }
one_back given node link e b = rw (e, b) refl

-- So twins make the same of what they read.
pub twins_read : (g : Nodes) (keep gone : ℕ) (w : AreTwins g keep gone) (component : Component) → role_of w.a.kind ≡ Some component → (s : State ℕ) → Bounded (graph_circuit g) s →
    ActsAs component (readings_of (outs (graph_circuit g) s) w.a) (readings_of (outs (graph_circuit g) s) w.b)
twins_read g keep gone w component role s bound = rw (one_back given w.a w.link_a w.links_a w.back_a, one_back given w.b w.link_b w.links_b w.back_b, w.source, ← w.kind) (elim w.alike [
  | inl e ↦ acts_alike component _ _ (rw e refl)
  | inr any ↦ acts_for_any w.a.kind component _ _ any.0 role
      (rw (back_for_any w.a.kind (max (given w.link_a.from - w.link_a.weight) 0) any.0, back_for_any w.a.kind (max (given w.link_a.from - w.link_b.weight) 0) any.0)
      (above_same (given w.link_a.from) w.link_a.weight w.link_b.weight
      (full_entry_out (node_at g w.link_a.from) (s.cells w.link_a.from) any.1.0 any.1.1 any.1.2 (bound.each w.link_a.from)) w.light_a w.light_b)) refl
])
  where
    given : ℕ → ℕ
    given = outs (graph_circuit g) s

-- and of the pair they read nothing
pub one_reads_apart : (one two : ℕ → ℕ) (entry : Option Node) (node : Node) (link : Link) → entry ≡ Some node → node.links ≡ link ∷ [] → link.group ≡ Back → one link.from ≡ two link.from →
    readings_at one entry ≡ readings_at two entry
one_reads_apart one two entry node link there links back e =
    ap (readings_at one) there ∙ one_back one node link links back
    ∙ ap (λ power. record { back = back_of node.kind (max (power - link.weight) 0); side = 0 }) e
    ∙ sym (ap (readings_at two) there ∙ one_back two node link links back)

-- a link from a key, or none
from_or_not : (links : List Link) (key : ℕ) → ((i : ℕ) × (link : Link) × (slice_get links i ≡ Some link) × (link.from ≡ key)) ⊎ ((i : ℕ) (link : Link) → slice_get links i ≡ Some link → link.from ≢ key)
from_or_not [] key = inr (λ i link e. cc)
from_or_not (l ∷ links) key = elim (cases_eq l.from key) [
  | inl e ↦ inl (0, l, refl, e)
  | inr n ↦ elim (from_or_not links key) [
    | inl f ↦ inl (suc f.0, f.1, f.2, f.3)
    | inr f ↦ inr (none n f)
  ]
]
  where
    none : l.from ≢ key → ((i : ℕ) (link : Link) → slice_get links i ≡ Some link → link.from ≢ key) → (i : ℕ) (link : Link) → slice_get (l ∷ links) i ≡ Some link → link.from ≢ key
    none n f zero link e = let h : l ≡ link = cc in λ x. n (ap (λ (z : Link). z.from) h ∙ x)
    none n f (suc i) link e = f i link e

-- the reading of a group whose sources give the same
reading-same_group : (o2 o1 : ℕ → ℕ) (group : Group) (links : List Link) →
    ((i : ℕ) (link : Link) → slice_get links i ≡ Some link → link.group ≡ group → o2 link.from ≡ o1 link.from) → reading o2 group links ≡ reading o1 group links
reading-same_group o2 o1 group [] h = refl
reading-same_group o2 o1 group (l ∷ links) h =
    ap₂ max (here group l.group (h 0 l refl)) (reading-same_group o2 o1 group links (λ i. h (suc i)))
  where
    here : (group own : Group) → (own ≡ group → o2 l.from ≡ o1 l.from) → cond (is_group group own) (o2 l.from - l.weight) 0 ≡ cond (is_group group own) (o1 l.from - l.weight) 0
    here Back Back h = rw (h refl) refl
    here Side Side h = rw (h refl) refl
    here Back Side h = refl
    here Side Back h = refl

readings-same : (o2 o1 : ℕ → ℕ) (node : Node) → ((i : ℕ) (link : Link) → slice_get node.links i ≡ Some link → o2 link.from ≡ o1 link.from) → readings_of o2 node ≡ readings_of o1 node
readings-same o2 o1 node h =
    rw (reading-same_group o2 o1 Back node.links (λ i link at g. h i link at), reading-same_group o2 o1 Side node.links (λ i link at g. h i link at)) refl

reading_up : (o1 o2 : ℕ → ℕ) → ((f : ℕ) → o1 f ≤ o2 f) → (group : Group) (links : List Link) → reading o1 group links ≤ reading o2 group links
reading_up o1 o2 h group [] = omega arith
reading_up o1 o2 h group (l ∷ links) =
    let here : share o1 group l ≤ share o2 group l = go (of_group group l) in omega (arith, reading_up o1 o2 h group links)
  where
    go : (b : Bool) → cond b (o1 l.from - l.weight) 0 ≤ cond b (o2 l.from - l.weight) 0
    go true = omega (arith, h l.from)
    go false = omega arith

back_of_up : (kind : Kind) (x y : ℕ) → IsKindInRange kind → x ≤ y → back_of kind x ≤ back_of kind y
back_of_up (Comparator subtract None None) x y r h = h
back_of_up (Comparator subtract None (Some far)) x y r h = let f : far ≤ 15 = r.1 in grind (arith, nat_tests)
back_of_up (Comparator subtract (Some direct) far) x y r h = omega arith
back_of_up Lever x y r h = h
back_of_up _ x y r h = h

-- The readings of another node while the first of the twins fires, and then the second.
pub node_path : (g : Nodes) (keep gone : ℕ) → AreTwins g keep gone → IsSound g → (rest mid last : ℕ → ℕ) → Moves keep gone rest mid last → (k : ℕ) (node : Node) → node_at g k ≡ Some node →
    Path3 (readings_of rest node) (readings_of mid node) (readings_of last node)
node_path g keep gone w sound rest mid last moves k node there = elim (from_or_not node.links keep) [
  | inr none ↦ Late (readings-same mid rest node (λ i link at. moves.early link.from (none i link at)))
  | inl f ↦ elim (from_or_not node.links gone) [
    | inr none ↦ Early (sym (readings-same last mid node (λ i link at. moves.late link.from (none i link at))))
    | inl h ↦ both f.0 f.1 f.2 f.3 h.0 h.1 h.2 h.3
  ]
]
  where
    between : (group : Group) → Between (reading rest group node.links) (reading mid group node.links) (reading last group node.links)
    between group = elim moves.way [
      | inl h ↦ inl (reading_up rest mid (λ f. (h f).0) group node.links, reading_up mid last (λ f. (h f).1) group node.links)
      | inr h ↦ inr (reading_up last mid (λ f. (h f).0) group node.links, reading_up mid rest (λ f. (h f).1) group node.links)
    ]

    back_between : Between (back_of node.kind (reading rest Back node.links)) (back_of node.kind (reading mid Back node.links)) (back_of node.kind (reading last Back node.links))
    back_between =
        let r = (sound.each k node there).kind in
        elim (between Back) [
          | inl h ↦ inl (back_of_up node.kind _ _ r h.0, back_of_up node.kind _ _ r h.1)
          | inr h ↦ inr (back_of_up node.kind _ _ r h.0, back_of_up node.kind _ _ r h.1)
        ]

    both : (i : ℕ) (l : Link) → slice_get node.links i ≡ Some l → l.from ≡ keep → (j : ℕ) (m : Link) → slice_get node.links j ≡ Some m → m.from ≡ gone →
        Path3 (readings_of rest node) (readings_of mid node) (readings_of last node)
    both i l at_i from_a j m at_j from_b = go l.group refl
      where
        group_a : (n : ℕ) (x : Link) → slice_get node.links n ≡ Some x → x.from ≡ keep → x.group ≡ l.group
        group_a n x at h = w.one_group k n j x m (record { node = node; there = there; at_index = at }) (record { node = node; there = there; at_index = at_j }) h from_b
            ∙ sym (w.one_group k i j l m (record { node = node; there = there; at_index = at_i }) (record { node = node; there = there; at_index = at_j }) from_a from_b)

        group_b : (n : ℕ) (x : Link) → slice_get node.links n ≡ Some x → x.from ≡ gone → x.group ≡ l.group
        group_b n x at h = sym (w.one_group k i n l x (record { node = node; there = there; at_index = at_i }) (record { node = node; there = there; at_index = at }) from_a h)

        mid_same : (group : Group) → (group ≡ l.group → ⊥) → reading mid group node.links ≡ reading rest group node.links
        mid_same group other = reading-same_group mid rest group node.links (λ n x at g. moves.early x.from (λ e. other (sym g ∙ group_a n x at e)))

        last_same : (group : Group) → (group ≡ l.group → ⊥) → reading last group node.links ≡ reading rest group node.links
        last_same group other = reading-same_group last rest group node.links
            (λ n x at g. moves.late x.from (λ e. other (sym g ∙ group_b n x at e)) ∙ moves.early x.from (λ e. other (sym g ∙ group_a n x at e)))

        go : (group : Group) → l.group ≡ group → Path3 (readings_of rest node) (readings_of mid node) (readings_of last node)
        go Back e = BackOnly (mid_same Side (λ h. differ (h ∙ e))) (last_same Side (λ h. differ (h ∙ e))) back_between
          where
            differ : Side ≡ Back → ⊥
            differ h = cc
        go Side e = SideOnly (ap (back_of node.kind) (mid_same Back (λ h. differ (h ∙ e)))) (ap (back_of node.kind) (last_same Back (λ h. differ (h ∙ e)))) (between Side)
          where
            differ : Back ≡ Side → ⊥
            differ h = cc
