-- The parts of the test of a pair make twins.
use Rattle.std.proofs.Common.{◌≡◌, ℕ, ◌<◌, Bool, true, List, [], ◌∷◌, Option, Some, None, refl, sym, ap, subst, length, get_or, inl, inr, IsTrue}
use Rattle.std.specs.Prelude.{slice_get, nat_lt, ◌&&◌}
use Rattle.std.proofs.lemmas.Bool.{cases_Bool, and_parts, false≢true, ltb-true}
use Rattle.graph.specs.declared.Group.{Group}
use Rattle.graph.specs.declared.Group.TheVariants.{Back, Side}
use Rattle.graph.specs.declared.Link.{Link}
use Rattle.graph.specs.Graph.{Node, Nodes, node_at, HasLink}
use Rattle.graph.specs.Links.{is_group}
use Rattle.graph.specs.Merging.{IsFanOut}
use Rattle.graph.specs.Steps.{is_full_or_none, AreTwins}
use Rattle.coalesce.specs.Pairs.{only_link, LookAlike, full_at, IsInOneGroup, ReadAlike}
use Rattle.coalesce.proofs.FanSteps.{among_at}

is_back : (group : Group) → is_group Back group ≡ true → group ≡ Back
is_back Back h = refl
is_back Side h = absurd (false≢true h)

-- what the one link is
pub only_is : (links : List Link) (link : Link) → only_link links ≡ Some link → (links ≡ link ∷ []) × (link.group ≡ Back) × (link.weight < 15)
only_is [] link e = absurd (cc)
only_is (x ∷ []) link e = elim (cases_Bool (is_group Back x.group && nat_lt x.weight 15)) [
  | inl h ↦
      (let here : Some x ≡ Some link = rw h at e in
      let same : x ≡ link = cc in
      let parts = and_parts (is_group Back x.group) (nat_lt x.weight 15) h in
      (ap (λ (l : Link). l ∷ []) same, subst (λ (l : Link). l.group ≡ Back) same (is_back x.group parts.0), subst (λ (l : Link). l.weight < 15) same (ltb-true x.weight 15 parts.1)))
  | inr h ↦ (let none : None ≡ Some link = rw h at e in absurd (cc))
]
only_is (x ∷ y ∷ links) link e = absurd (cc)

full_source : (entry : Option Node) → full_at entry ≡ true → (source : Node) × (entry ≡ Some source) × (is_full_or_none source.kind source.state ≡ true)
full_source None h = absurd (false≢true h)
full_source (Some node) h = (node, refl, h)

-- Nodes that look alike and read alike are twins just where what has links from both has them in one group.
pub twins_where : (g : Nodes) (keep gone : ℕ) (a b : Node) (targets : List ℕ) (answer : Bool) → node_at g keep ≡ Some a → node_at g gone ≡ Some b → LookAlike a b →
    ReadAlike g a.kind (only_link a.links) (only_link b.links) keep gone → IsFanOut g gone targets →
    (IsTrue answer → (index : ℕ) → index < length targets → IsInOneGroup (node_at g (get_or targets index 0)) keep gone) →
    (((index : ℕ) → index < length targets → IsInOneGroup (node_at g (get_or targets index 0)) keep gone) → IsTrue answer) →
    (IsTrue answer → AreTwins g keep gone) × (AreTwins g keep gone → IsTrue answer)
twins_where g keep gone a b targets answer there_a there_b look read fan each back = (
  (λ sure. go sure (only_link a.links) (only_link b.links) refl refl read),
  (λ twins. back (λ index less. grouped twins (get_or targets index 0) (node_at g (get_or targets index 0)) refl)),
)
  where
    grouped : AreTwins g keep gone → (key : ℕ) (entry : Option Node) → node_at g key ≡ entry → IsInOneGroup entry keep gone
    grouped twins key None e = tt
    grouped twins key (Some node) e = λ i j l m at_i at_j from_l from_m.
        twins.one_group key i j l m (record { node = node; there = e; at_index = at_i }) (record { node = node; there = e; at_index = at_j }) from_l from_m

    in_entry : (entry : Option Node) (i j : ℕ) (l m : Link) (x y : Node) → entry ≡ Some x → entry ≡ Some y → IsInOneGroup entry keep gone → slice_get x.links i ≡ Some l → slice_get y.links j ≡ Some m → l.from ≡ keep → m.from ≡ gone → l.group ≡ m.group
    in_entry None i j l m x y ex ey one at_i at_j = absurd (cc)
    in_entry (Some node) i j l m x y ex ey one at_i at_j =
        let same_x : node ≡ x = cc in
        let same_y : node ≡ y = cc in
        one i j l m (subst (λ (n : Node). slice_get n.links i ≡ Some l) (sym same_x) at_i) (subst (λ (n : Node). slice_get n.links j ≡ Some m) (sym same_y) at_j)

    one_group : IsTrue answer → (key i j : ℕ) (l m : Link) → HasLink g key i l → HasLink g key j m → l.from ≡ keep → m.from ≡ gone → l.group ≡ m.group
    one_group sure key i j l m has_l has_m from_l from_m =
        let place = among_at targets key (fan.all key j m has_m from_m) in
        in_entry (node_at g key) i j l m has_l.node has_m.node has_l.there has_m.there (subst (λ k. IsInOneGroup (node_at g k) keep gone) place.2 (each sure place.0 place.1)) has_l.at_index has_m.at_index from_l from_m

    go : IsTrue answer → (one other : Option Link) → only_link a.links ≡ one → only_link b.links ≡ other → ReadAlike g a.kind one other keep gone → AreTwins g keep gone
    go sure (Some one) (Some other) e_a e_b links =
        let is_a = only_is a.links one e_a in
        let is_b = only_is b.links other e_b in
        record {
          a = a;
          b = b;
          link_a = one;
          link_b = other;
          there_a = there_a;
          there_b = there_b;
          can = look.can;
          kind = look.kind;
          first = look.first;
          state = look.state;
          due = look.due;
          priority = look.priority;
          links_a = is_a.0;
          links_b = is_b.0;
          back_a = is_a.1;
          back_b = is_b.1;
          source = links.source;
          not_a = links.not_a;
          not_b = links.not_b;
          light_a = is_a.2;
          light_b = is_b.2;
          alike = elim links.alike [ inl e ↦ inl e | inr any ↦ inr (any.0, full_source (node_at g one.from) any.1) ];
          one_group = one_group sure;
        }
    go sure (Some one) None e_a e_b links = absurd links
    go sure None other e_a e_b links = absurd links
