-- Which pairs a merge makes twins: none but of nodes that read the node that stays.
use Rattle.std.proofs.Common.{◌≡◌, ◌≢◌, ℕ, zero, suc, Bool, true, List, [], ◌∷◌, Option, Some, None, refl, sym, ap, ◌∙◌, subst, map, inl, inr, length}
use Rattle.std.specs.Prelude.{slice_get}
use Rattle.std.proofs.lemmas.Bool.{cases_eq, eq-eqb, ne_eqb}
use Rattle.std.proofs.lemmas.List.{length-map, length-set}
use Rattle.graph.specs.declared.Link.{Link}
use Rattle.graph.specs.Graph.{Node, Nodes, node_at, HasLink}
use Rattle.graph.specs.Edits.{renamed, renamed_link, standing_for, merge}
use Rattle.graph.specs.Steps.{can_fold, is_full_or_none, asks_for_any, AreTwins}
use Rattle.coalesce.specs.MergedGraph.{at_kept, blind_at}
use Rattle.coalesce.specs.MergedSound.{was_there, IsLike}

abbrev pub first_of : Option Node → Option Bool
first_of None = None
first_of (Some node) = Some node.first

-- a link that comes from another node than the one that stays has its own name
own_name : (keep gone : ℕ) (old link : Link) → renamed_link keep gone old ≡ link → link.from ≢ keep → old ≡ link
own_name keep gone old link e n = elim (cases_eq old.from gone) [
  | inl same ↦ (let here : keep ≡ link.from = sym (rw (eq-eqb old.from gone same) refl) ∙ ap (λ (l : Link). l.from) e in absurd (n (sym here)))
  | inr d ↦ sym (rw (ne_eqb old.from gone d) refl) ∙ e
]

one_name : (keep gone : ℕ) (links : List Link) (link : Link) → map (renamed_link keep gone) links ≡ link ∷ [] → link.from ≢ keep → links ≡ link ∷ []
one_name keep gone [] link e n = absurd (cc)
one_name keep gone (old ∷ []) link e n =
    let same : renamed_link keep gone old ≡ link = cc in
    ap (λ (l : Link). l ∷ []) (own_name keep gone old link same n)
one_name keep gone (old ∷ other ∷ links) link e n = absurd (cc)

pub size_merged : (g : Nodes) (keep gone : ℕ) → length (merge g keep gone) ≡ length g
size_merged g keep gone = length-map _ _ ∙ length-set _ gone None ∙ length-set g keep _

-- a link into another node is there after the merge, with its new name
renamed_there : (keep gone : ℕ) (links : List Link) (index : ℕ) (link : Link) → slice_get links index ≡ Some link → slice_get (map (renamed_link keep gone) links) index ≡ Some (renamed_link keep gone link)
renamed_there keep gone [] index link e = absurd (cc)
renamed_there keep gone (l ∷ links) zero link e = let same : l ≡ link = cc in ap (λ (x : Link). Some (renamed_link keep gone x)) same
renamed_there keep gone (l ∷ links) (suc index) link e = renamed_there keep gone links index link e

standing_links : (other : Option Node) (node : Node) → (standing_for other node).links ≡ node.links
standing_links None node = refl
standing_links (Some other) node = refl

still_linked : (g : Nodes) (keep gone key index : ℕ) (link : Link) → key ≢ gone → HasLink g key index link → HasLink (merge g keep gone) key index (renamed_link keep gone link)
still_linked g keep gone key index link n has = elim (cases_eq key keep) [
  | inl e ↦ record {
    node = renamed keep gone (standing_for (node_at g gone) has.node);
    there = at_kept g keep gone key n ∙ rw (eq-eqb key keep e, has.there) refl;
    at_index = renamed_there keep gone (standing_for (node_at g gone) has.node).links index link (subst (λ links. slice_get links index ≡ Some link) (sym (standing_links (node_at g gone) has.node)) has.at_index);
  }
  | inr d ↦ record {
    node = renamed keep gone has.node;
    there = at_kept g keep gone key n ∙ rw (ne_eqb key keep d, has.there) refl;
    at_index = renamed_there keep gone has.node.links index link has.at_index;
  }
]

-- no node with one link has links from two nodes
one_link : (g : Nodes) (key : ℕ) (node : Node) (only : Link) → node_at g key ≡ Some node → node.links ≡ only ∷ [] → (i : ℕ) (l : Link) → HasLink g key i l → l ≡ only
one_link g key node only there links i l has = go i (subst (λ ls. slice_get ls i ≡ Some l) (ap (λ (n : Node). n.links) same ∙ links) has.at_index)
  where
    both : Some has.node ≡ Some node
    both = sym has.there ∙ there

    same : has.node ≡ node
    same = cc

    go : (i : ℕ) → slice_get (only ∷ []) i ≡ Some l → l ≡ only
    go zero e = cc
    go (suc i) e = absurd (cc)

-- Twins of the new graph that don't read the kept node were twins before, with the same link.
pub twins_before : (g : Nodes) (keep gone a b : ℕ) → AreTwins g keep gone → (w : AreTwins (merge g keep gone) a b) → w.link_a.from ≢ keep → (t : AreTwins g a b) × (t.link_a ≡ w.link_a)
twins_before g keep gone a b pair w apart = (
  record {
    a = old_a;
    b = old_b;
    link_a = w.link_a;
    link_b = w.link_b;
    there_a = was_a.2;
    there_b = was_b.2;
    can = ap can_fold (sym was_a.3.kind) ∙ w.can;
    kind = sym was_a.3.kind ∙ w.kind ∙ was_b.3.kind;
    first = first;
    state = sym was_a.3.state ∙ w.state ∙ was_b.3.state;
    due = sym was_a.3.due ∙ w.due ∙ was_b.3.due;
    priority = sym was_a.3.priority ∙ w.priority ∙ was_b.3.priority;
    links_a = one_name keep gone old_a.links w.link_a (sym was_a.3.links ∙ w.links_a) apart;
    links_b = one_name keep gone old_b.links w.link_b (sym was_b.3.links ∙ w.links_b) (λ e. apart (sym w.source ∙ e));
    back_a = w.back_a;
    back_b = w.back_b;
    source = w.source;
    not_a = w.not_a;
    not_b = w.not_b;
    light_a = w.light_a;
    light_b = w.light_b;
    alike = elim w.alike [
      | inl e ↦ inl e
      | inr any ↦ inr (ap asks_for_any (sym was_a.3.kind) ∙ any.0, full any.1.0 any.1.1 any.1.2)
    ];
    one_group = one_group;
  },
  refl,
)
  where
    was_a : (a ≢ gone) × (old : Node) × (node_at g a ≡ Some old) × IsLike w.a old (map (renamed_link keep gone) old.links)
    was_a = was_there g keep gone a w.a w.there_a

    was_b : (b ≢ gone) × (old : Node) × (node_at g b ≡ Some old) × IsLike w.b old (map (renamed_link keep gone) old.links)
    was_b = was_there g keep gone b w.b w.there_b

    old_a : Node
    old_a = was_a.1

    old_b : Node
    old_b = was_b.1

    blind : (key : ℕ) → key ≢ gone → first_of (node_at (merge g keep gone) key) ≡ first_of (node_at g key)
    blind key n = blind_at first_of (record { links = λ node links. refl; also = λ node other. refl }) g keep gone key n

    first : old_a.first ≡ old_b.first
    first =
        let here : Some old_a.first ≡ Some old_b.first =
        sym (ap first_of was_a.2) ∙ sym (blind a was_a.0) ∙ ap first_of w.there_a ∙ ap Some w.first ∙ sym (ap first_of w.there_b) ∙ blind b was_b.0 ∙ ap first_of was_b.2 in
        cc

    full : (source : Node) → node_at (merge g keep gone) w.link_a.from ≡ Some source → is_full_or_none source.kind source.state ≡ true →
        (source : Node) × (node_at g w.link_a.from ≡ Some source) × (is_full_or_none source.kind source.state ≡ true)
    full source there h =
        let was = was_there g keep gone w.link_a.from source there in
        (was.1, was.2, ap (λ kind. is_full_or_none kind was.1.state) (sym was.3.kind) ∙ ap (is_full_or_none source.kind) (sym was.3.state) ∙ h)

    own : (l : Link) (key : ℕ) → l.from ≡ key → key ≢ gone → (renamed_link keep gone l).from ≡ key
    own l key e n = rw (ne_eqb l.from gone (λ h. n (sym e ∙ h))) e

    one_group : (key i j : ℕ) (l m : Link) → HasLink g key i l → HasLink g key j m → l.from ≡ a → m.from ≡ b → l.group ≡ m.group
    one_group key i j l m has_l has_m from_a from_b = elim (cases_eq key gone) [
      | inl e ↦
          (let one = one_link g gone pair.b pair.link_b pair.there_b pair.links_b in
          let same : l ≡ m = one i l (subst (λ k. HasLink g k i l) e has_l) ∙ sym (one j m (subst (λ k. HasLink g k j m) e has_m)) in
          ap (λ (x : Link). x.group) same)
      | inr n ↦ w.one_group key i j (renamed_link keep gone l) (renamed_link keep gone m) (still_linked g keep gone key i l n has_l) (still_linked g keep gone key j m n has_m)
          (own l a from_a was_a.0) (own m b from_b was_b.0)
    ]
