-- A merge leaves a sound graph, which is smaller.
use Rattle.std.proofs.Common.{◌≡◌, ◌≢◌, ℕ, zero, suc, ◌+◌, ◌<◌, ◌≤◌, List, [], ◌∷◌, ◌++◌, Option, Some, None, refl, sym, ap, ◌∙◌, subst, map, set, length, arith, append_assoc, inl, inr}
use Rattle.std.specs.Prelude.{option_map, slice_get, IsSome, ◌==◌, if◌then◌else◌}
use Rattle.std.proofs.lemmas.Bool.{cases_eq, eq-eqb, ne_eqb}
use Rattle.std.proofs.lemmas.List.{length-map}
use Rattle.circuit.specs.Circuit.{EachBefore}
use Rattle.graph.specs.declared.Link.{Link}
use Rattle.graph.specs.Graph.{Node, Nodes, node_at, Lives}
use Rattle.graph.specs.Sound.{IsKindInRange, can_wait, IsSoundNode, IsSound, places_at, places_of}
use Rattle.graph.specs.Measure.{measure_at, measure, changing}
use Rattle.graph.specs.Edits.{change, renamed, renamed_link, standing_for, merge}
use Rattle.graph.specs.AtKeys.{at_other}
use Rattle.coalesce.specs.MergedGraph.{stood, at_gone, at_kept}
use Rattle.coalesce.specs.Shuffles.{Shuffle, Same, Then, before_shuffled, under_all, swap_all}

-- One node is another with these links, but for its further places.
pub record IsLike (node old : Node) (new_links : List Link) : Type 0 where
  pub pos : node.pos ≡ old.pos
  pub kind : node.kind ≡ old.kind
  pub state : node.state ≡ old.state
  pub due : node.due ≡ old.due
  pub priority : node.priority ≡ old.priority
  pub links : node.links ≡ new_links

standing_like : (other entry : Option Node) (node : Node) → option_map (standing_for other) entry ≡ Some node → (old : Node) × (entry ≡ Some old) × IsLike node old old.links
standing_like other None node e = absurd (cc)
standing_like None (Some old) node e =
    let same : old ≡ node = cc in
    (old, refl, subst (λ (n : Node). IsLike n old old.links) same (record { pos = refl; kind = refl; state = refl; due = refl; priority = refl; links = refl }))
standing_like (Some other) (Some old) node e =
    let same : standing_for (Some other) old ≡ node = cc in
    (old, refl, subst (λ (n : Node). IsLike n old old.links) same (record { pos = refl; kind = refl; state = refl; due = refl; priority = refl; links = refl }))

stood_like : (g : Nodes) (keep gone key : ℕ) (node : Node) → stood g keep gone key ≡ Some node → (old : Node) × (node_at g key ≡ Some old) × IsLike node old old.links
stood_like g keep gone key node e = elim (cases_eq key keep) [
  | inl h ↦ standing_like (node_at g gone) (node_at g key) node (rw (eq-eqb key keep h) at e)
  | inr n ↦ (node, (rw (ne_eqb key keep n) at e), record { pos = refl; kind = refl; state = refl; due = refl; priority = refl; links = refl })
]

renamed_like : (keep gone : ℕ) (entry : Option Node) (node : Node) → option_map (renamed keep gone) entry ≡ Some node → (old : Node) × (entry ≡ Some old) × IsLike node old (map (renamed_link keep gone) old.links)
renamed_like keep gone None node e = absurd (cc)
renamed_like keep gone (Some old) node e =
    let same : renamed keep gone old ≡ node = cc in
    (old, refl, subst (λ (n : Node). IsLike n old (map (renamed_link keep gone) old.links)) same (record { pos = refl; kind = refl; state = refl; due = refl; priority = refl; links = refl }))

like_then : (keep gone : ℕ) (node mid old : Node) → IsLike node mid (map (renamed_link keep gone) mid.links) → IsLike mid old old.links → IsLike node old (map (renamed_link keep gone) old.links)
like_then keep gone node mid old a b = record {
  pos = a.pos ∙ b.pos;
  kind = a.kind ∙ b.kind;
  state = a.state ∙ b.state;
  due = a.due ∙ b.due;
  priority = a.priority ∙ b.priority;
  links = a.links ∙ ap (map (renamed_link keep gone)) b.links;
}

left_apart : (g : Nodes) (keep gone key : ℕ) (node : Node) → node_at (merge g keep gone) key ≡ Some node → key ≢ gone
left_apart g keep gone key node there e = let none : Some node ≡ None = sym there ∙ ap (node_at (merge g keep gone)) e ∙ at_gone g keep gone in absurd (cc)

-- A node that is left was there before, with other names in its links.
pub was_there : (g : Nodes) (keep gone key : ℕ) (node : Node) → node_at (merge g keep gone) key ≡ Some node →
    (key ≢ gone) × (old : Node) × (node_at g key ≡ Some old) × IsLike node old (map (renamed_link keep gone) old.links)
was_there g keep gone key node there = before (renamed_like keep gone (stood g keep gone key) node (sym (at_kept g keep gone key (left_apart g keep gone key node there)) ∙ there))
  where
    before : ((mid : Node) × (stood g keep gone key ≡ Some mid) × IsLike node mid (map (renamed_link keep gone) mid.links)) →
        (key ≢ gone) × (old : Node) × (node_at g key ≡ Some old) × IsLike node old (map (renamed_link keep gone) old.links)
    before (mid, e, like) = and_before (stood_like g keep gone key mid e)
      where
        and_before : ((old : Node) × (node_at g key ≡ Some old) × IsLike mid old old.links) →
            (key ≢ gone) × (old : Node) × (node_at g key ≡ Some old) × IsLike node old (map (renamed_link keep gone) old.links)
        and_before (old, f, other) = (left_apart g keep gone key node there, old, f, like_then keep gone node mid old like other)

-- what stood before stands still, unless it went
some_map : (f : Node → Node) (entry : Option Node) → IsSome entry → IsSome (option_map f entry)
some_map f None s = s
some_map f (Some node) s = refl

pub lives_still : (g : Nodes) (keep gone key : ℕ) → key ≢ gone → Lives g key → Lives (merge g keep gone) key
lives_still g keep gone key n lives = subst IsSome (sym (at_kept g keep gone key n)) (some_map (renamed keep gone) (stood g keep gone key) (elim (cases_eq key keep) [
  | inl e ↦ rw (eq-eqb key keep e) (some_map (standing_for (node_at g gone)) (node_at g key) lives)
  | inr d ↦ rw (ne_eqb key keep d) lives
]))

pub stands_still : (g : Nodes) (keep gone key : ℕ) (old : Node) → key ≢ gone → node_at g key ≡ Some old → (node : Node) × (node_at (merge g keep gone) key ≡ Some node) × (node.pos ≡ old.pos) × (node.kind ≡ old.kind)
stands_still g keep gone key old n there = go (node_at (merge g keep gone) key) refl (lives_still g keep gone key n (rw there refl))
  where
    go : (entry : Option Node) → node_at (merge g keep gone) key ≡ entry → IsSome entry → (node : Node) × (node_at (merge g keep gone) key ≡ Some node) × (node.pos ≡ old.pos) × (node.kind ≡ old.kind)
    go None e s = absurd (cc)
    go (Some node) e s =
        let was = was_there g keep gone key node e in
        let both : Some was.1 ≡ Some old = sym was.2 ∙ there in
        let same : was.1 ≡ old = cc in
        (node, e, was.3.pos ∙ ap (λ (n : Node). n.pos) same, was.3.kind ∙ ap (λ (n : Node). n.kind) same)

pub slice_get-map : (f : Link → Link) (links : List Link) (i : ℕ) (link : Link) → slice_get (map f links) i ≡ Some link → (l : Link) × (slice_get links i ≡ Some l) × (link ≡ f l)
slice_get-map f [] i link h = absurd (cc)
slice_get-map f (l ∷ links) zero link h = (l, refl, cc)
slice_get-map f (l ∷ links) (suc i) link h = slice_get-map f links i link h

source_lives : (g : Nodes) (keep gone from : ℕ) → keep ≢ gone → Lives g keep → Lives g from → Lives (merge g keep gone) (if from == gone then keep else from)
source_lives g keep gone from n kept lives = elim (cases_eq from gone) [
  | inl e ↦ rw (eq-eqb from gone e) (lives_still g keep gone keep n kept)
  | inr d ↦ rw (ne_eqb from gone d) (lives_still g keep gone from d lives)
]

sound_node : (g : Nodes) (keep gone : ℕ) → keep ≢ gone → Lives g keep → (node old : Node) → IsLike node old (map (renamed_link keep gone) old.links) → IsSoundNode g old → IsSoundNode (merge g keep gone) node
sound_node g keep gone n kept node old like s = record {
  state = rw (like.kind, like.state) s.state;
  kind = subst IsKindInRange (sym like.kind) s.kind;
  due = rw like.due s.due;
  priority = rw like.priority s.priority;
  waiting = λ h. ap can_wait like.kind ∙ s.waiting (λ e. h (like.due ∙ e));
  idle = λ h. like.priority ∙ s.idle (sym like.due ∙ h);
  links = λ index link at.
      let l = slice_get-map (renamed_link keep gone) old.links index link (subst (λ links. slice_get links index ≡ Some link) like.links at) in
      let was = s.links index l.0 l.1 in
      subst (λ (x : Link). (x.weight ≤ 15) × Lives (merge g keep gone) x.from) (sym l.2) (was.0, source_lives g keep gone l.0.from n kept was.1);
}

-- The places of the one that went stand among those of the one that stays.
places-renamed : (keep gone : ℕ) (g : Nodes) → places_of (map (option_map (renamed keep gone)) g) ≡ places_of g
places-renamed keep gone [] = refl
places-renamed keep gone (None ∷ g) = places-renamed keep gone g
places-renamed keep gone (Some node ∷ g) = ap (λ places. (node.pos ∷ node.also) ++ places) (places-renamed keep gone g)

taken_out : (other : Node) (g : Nodes) (gone : ℕ) → node_at g gone ≡ Some other → Shuffle (places_of g) (places_at (Some other) ++ places_of (set g gone None))
taken_out other [] gone e = absurd (cc)
taken_out other (entry ∷ g) zero e = subst (λ x. Shuffle (places_at x ++ places_of g) (places_at (Some other) ++ places_of g)) (sym e) Same
taken_out other (entry ∷ g) (suc gone) e =
    Then (under_all (places_at entry) (taken_out other g gone e)) (swap_all (places_at entry) (places_at (Some other)) (places_of (set g gone None)))

put_in : (other : Node) (g : Nodes) (keep gone : ℕ) → keep < gone → Lives g keep → node_at g gone ≡ Some other → Shuffle (places_of g) (places_of (set (change (standing_for (Some other)) g keep) gone None))
put_in other [] keep gone less lives e = absurd (cc)
put_in other (entry ∷ g) keep zero less lives e = absurd (omega arith)
put_in other (None ∷ g) zero (suc gone) less lives e = absurd (cc)
put_in other (Some node ∷ g) zero (suc gone) less lives e =
    subst (Shuffle (places_at (Some node) ++ places_of g)) (sym (append_assoc (places_at (Some node)) (places_at (Some other)) (places_of (set g gone None))))
    (under_all (places_at (Some node)) (taken_out other g gone e))
put_in other (entry ∷ g) (suc keep) (suc gone) less lives e = under_all (places_at entry) (put_in other g keep gone (omega arith) lives e)

pub sound_merged : (g : Nodes) (keep gone : ℕ) (other : Node) → keep < gone → Lives g keep → node_at g gone ≡ Some other → IsSound g → IsSound (merge g keep gone)
sound_merged g keep gone other less kept there sound = record {
  each = λ key node e.
      let was = was_there g keep gone key node e in
      sound_node g keep gone (λ h. absurd (omega arith)) kept node was.1 was.3 (sound.each key was.1 was.2);
  apart = subst (EachBefore (λ a b. a ≢ b)) (sym (places-renamed keep gone (set (change (standing_for (node_at g gone)) g keep) gone None)))
      (subst (λ entry. EachBefore (λ a b. a ≢ b) (places_of (set (change (standing_for entry) g keep) gone None))) (sym there)
      (before_shuffled (λ a b. a ≢ b) (λ a b h e. h (sym e)) (put_in other g keep gone less kept there) sound.apart));
}

-- A node less, and not a link more.
measure-renamed : (keep gone : ℕ) (g : Nodes) → measure (map (option_map (renamed keep gone)) g) ≡ measure g
measure-renamed keep gone [] = refl
measure-renamed keep gone (None ∷ g) = ap (λ n. 0 + n) (measure-renamed keep gone g)
measure-renamed keep gone (Some node ∷ g) = rw (length-map node.links (renamed_link keep gone), measure-renamed keep gone g) refl

measure-standing : (other entry : Option Node) → measure_at (option_map (standing_for other) entry) ≡ measure_at entry
measure-standing other None = refl
measure-standing None (Some node) = refl
measure-standing (Some other) (Some node) = refl

measure-change : (other : Option Node) (g : Nodes) (key : ℕ) → measure (change (standing_for other) g key) ≡ measure g
measure-change other [] key = refl
measure-change other (entry ∷ g) zero = ap (λ n. n + measure g) (measure-standing other entry)
measure-change other (entry ∷ g) (suc key) = ap (λ n. measure_at entry + n) (measure-change other g key)

measure-dropped : (g : Nodes) (key : ℕ) → measure (set g key None) + measure_at (node_at g key) ≡ measure g
measure-dropped [] key = refl
measure-dropped (entry ∷ g) zero = omega arith
measure-dropped (entry ∷ g) (suc key) = omega (arith, measure-dropped g key)

pub measure_merged : (g : Nodes) (keep gone : ℕ) (other : Node) → keep ≢ gone → node_at g gone ≡ Some other → measure (merge g keep gone) < measure g
measure_merged g keep gone other n there =
    let changed : Nodes = change (standing_for (node_at g gone)) g keep in
    let here : node_at changed gone ≡ Some other = at_other g keep _ gone (λ e. n (sym e)) ∙ there in
    let one : measure_at (node_at changed gone) ≡ 1 + length other.links + changing other.kind = ap measure_at here in
    omega (arith, measure-renamed keep gone (set changed gone None), measure-dropped changed gone, measure-change (node_at g gone) g keep, one)
