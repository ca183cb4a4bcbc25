-- Which node gives its state to a place.
use Rattle.std.proofs.Common.{◌≡◌, ℕ, ◌+◌, Bool, true, List, [], ◌∷◌, Option, Some, None, refl, sym, ap, ◌∙◌, subst, arith, inl, inr}
use Rattle.std.specs.Prelude.{find}
use Rattle.std.specs.List.{list_any}
use Rattle.std.proofs.lemmas.Bool.{cases_Bool, and_parts, and_from, false≢true}
use Rattle.circuit.specs.declared.Pos.{Pos}
use Rattle.circuit.specs.Circuit.{Among}
use Rattle.build.specs.Place.{same_place}
use Rattle.build.specs.SamePlace.{place_itself, place_one}
use Rattle.graph.specs.declared.Kind.{Kind}
use Rattle.graph.specs.declared.Kind.TheVariants.{Constant}
use Rattle.graph.specs.Graph.{Node, Nodes, node_at}
use Rattle.graph.specs.Sound.{IsSound, places_at}
use Rattle.graph.proofs.ListedSteps.{among_keys}
use Rattle.node_arena.specs.Items.{keys_of}
use Rattle.compiler.specs.PlaceOrder.{IsPlaceOf}
use Rattle.compiler.proofs.OneRun.{one_node}
use Rattle.handover.specs.GivenBack.{has_state, keeps, keeper}

-- ---- lists

found_only : (f : ℕ → Bool) (xs : List ℕ) (x : ℕ) → Among xs x → f x ≡ true → ((y : ℕ) → f y ≡ true → y ≡ x) → find f xs ≡ Some x
found_only f [] x a h one = absurd a
found_only f (y ∷ ys) x a h one = elim (cases_Bool (f y)) [
  | inl t ↦ rw t (ap (λ k. Some k) (one y t))
  | inr t ↦ rw t (found_only f ys x (elim a [
    | inl e ↦ absurd (false≢true (sym t ∙ ap f (sym e) ∙ h))
    | inr b ↦ b
  ]) h one)
]

found_none : (f : ℕ → Bool) (xs : List ℕ) → ((y : ℕ) → f y ≡ true → ⊥) → find f xs ≡ None
found_none f [] none = refl
found_none f (y ∷ ys) none = elim (cases_Bool (f y)) [
  | inl t ↦ absurd (none y t)
  | inr t ↦ rw t (found_none f ys none)
]

found_so : (f : ℕ → Bool) (xs : List ℕ) (x : ℕ) → find f xs ≡ Some x → f x ≡ true
found_so f [] x e = absurd (cc)
found_so f (y ∷ ys) x e = elim (cases_Bool (f y)) [
  | inl t ↦ (let here : ◌≡◌ {A = Option ℕ} (Some y) (Some x) = rw t at e in let same : y ≡ x = cc in ap f (sym same) ∙ t)
  | inr t ↦ found_so f ys x (rw t at e)
]

among_any : (ps : List Pos) (p : Pos) → Among ps p → list_any (λ (own : Pos). same_place own p) ps ≡ true
among_any [] p a = absurd a
among_any (q ∷ ps) p a = elim (cases_Bool (same_place q p)) [
  | inl t ↦ rw t refl
  | inr t ↦ rw t (among_any ps p (elim a [
    | inl e ↦ absurd (false≢true (sym t ∙ ap (same_place q) e ∙ place_itself q))
    | inr b ↦ b
  ]))
]

any_among : (ps : List Pos) (p : Pos) → list_any (λ (own : Pos). same_place own p) ps ≡ true → Among ps p
any_among [] p h = absurd (false≢true h)
any_among (q ∷ ps) p h = elim (cases_Bool (same_place q p)) [
  | inl t ↦ inl (sym (place_one q p t))
  | inr t ↦ inr (any_among ps p (rw t at h))
]

-- ---- nodes

pub state_moves : (kind : Kind) → has_state kind ≡ true → kind ≡ Constant → ⊥
state_moves kind h e = false≢true (sym (ap has_state e) ∙ h)

-- a node with a state that stands for the place
pub record KeptBy (g : Nodes) (p : Pos) (key : ℕ) : Type 0 where
  pub node : Node
  pub there : node_at g key ≡ Some node
  pub state : has_state node.kind ≡ true
  pub stands : Among (places_at (Some node)) p

pub kept_by : (g : Nodes) (p : Pos) (key : ℕ) → keeps p (node_at g key) ≡ true → KeptBy g p key
kept_by g p key h = by_entry (node_at g key) refl h
  where
    by_entry : (entry : Option Node) → node_at g key ≡ entry → keeps p entry ≡ true → KeptBy g p key
    by_entry None e k = absurd (false≢true k)
    by_entry (Some node) e k =
        let both = and_parts (has_state node.kind) (list_any (λ (own : Pos). same_place own p) (node.pos ∷ node.also)) k in
        record { node = node; there = e; state = both.0; stands = any_among (places_at (Some node)) p both.1 }

abbrev pub is_place_of : (g : Nodes) (p : Pos) (key : ℕ) → KeptBy g p key → IsPlaceOf g key p
is_place_of g p key k = record { node = k.node; there = k.there; moves = state_moves k.node.kind k.state; stands = k.stands }

keeps_of : (g : Nodes) (p : Pos) (key : ℕ) → KeptBy g p key → keeps p (node_at g key) ≡ true
keeps_of g p key k = ap (keeps p) k.there ∙ and_from (has_state k.node.kind) (list_any (λ (own : Pos). same_place own p) (k.node.pos ∷ k.node.also)) k.state (among_any (places_at (Some k.node)) p k.stands)

-- The node with a state that stands for a place keeps it, and no other one does.
pub keeper_is : (g : Nodes) → IsSound g → (p : Pos) (key : ℕ) → KeptBy g p key → keeper g p ≡ Some key
keeper_is g sound p key k =
    found_only (λ (other : ℕ). keeps p (node_at g other)) (keys_of g) key
    (subst (Among (keys_of g)) (let zero_plus : 0 + key ≡ key = omega arith in zero_plus) (among_keys 0 key g k.node k.there))
    (keeps_of g p key k)
    (λ other h. one_node g sound other key p (is_place_of g p other (kept_by g p other h)) (is_place_of g p key k))

-- where no node stands for it, none keeps it
pub keeper_none : (g : Nodes) (p : Pos) → ((key : ℕ) → IsPlaceOf g key p → ⊥) → keeper g p ≡ None
keeper_none g p none = found_none (λ (key : ℕ). keeps p (node_at g key)) (keys_of g) (λ key h. none key (is_place_of g p key (kept_by g p key h)))

pub keeper_so : (g : Nodes) (p : Pos) (key : ℕ) → keeper g p ≡ Some key → KeptBy g p key
keeper_so g p key e = kept_by g p key (found_so (λ (other : ℕ). keeps p (node_at g other)) (keys_of g) key e)
