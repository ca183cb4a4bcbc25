-- What is left where nodes are dropped.
use Rattle.std.proofs.Common.{◌≡◌, ℕ, zero, suc, ◌+◌, ◌<◌, ◌≤◌, Bool, true, false, ◌||◌, List, [], ◌∷◌, Option, Some, None, refl, sym, ap, ◌∙◌, subst, arith, cond, set, length, inl, inr, if◌then◌else◌}
use Rattle.std.specs.Prelude.{◌==◌, IsSome}
use Rattle.std.proofs.lemmas.Bool.{cases_Bool, cases_eq, eq-eqb, ne_eqb}
use Rattle.std.proofs.lemmas.List.{length-set}
use Rattle.circuit.specs.Circuit.{Among}
use Rattle.graph.specs.Graph.{Node, Nodes, node_at, Lives}
use Rattle.graph.specs.Edits.{drop_set}
use Rattle.graph.specs.Measure.{measure, measure_at}
use Rattle.prune.specs.Among.{is_among, among_of}

pub cond_same : {A : Type 0} (b : Bool) (x : A) → x ≡ cond b x x
cond_same true x = refl
cond_same false x = refl

pub eqb-suc : (a b : ℕ) → (suc a == suc b) ≡ (a == b)
eqb-suc a b = elim (cases_eq a b) [
  | inl e ↦ eq-eqb (suc a) (suc b) (ap suc e) ∙ sym (eq-eqb a b e)
  | inr n ↦ ne_eqb (suc a) (suc b) (λ e. n (omega arith)) ∙ sym (ne_eqb a b n)
]

pub node_at-set_none : (g : Nodes) (key k : ℕ) → node_at (set g key None) k ≡ (if k == key then None else node_at g k)
node_at-set_none [] key k = cond_same (k == key) None
node_at-set_none (n ∷ g) zero zero = refl
node_at-set_none (n ∷ g) zero (suc k) = rw (ne_eqb (suc k) 0 (omega arith)) refl
node_at-set_none (n ∷ g) (suc key) zero = rw (ne_eqb 0 (suc key) (omega arith)) refl
node_at-set_none (n ∷ g) (suc key) (suc k) = rw eqb-suc (node_at-set_none g key k)

none_or : (a b : Bool) (x : Option Node) → (if a then None else (if b then None else x)) ≡ (if b || a then None else x)
none_or true true x = refl
none_or true false x = refl
none_or false true x = refl
none_or false false x = refl

pub node_at-drop_set : (g : Nodes) (keys : List ℕ) (k : ℕ) → node_at (drop_set g keys) k ≡ (if is_among keys k then None else node_at g k)
node_at-drop_set g [] k = refl
node_at-drop_set g (key ∷ keys) k =
    node_at-drop_set (set g key None) keys k
    ∙ ap (λ (entry : Option Node). if is_among keys k then None else entry) (node_at-set_none g key k)
    ∙ none_or (is_among keys k) (k == key) (node_at g k)

pub length-drop_set : (g : Nodes) (keys : List ℕ) → length (drop_set g keys) ≡ length g
length-drop_set g [] = refl
length-drop_set g (key ∷ keys) = length-drop_set (set g key None) keys ∙ length-set g key None

-- what isn't dropped stays, and what is dropped is gone
pub kept_at : (g : Nodes) (keys : List ℕ) (k : ℕ) → is_among keys k ≡ false → node_at (drop_set g keys) k ≡ node_at g k
kept_at g keys k h = node_at-drop_set g keys k ∙ rw h refl

pub gone_at : (g : Nodes) (keys : List ℕ) (k : ℕ) → is_among keys k ≡ true → node_at (drop_set g keys) k ≡ None
gone_at g keys k h = node_at-drop_set g keys k ∙ rw h refl

-- what is left stood there before
pub was_at : (g : Nodes) (keys : List ℕ) (k : ℕ) (node : Node) → node_at (drop_set g keys) k ≡ Some node → (is_among keys k ≡ false) × (node_at g k ≡ Some node)
was_at g keys k node there = elim (cases_Bool (is_among keys k)) [
  | inl h ↦ (let none : ◌≡◌ {A = Option Node} None (Some node) = sym (gone_at g keys k h) ∙ there in absurd (cc))
  | inr h ↦ (h, sym (kept_at g keys k h) ∙ there)
]

pub gone_of : (g : Nodes) (keys : List ℕ) (k : ℕ) (node : Node) → node_at g k ≡ Some node → node_at (drop_set g keys) k ≡ None → Among keys k
gone_of g keys k node there none = elim (cases_Bool (is_among keys k)) [
  | inl h ↦ among_of keys k h
  | inr h ↦ (let bad : ◌≡◌ {A = Option Node} (Some node) None = sym there ∙ sym (kept_at g keys k h) ∙ none in absurd (cc))
]

pub node_of : (g : Nodes) (key : ℕ) → Lives g key → (node : Node) × (node_at g key ≡ Some node)
node_of g key lives = by_entry (node_at g key) refl lives
  where
    by_entry : (entry : Option Node) → node_at g key ≡ entry → IsSome entry → (node : Node) × (node_at g key ≡ Some node)
    by_entry None e h = absurd (cc)
    by_entry (Some node) e h = (node, e)

pub lives_of : (g : Nodes) (key : ℕ) (node : Node) → node_at g key ≡ Some node → Lives g key
lives_of g key node there = rw there refl

pub below : (g : Nodes) (key : ℕ) (node : Node) → node_at g key ≡ Some node → key < length g
below [] key node h = absurd (cc)
below (n ∷ g) zero node h = omega arith
below (n ∷ g) (suc key) node h = omega (arith, below g key node h)

-- each drop lowers the measure by that of the node
measure-set_none : (g : Nodes) (key : ℕ) → measure (set g key None) + measure_at (node_at g key) ≡ measure g
measure-set_none [] key = refl
measure-set_none (n ∷ g) zero = omega arith
measure-set_none (n ∷ g) (suc key) = omega (arith, measure-set_none g key)

measure_falls : (g : Nodes) (keys : List ℕ) → measure (drop_set g keys) ≤ measure g
measure_falls g [] = omega arith
measure_falls g (key ∷ keys) = omega (arith, measure_falls (set g key None) keys, measure-set_none g key)

measure_above : (entry : Option Node) (node : Node) → entry ≡ Some node → 0 < measure_at entry
measure_above None node e = absurd (cc)
measure_above (Some n) node e = omega arith

falls_here : (g : Nodes) (key : ℕ) (keys : List ℕ) (node : Node) → node_at g key ≡ Some node → measure (drop_set (set g key None) keys) < measure g
falls_here g key keys node there =
    omega (arith, measure_falls (set g key None) keys, measure-set_none g key, measure_above (node_at g key) node there)

pub drop_falls : (g : Nodes) (keys : List ℕ) (key : ℕ) (node : Node) → node_at g key ≡ Some node → Among keys key → measure (drop_set g keys) < measure g
drop_falls g [] key node there a = absurd a
drop_falls g (one ∷ keys) key node there a = elim (cases_eq key one) [
  | inl e ↦ falls_here g one keys node (subst (λ k. node_at g k ≡ Some node) e there)
  | inr n ↦ elim a [
    | inl e ↦ absurd (n e)
    | inr b ↦
        (let less : measure (drop_set (set g one None) keys) < measure (set g one None) =
        drop_falls (set g one None) keys key node (node_at-set_none g one key ∙ rw (ne_eqb key one n) there) b in
        omega (arith, less, measure-set_none g one))
  ]
]
