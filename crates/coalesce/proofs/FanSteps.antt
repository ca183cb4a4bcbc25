-- Lists of targets that grow.
use Rattle.std.proofs.Common.{◌≡◌, ◌≢◌, ℕ, zero, suc, ◌+◌, ◌<◌, ◌≤◌, List, [], ◌∷◌, ◌++◌, Some, refl, sym, ap, subst, arith, set, length, get_or, inl, inr}
use Rattle.std.specs.Prelude.{Vec, Contains}
use Rattle.std.specs.declared.alloc.Global.{Global}
use Rattle.std.proofs.lemmas.Bool.{cases_eq, cases_lt}
use Rattle.std.specs.List.Sorted.{IsPermutation}
use Rattle.std.proofs.lemmas.List.Sorted.{Contains-permutation}
use Rattle.node_arena.specs.Items.{keys_of}
use Rattle.graph.specs.Graph.{Node, Nodes, node_at}
use Rattle.graph.proofs.ListedSteps.{among_keys}
use Rattle.circuit.specs.Circuit.{Among}
use Rattle.coalesce.specs.FanOuts.{targets_of, Keeps}

pub among_more : (xs : List ℕ) (y x : ℕ) → Among xs x → Among (xs ++ y ∷ []) x
among_more [] y x a = absurd a
among_more (z ∷ xs) y x a = elim a [ inl e ↦ inl e | inr b ↦ inr (among_more xs y x b) ]

pub among_last : (xs : List ℕ) (y : ℕ) → Among (xs ++ y ∷ []) y
among_last [] y = inl refl
among_last (z ∷ xs) y = inr (among_last xs y)

-- what is among a list stands at an index
pub among_at : (xs : List ℕ) (x : ℕ) → Among xs x → (index : ℕ) × (index < length xs) × (get_or xs index 0 ≡ x)
among_at [] x a = absurd a
among_at (y ∷ xs) x a = elim a [
  | inl e ↦ (0, omega arith, sym e)
  | inr b ↦ (let r = among_at xs x b in (suc r.0, omega (arith, r.1), r.2))
]

pub at_among : (xs : List ℕ) (index : ℕ) → index < length xs → Among xs (get_or xs index 0)
at_among [] index h = absurd (omega arith)
at_among (y ∷ xs) zero h = inl refl
at_among (y ∷ xs) (suc index) h = inr (at_among xs index (omega arith))

targets-same : (lists : List (Vec ℕ Global)) (n : ℕ) (v : Vec ℕ Global) → n < length lists → targets_of (set lists n v) n ≡ v.items
targets-same [] n v h = absurd (omega arith)
targets-same (w ∷ lists) zero v h = refl
targets-same (w ∷ lists) (suc n) v h = targets-same lists n v (omega arith)

targets-other : (lists : List (Vec ℕ Global)) (n : ℕ) (v : Vec ℕ Global) (from : ℕ) → from ≢ n → targets_of (set lists n v) from ≡ targets_of lists from
targets-other [] n v from d = refl
targets-other (w ∷ lists) zero v zero d = absurd (d refl)
targets-other (w ∷ lists) zero v (suc from) d = refl
targets-other (w ∷ lists) (suc n) v zero d = refl
targets-other (w ∷ lists) (suc n) v (suc from) d = targets-other lists n v from (λ e. d (ap (λ k. suc k) e))

targets-here : (lists : List (Vec ℕ Global)) (n : ℕ) (v : Vec ℕ Global) → n < length lists → v ≡ get_or lists n v → targets_of lists n ≡ v.items
targets-here [] n v h e = absurd (omega arith)
targets-here (w ∷ lists) zero v h e = ap (λ (u : Vec ℕ Global). u.items) (sym e)
targets-here (w ∷ lists) (suc n) v h e = targets-here lists n v (omega arith) e

-- a list was replaced by one that has all of it
pub keeps_set : (old lists : List (Vec ℕ Global)) (n : ℕ) (v new : Vec ℕ Global) → ((from : ℕ) → targets_of lists from ≡ targets_of old from) → n < length lists → v ≡ get_or lists n v →
    ((key : ℕ) → Among v.items key → Among new.items key) → Keeps old (set lists n new)
keeps_set old lists n v new same h here more from key a = elim (cases_eq from n) [
  | inl e ↦ subst (λ k. Among (targets_of (set lists n new) k) key) (sym e)
      (subst (λ xs. Among xs key) (sym (targets-same lists n new h)) (more key (subst (λ xs. Among xs key) (targets-here lists n v h here) (subst (λ k. Among (targets_of lists k) key) e (subst (λ xs. Among xs key) (sym (same from)) a)))))
  | inr d ↦ subst (λ xs. Among xs key) (sym (targets-other lists n new from d)) (subst (λ xs. Among xs key) (sym (same from)) a)
]

pub added_set : (lists : List (Vec ℕ Global)) (n : ℕ) (new : Vec ℕ Global) (key : ℕ) → n < length lists → Among new.items key → Among (targets_of (set lists n new) n) key
added_set lists n new key h a = subst (λ xs. Among xs key) (sym (targets-same lists n new h)) a

contains_among : (xs : List ℕ) (x : ℕ) → Among xs x → Contains xs x
contains_among [] x a = absurd a
contains_among (y ∷ xs) x a = elim a [
  | inl e ↦ (0, omega arith, sym e)
  | inr b ↦ (let r = contains_among xs x b in (suc r.0, omega (arith, r.1), r.2))
]

among_contains : (xs : List ℕ) (x k : ℕ) → k < length xs → get_or xs k x ≡ x → Among xs x
among_contains [] x k h e = absurd (omega arith)
among_contains (y ∷ xs) x zero h e = inl (sym e)
among_contains (y ∷ xs) x (suc k) h e = inr (among_contains xs x k (omega arith) e)

-- another order has the same among it
pub among_permuted : (xs ys : List ℕ) → IsPermutation xs ys → (x : ℕ) → Among xs x → Among ys x
among_permuted xs ys p x a = let c = Contains-permutation xs ys x p (contains_among xs x a) in among_contains ys x c.0 c.1 c.2

pub item_at : (xs : List ℕ) (k x : ℕ) → k < length xs → x ≡ get_or xs k x → x ≡ get_or xs k 0
item_at [] k x h e = absurd (omega arith)
item_at (y ∷ xs) zero x h e = e
item_at (y ∷ xs) (suc k) x h e = item_at xs k x (omega arith) e

-- what holds of the first items, and of the next one, holds of one item more
pub each_more : (P : ℕ → Type 0) (xs : List ℕ) (i x : ℕ) → i < length xs → x ≡ get_or xs i x → ((j : ℕ) → j < i → P (get_or xs j 0)) → P x → (j : ℕ) → j < i + 1 → P (get_or xs j 0)
each_more P xs i x h e before here j less = elim (cases_lt j i) [
  | inl l ↦ before j l
  | inr l ↦ (let same : i ≡ j = omega arith in subst (λ k. P (get_or xs k 0)) same (subst P (item_at xs i x h e) here))
]

-- what holds of all items holds of what is among them
pub each_among : (P : ℕ → Type 0) (xs : List ℕ) (i : ℕ) → length xs ≤ i → ((j : ℕ) → j < i → P (get_or xs j 0)) → (x : ℕ) → Among xs x → P x
each_among P xs i h each x a = let r = among_at xs x a in subst P r.2 (each r.0 (omega (arith, r.1)))

-- a node that stands in the graph is among its keys
pub key_listed : (g : Nodes) (key : ℕ) (node : Node) → node_at g key ≡ Some node → Among (keys_of g) key
key_listed g key node there = subst (Among (keys_of g)) (omega arith) (among_keys 0 key g node there)
