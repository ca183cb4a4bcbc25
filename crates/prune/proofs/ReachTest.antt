-- What a node reaches, found by computing: so the keys that it reaches make a list.
use Rattle.std.proofs.Common.{◌≡◌, ℕ, zero, suc, ◌+◌, ◌<◌, ◌≤◌, Bool, true, false, ◌&&◌, ◌||◌, List, [], ◌∷◌, Option, Some, None, refl, sym, ap, ◌∙◌, subst, arith, length, ◌⊎◌, inl, inr, if◌then◌else◌}
use Rattle.std.specs.Prelude.{◌==◌, ◌↔◌, slice_get}
use Rattle.std.proofs.lemmas.Bool.{cases_Bool, cases_eq, false≢true, eq-eqb, eqb-true, and_parts}
use Rattle.circuit.specs.Circuit.{Each, Among}
use Rattle.graph.specs.declared.Link.{Link}
use Rattle.graph.specs.Graph.{Node, Nodes, node_at, HasLink}
use Rattle.graph.specs.Sound.{IsSound}
use Rattle.graph.specs.Steps.{Reaches, Itself, Along}
use Rattle.prune.specs.Among.{each_at}
use Rattle.prune.specs.DropSteps.{node_of, below}

pub reaches_then : {g : Nodes} {a b c : ℕ} → Reaches g a b → Reaches g b c → Reaches g a c
reaches_then r Itself = r
reaches_then r (Along {index = i} s has) = Along {index = i} (reaches_then r s) has

-- each link comes from a key that was given
abbrev pub AreFromBelow : Nodes → Type 0
AreFromBelow g = (key index : ℕ) (link : Link) → HasLink g key index link → link.from < length g

pub from_below : (g : Nodes) → IsSound g → AreFromBelow g
from_below g s key index link has =
    let from = node_of g link.from ((s.each key has.node has.there).links index link has.at_index).1 in
    below g link.from from.0 from.1

abbrev comes_from : ℕ → List Link → Bool
comes_from a [] = false
comes_from a (link ∷ links) = (link.from == a) || comes_from a links

abbrev links_at : Option Node → List Link
links_at None = []
links_at (Some node) = node.links

-- some link goes from the one node to the other
abbrev is_linked : Nodes → ℕ → ℕ → Bool
is_linked g a b = comes_from a (links_at (node_at g b))

or_left : (a b : Bool) → a ≡ true → (a || b) ≡ true
or_left true b h = refl
or_left false b h = absurd (false≢true h)

or_right : (a b : Bool) → b ≡ true → (a || b) ≡ true
or_right true b h = refl
or_right false b h = h

and_both : (a b : Bool) → a ≡ true → b ≡ true → (a && b) ≡ true
and_both true b h k = k
and_both false b h k = absurd (false≢true h)

comes_of : (links : List Link) (i : ℕ) (link : Link) → slice_get links i ≡ Some link → comes_from link.from links ≡ true
comes_of [] i link at = absurd (cc)
comes_of (l ∷ links) zero link at = let same : l ≡ link = cc in rw (same, eq-eqb link.from link.from refl) refl
comes_of (l ∷ links) (suc i) link at = or_right (l.from == link.from) (comes_from link.from links) (comes_of links i link at)

link_from : (a : ℕ) (links : List Link) → comes_from a links ≡ true → (i : ℕ) × (link : Link) × (slice_get links i ≡ Some link) × (link.from ≡ a)
link_from a [] h = absurd (false≢true h)
link_from a (l ∷ links) h = elim (cases_Bool (l.from == a)) [
  | inl e ↦ (0, l, refl, eqb-true l.from a e)
  | inr e ↦ (let r = link_from a links (rw e at h) in (suc r.0, r.1, r.2, r.3))
]

linked_of : (g : Nodes) (b i : ℕ) (link : Link) → HasLink g b i link → is_linked g link.from b ≡ true
linked_of g b i link has =
    ap (λ (entry : Option Node). comes_from link.from (links_at entry)) has.there ∙ comes_of has.node.links i link has.at_index

reaches_linked : (g : Nodes) (a b : ℕ) → is_linked g a b ≡ true → Reaches g a b
reaches_linked g a b h = by_entry (node_at g b) refl h
  where
    by_entry : (entry : Option Node) → node_at g b ≡ entry → comes_from a (links_at entry) ≡ true → Reaches g a b
    by_entry None e h = absurd (false≢true h)
    by_entry (Some node) e h =
        let l = link_from a node.links h in
        let start : Reaches g a l.1.from = subst (Reaches g a) (sym l.3) Itself in
        Along {index = l.0} start (record { node = node; there = e; at_index = l.2 })

-- the one reaches the other in no step, in one, or through keys below a number
abbrev is_reached : Nodes → ℕ → ℕ → ℕ → Bool
is_reached g zero a b = (a == b) || is_linked g a b
is_reached g (suc n) a b = is_reached g n a b || (is_reached g n a n && is_reached g n n b)

reaches_where : (g : Nodes) (n a b : ℕ) → is_reached g n a b ≡ true → Reaches g a b
reaches_where g zero a b h = elim (cases_Bool (a == b)) [
  | inl e ↦ subst (Reaches g a) (eqb-true a b e) Itself
  | inr e ↦ reaches_linked g a b (rw e at h)
]
reaches_where g (suc n) a b h = elim (cases_Bool (is_reached g n a b)) [
  | inl e ↦ reaches_where g n a b e
  | inr e ↦
      (let both : (is_reached g n a n && is_reached g n n b) ≡ true = rw e at h in
      let parts = and_parts (is_reached g n a n) (is_reached g n n b) both in
      reaches_then (reaches_where g n a n parts.0) (reaches_where g n n b parts.1))
]

reached_more : (g : Nodes) (n a b : ℕ) → is_reached g n a b ≡ true → is_reached g (suc n) a b ≡ true
reached_more g n a b h = or_left (is_reached g n a b) (is_reached g n a n && is_reached g n n b) h

reached_by : (g : Nodes) (n a b : ℕ) → is_reached g n a n ≡ true → is_reached g n n b ≡ true → is_reached g (suc n) a b ≡ true
reached_by g n a b h k = or_right (is_reached g n a b) (is_reached g n a n && is_reached g n n b) (and_both (is_reached g n a n) (is_reached g n n b) h k)

reached_itself : (g : Nodes) (n a : ℕ) → is_reached g n a a ≡ true
reached_itself g zero a = or_left (a == a) (is_linked g a a) (eq-eqb a a refl)
reached_itself g (suc n) a = reached_more g n a a (reached_itself g n a)

reached_linked : (g : Nodes) (n a b : ℕ) → is_linked g a b ≡ true → is_reached g n a b ≡ true
reached_linked g zero a b h = or_right (a == b) (is_linked g a b) h
reached_linked g (suc n) a b h = reached_more g n a b (reached_linked g n a b h)

-- a way to the number itself doesn't need to pass it
reached_last : (g : Nodes) (n a : ℕ) → is_reached g (suc n) a n ≡ true → is_reached g n a n ≡ true
reached_last g n a h = elim (cases_Bool (is_reached g n a n)) [
  | inl e ↦ e
  | inr e ↦ (let no : false ≡ true = rw e at h in absurd (false≢true no))
]

reached_first : (g : Nodes) (n b : ℕ) → is_reached g (suc n) n b ≡ true → is_reached g n n b ≡ true
reached_first g n b h = elim (cases_Bool (is_reached g n n b)) [
  | inl e ↦ e
  | inr e ↦ (let both : (is_reached g n n n && false) ≡ true = rw e at h in absurd (false≢true (and_parts (is_reached g n n n) false both).1))
]

-- a way that is new with the number passes it
reached_past : (g : Nodes) (n a b : ℕ) → is_reached g (suc n) a b ≡ true → is_reached g n a b ≡ false → (is_reached g n a n ≡ true) × (is_reached g n n b ≡ true)
reached_past g n a b h e =
    let both : (is_reached g n a n && is_reached g n n b) ≡ true = rw e at h in and_parts (is_reached g n a n) (is_reached g n n b) both

-- two ways that meet below a number make one
abbrev Meets : Nodes → ℕ → Type 0
Meets g n = (a k b : ℕ) → k < n → is_reached g n a k ≡ true → is_reached g n k b ≡ true → is_reached g n a b ≡ true

meets_below : (g : Nodes) (n : ℕ) → Meets g n → (a k b : ℕ) → k < n → is_reached g (suc n) a k ≡ true → is_reached g (suc n) k b ≡ true → is_reached g (suc n) a b ≡ true
meets_below g n meets a k b low h j = by_parts (cases_Bool (is_reached g n a k)) (cases_Bool (is_reached g n k b))
  where
    by_parts : (is_reached g n a k ≡ true) ⊎ (is_reached g n a k ≡ false) → (is_reached g n k b ≡ true) ⊎ (is_reached g n k b ≡ false) → is_reached g (suc n) a b ≡ true
    by_parts (inl x) (inl y) = reached_more g n a b (meets a k b low x y)
    by_parts (inl x) (inr y) = let s = reached_past g n k b j y in reached_by g n a b (meets a k n low x s.0) s.1
    by_parts (inr x) (inl y) = let s = reached_past g n a k h x in reached_by g n a b s.0 (meets n k b low s.1 y)
    by_parts (inr x) (inr y) = reached_by g n a b (reached_past g n a k h x).0 (reached_past g n k b j y).1

reached_meets : (g : Nodes) (n : ℕ) → Meets g n
reached_meets g zero a k b less h j = absurd (omega arith)
reached_meets g (suc n) a k b less h j = elim (cases_eq k n) [
  | inl e ↦
      reached_by g n a b
      (reached_last g n a (subst (λ m. is_reached g (suc n) a m ≡ true) e h))
      (reached_first g n b (subst (λ m. is_reached g (suc n) m b ≡ true) e j))
  | inr ne ↦ meets_below g n (reached_meets g n) a k b (omega arith) h j
]

reached_where : (g : Nodes) → AreFromBelow g → (a b : ℕ) → Reaches g a b → is_reached g (length g) a b ≡ true
reached_where g low a _ Itself = reached_itself g (length g) a
reached_where g low a _ (Along {key = b} {index = i} {link = link} r has) =
    reached_meets g (length g) a link.from b (low b i link has) (reached_where g low a link.from r) (reached_linked g (length g) link.from b (linked_of g b i link has))

-- the numbers from one on that pass a test, so many being tried
abbrev numbers : (ℕ → Bool) → ℕ → ℕ → List ℕ
numbers test from zero = []
numbers test from (suc count) = if test from then from ∷ numbers test (suc from) count else numbers test (suc from) count

each_number : (P : ℕ → Type 0) (test : ℕ → Bool) (from count : ℕ) → ((k : ℕ) → from ≤ k → test k ≡ true → P k) → Each P (numbers test from count)
each_number P test from zero f = tt
each_number P test from (suc count) f = elim (cases_Bool (test from)) [
  | inl e ↦ rw e (f from (omega arith) e, each_number P test (suc from) count (λ k a. f k (omega arith)))
  | inr e ↦ rw e (each_number P test (suc from) count (λ k a. f k (omega arith)))
]

among_number : (test : ℕ → Bool) (from count k : ℕ) → from ≤ k → k < from + count → test k ≡ true → Among (numbers test from count) k
among_number test from zero k a b h = absurd (omega arith)
among_number test from (suc count) k a b h = elim (cases_eq k from) [
  | inl e ↦ (let here : test from ≡ true = subst (λ j. test j ≡ true) e h in rw here (inl e))
  | inr ne ↦
      (let next : Among (numbers test (suc from) count) k = among_number test (suc from) count k (omega arith) (omega arith) h in
      elim (cases_Bool (test from)) [ inl e ↦ rw e (inr next) | inr e ↦ rw e next ])
]

number_passes : (test : ℕ → Bool) (from count k : ℕ) → Among (numbers test from count) k → test k ≡ true
number_passes test from count k a = each_at (λ j. test j ≡ true) (numbers test from count) k (each_number (λ j. test j ≡ true) test from count (λ j b t. t)) a

-- the keys that the node reaches, rising
pub keys_reached : Nodes → ℕ → List ℕ
keys_reached g a = numbers (is_reached g (length g) a) 0 (length g)

reaches_below : (g : Nodes) (a b : ℕ) → a < length g → Reaches g a b → b < length g
reaches_below g a _ less Itself = less
reaches_below g a _ less (Along {key = b} {index = i} r has) = below g b has.node has.there

pub keys_reached_are : (g : Nodes) → AreFromBelow g → (a : ℕ) → a < length g → (k : ℕ) → Among (keys_reached g a) k ↔ Reaches g a k
unfolding keys_reached
keys_reached_are g low a less k = (
  (λ among. reaches_where g (length g) a k (number_passes (is_reached g (length g) a) 0 (length g) k among)),
  (λ r. among_number (is_reached g (length g) a) 0 (length g) k (omega arith) (omega (arith, reaches_below g a k less r)) (reached_where g low a k r)),
)
