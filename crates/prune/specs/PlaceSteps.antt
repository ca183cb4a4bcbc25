-- Places that differ still differ where nodes are dropped.
use Rattle.std.proofs.Common.{ℕ, zero, suc, List, [], ◌∷◌, ◌++◌, None, set}
use Rattle.circuit.specs.declared.Pos.{Pos}
use Rattle.circuit.specs.Circuit.{Each, EachBefore}
use Rattle.graph.specs.Graph.{Nodes}
use Rattle.graph.specs.Edits.{drop_set}
use Rattle.graph.specs.Sound.{places_at, places_of}

each_behind : {A : Type 0} (P : A → Type 0) (xs ys : List A) → Each P (xs ++ ys) → Each P ys
each_behind P [] ys e = e
each_behind P (x ∷ xs) ys e = each_behind P xs ys e.1

before_behind : {A : Type 0} (R : A → A → Type 0) (xs ys : List A) → EachBefore R (xs ++ ys) → EachBefore R ys
before_behind R [] ys e = e
before_behind R (x ∷ xs) ys e = before_behind R xs ys e.1

each_with : {A : Type 0} (P : A → Type 0) (xs ys zs : List A) → (Each P ys → Each P zs) → Each P (xs ++ ys) → Each P (xs ++ zs)
each_with P [] ys zs f e = f e
each_with P (x ∷ xs) ys zs f e = (e.0, each_with P xs ys zs f e.1)

before_with : {A : Type 0} (R : A → A → Type 0) (xs ys zs : List A) → ((P : A → Type 0) → Each P ys → Each P zs) → (EachBefore R ys → EachBefore R zs) →
    EachBefore R (xs ++ ys) → EachBefore R (xs ++ zs)
before_with R [] ys zs f g e = g e
before_with R (x ∷ xs) ys zs f g e = (each_with (R x) xs ys zs (f (R x)) e.0, before_with R xs ys zs f g e.1)

places_fewer : (P : Pos → Type 0) (g : Nodes) (key : ℕ) → Each P (places_of g) → Each P (places_of (set g key None))
places_fewer P [] key e = e
places_fewer P (entry ∷ g) zero e = each_behind P (places_at entry) (places_of g) e
places_fewer P (entry ∷ g) (suc key) e = each_with P (places_at entry) (places_of g) (places_of (set g key None)) (places_fewer P g key) e

places_apart : (R : Pos → Pos → Type 0) (g : Nodes) (key : ℕ) → EachBefore R (places_of g) → EachBefore R (places_of (set g key None))
places_apart R [] key e = e
places_apart R (entry ∷ g) zero e = before_behind R (places_at entry) (places_of g) e
places_apart R (entry ∷ g) (suc key) e =
    before_with R (places_at entry) (places_of g) (places_of (set g key None)) (λ P. places_fewer P g key) (places_apart R g key) e

pub places_of_rest : (R : Pos → Pos → Type 0) (g : Nodes) (keys : List ℕ) → EachBefore R (places_of g) → EachBefore R (places_of (drop_set g keys))
places_of_rest R g [] e = e
places_of_rest R g (key ∷ keys) e = places_of_rest R (set g key None) keys (places_apart R g key e)
