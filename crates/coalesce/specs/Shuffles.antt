-- Lists in another order.
use Rattle.std.proofs.Common.{List, [], ◌∷◌, ◌++◌}
use Rattle.circuit.specs.Circuit.{Each, EachBefore}

pub data Shuffle {A : Type 0} : List A → List A → Type 0 where
  Same : {xs : List A} → Shuffle xs xs
  Under : {x : A} {xs ys : List A} → Shuffle xs ys → Shuffle (x ∷ xs) (x ∷ ys)
  Swap : {x y : A} {xs : List A} → Shuffle (x ∷ y ∷ xs) (y ∷ x ∷ xs)
  Then : {xs ys zs : List A} → Shuffle xs ys → Shuffle ys zs → Shuffle xs zs

each_shuffled : {A : Type 0} (P : A → Type 0) {xs ys : List A} → Shuffle xs ys → Each P xs → Each P ys
each_shuffled P Same e = e
each_shuffled P (Under s) e = (e.0, each_shuffled P s e.1)
each_shuffled P Swap e = (e.1.0, (e.0, e.1.1))
each_shuffled P (Then s t) e = each_shuffled P t (each_shuffled P s e)

-- what holds of each two elements holds in any order
pub before_shuffled : {A : Type 0} (R : A → A → Type 0) → ((a b : A) → R a b → R b a) → {xs ys : List A} → Shuffle xs ys → EachBefore R xs → EachBefore R ys
before_shuffled R f Same e = e
before_shuffled R f (Under {x} s) e = (each_shuffled (R x) s e.0, before_shuffled R f s e.1)
before_shuffled R f (Swap {x} {y}) e = ((f x y e.0.0, e.1.0), (e.0.1, e.1.1))
before_shuffled R f (Then s t) e = before_shuffled R f t (before_shuffled R f s e)

pub under_all : {A : Type 0} (xs : List A) {ys zs : List A} → Shuffle ys zs → Shuffle (xs ++ ys) (xs ++ zs)
under_all [] s = s
under_all (x ∷ xs) s = Under (under_all xs s)

past : {A : Type 0} (x : A) (ys zs : List A) → Shuffle (x ∷ (ys ++ zs)) (ys ++ x ∷ zs)
past x [] zs = Same
past x (y ∷ ys) zs = Then Swap (Under (past x ys zs))

-- two lists before a third change places
pub swap_all : {A : Type 0} (xs ys zs : List A) → Shuffle (xs ++ (ys ++ zs)) (ys ++ (xs ++ zs))
swap_all [] ys zs = Same
swap_all (x ∷ xs) ys zs = Then (Under (swap_all xs ys zs)) (past x ys (xs ++ zs))
