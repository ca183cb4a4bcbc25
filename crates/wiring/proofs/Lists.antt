-- Greatest values over lists, and what is among the items of lists.
use Rattle.std.proofs.Common.{◌≡◌, ℕ, zero, suc, ◌<◌, ◌≤◌, max, Bool, true, List, [], ◌∷◌, ◌++◌, length, map, filter, refl, sym, ◌∙◌, ap, subst, arith, inl, inr, ◌⊎◌}
use Rattle.std.specs.Prelude.{Contains, slice_index_or}
use Rattle.std.specs.List.{flat_map}
use Rattle.std.proofs.lemmas.Bool.{cases_Bool, cases_lt}
use Rattle.circuit.specs.Circuit.{Among}
use Rattle.wire_net.specs.Net.{greatest}

pub greatest-append : {A : Type 0} (f : A → ℕ) (xs ys : List A) → greatest (map f (xs ++ ys)) ≡ max (greatest (map f xs)) (greatest (map f ys))
greatest-append f [] ys = omega arith
greatest-append f (x ∷ xs) ys = omega (arith, greatest-append f xs ys)

-- the greatest over all that items bring is the greatest of what each of them brings
pub greatest-flat_map : {A B : Type 0} (f : B → ℕ) (g : A → List B) (h : A → ℕ) (xs : List A) → ((x : A) → Among xs x → greatest (map f (g x)) ≡ h x) →
    greatest (map f (flat_map g xs)) ≡ greatest (map h xs)
greatest-flat_map f g h [] e = refl
greatest-flat_map f g h (x ∷ xs) e = omega (arith, greatest-append f (g x) (flat_map g xs), e x (inl refl), greatest-flat_map f g h xs (λ y k. e y (inr k)))

pub greatest-among : {A : Type 0} (f : A → ℕ) (xs : List A) (x : A) → Among xs x → f x ≤ greatest (map f xs)
greatest-among f [] x h = absurd h
greatest-among f (y ∷ ys) x (inl e) = let k : f x ≡ f y = ap f e in omega arith
greatest-among f (y ∷ ys) x (inr h) = omega (arith, greatest-among f ys x h)

pub greatest-most : {A : Type 0} (f : A → ℕ) (m : ℕ) (xs : List A) → ((x : A) → Among xs x → f x ≤ m) → greatest (map f xs) ≤ m
greatest-most f m [] h = omega arith
greatest-most f m (x ∷ xs) h = omega (arith, h x (inl refl), greatest-most f m xs (λ y k. h y (inr k)))

-- an item that has the greatest value
pub record Reached {A : Type 0} (f : A → ℕ) (xs : List A) : Type 0 where
  pub it : A
  pub is_in : Among xs it
  pub is : greatest (map f xs) ≡ f it

pub greatest-reached : {A : Type 0} (f : A → ℕ) (xs : List A) → 0 < greatest (map f xs) → Reached f xs
greatest-reached f [] l = absurd (omega arith)
greatest-reached f (x ∷ xs) l = elim (cases_lt (f x) (greatest (map f xs))) [
  | inr h ↦ record { it = x; is_in = inl refl; is = omega arith }
  | inl h ↦
      let r : Reached f xs = greatest-reached f xs (omega arith) in
      record { it = r.it; is_in = inr r.is_in; is = omega (arith, r.is) }
]

pub among-append_left : {A : Type 0} (xs ys : List A) (x : A) → Among xs x → Among (xs ++ ys) x
among-append_left [] ys x h = absurd h
among-append_left (y ∷ xs) ys x (inl e) = inl e
among-append_left (y ∷ xs) ys x (inr h) = inr (among-append_left xs ys x h)

pub among-append_right : {A : Type 0} (xs ys : List A) (x : A) → Among ys x → Among (xs ++ ys) x
among-append_right [] ys x h = h
among-append_right (y ∷ xs) ys x h = inr (among-append_right xs ys x h)

pub among-append : {A : Type 0} (xs ys : List A) (x : A) → Among (xs ++ ys) x → Among xs x ⊎ Among ys x
among-append [] ys x h = inr h
among-append (y ∷ xs) ys x (inl e) = inl (inl e)
among-append (y ∷ xs) ys x (inr h) = elim (among-append xs ys x h) [ inl k ↦ inl (inr k) | inr k ↦ inr k ]

-- an item from which y comes
pub record From_one {A B : Type 0} (g : A → List B) (xs : List A) (y : B) : Type 0 where
  pub it : A
  pub is_in : Among xs it
  pub gives : Among (g it) y

pub among-flat_map : {A B : Type 0} (g : A → List B) (xs : List A) (y : B) → Among (flat_map g xs) y → From_one g xs y
among-flat_map g [] y h = absurd h
among-flat_map g (x ∷ xs) y h = elim (among-append (g x) (flat_map g xs) y h) [
  | inl k ↦ record { it = x; is_in = inl refl; gives = k }
  | inr k ↦ let r : From_one g xs y = among-flat_map g xs y k in record { it = r.it; is_in = inr r.is_in; gives = r.gives }
]

among-along : {A B : Type 0} (g : A → List B) (y : B) (x z : A) → x ≡ z → Among (g x) y → Among (g z) y
among-along g y x z e h = subst (λ w. Among (g w) y) e h

pub among-flat_map_back : {A B : Type 0} (g : A → List B) (xs : List A) (x : A) (y : B) → Among xs x → Among (g x) y → Among (flat_map g xs) y
among-flat_map_back g [] x y h k = absurd h
among-flat_map_back g (z ∷ xs) x y (inl e) k = among-append_left (g z) (flat_map g xs) y (among-along g y x z e k)
among-flat_map_back g (z ∷ xs) x y (inr h) k = among-append_right (g z) (flat_map g xs) y (among-flat_map_back g xs x y h k)

pub among-filter : {A : Type 0} (test : A → Bool) (xs : List A) (x : A) → Among (filter test xs) x → Among xs x × (test x ≡ true)
among-filter test [] x h = absurd h
among-filter test (y ∷ ys) x h = elim (cases_Bool (test y)) [
  | inl e ↦ elim (rw e at h) [ inl k ↦ (inl k, ap test k ∙ e) | inr k ↦ (let r : Among ys x × (test x ≡ true) = among-filter test ys x k in (inr r.0, r.1)) ]
  | inr e ↦ let r : Among ys x × (test x ≡ true) = among-filter test ys x (rw e at h) in (inr r.0, r.1)
]

-- an item whose image is y
pub record From_map {A B : Type 0} (f : A → B) (xs : List A) (y : B) : Type 0 where
  pub it : A
  pub is_in : Among xs it
  pub is : f it ≡ y

pub among-map : {A B : Type 0} (f : A → B) (xs : List A) (y : B) → Among (map f xs) y → From_map f xs y
among-map f [] y h = absurd h
among-map f (x ∷ xs) y (inl e) = record { it = x; is_in = inl refl; is = sym e }
among-map f (x ∷ xs) y (inr h) = let r : From_map f xs y = among-map f xs y h in record { it = r.it; is_in = inr r.is_in; is = r.is }

pub among-map_back : {A B : Type 0} (f : A → B) (xs : List A) (x : A) → Among xs x → Among (map f xs) (f x)
among-map_back f [] x h = absurd h
among-map_back f (y ∷ ys) x (inl e) = inl (ap f e)
among-map_back f (y ∷ ys) x (inr h) = inr (among-map_back f ys x h)

pub among-Contains : {A : Type 0} (xs : List A) (x : A) → Among xs x → Contains xs x
among-Contains [] x h = absurd h
among-Contains (y ∷ ys) x (inl e) = (0, omega arith, sym e)
among-Contains (y ∷ ys) x (inr h) = let r : Contains ys x = among-Contains ys x h in (suc r.0, (let l : r.0 < length ys = r.1 in omega arith), r.2)

Contains-at : {A : Type 0} (xs : List A) (x : A) (k : ℕ) → k < length xs → slice_index_or xs k x ≡ x → Among xs x
Contains-at [] x k l e = absurd (omega arith)
Contains-at (y ∷ ys) x zero l e = inl (sym e)
Contains-at (y ∷ ys) x (suc k) l e = inr (Contains-at ys x k (omega arith) e)

pub Contains-among : {A : Type 0} (xs : List A) (x : A) → Contains xs x → Among xs x
Contains-among xs x c = Contains-at xs x c.0 c.1 c.2
