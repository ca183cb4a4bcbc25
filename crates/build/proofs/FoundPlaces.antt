-- What is found place by place.
use Rattle.std.proofs.Common.{◌≡◌, ℕ, ◌+◌, ◌<◌, ◌≤◌, Bool, true, false, Option, Some, None, List, [], ◌∷◌, ◌++◌, length, drop, refl, sym, ◌∙◌, ap, arith, append_assoc}
use Rattle.std.specs.Prelude.{filter}
use Rattle.std.specs.List.{filter_map}
use Rattle.std.proofs.lemmas.List.{drop_more, drop_all, append-nil}
use Rattle.circuit.specs.declared.Pos.{Pos}
use Rattle.build.specs.Plan.{Plan, volume, places, place_of}
use Rattle.build.specs.Places.{length-places, places-at}

-- the place of a cell stands before those of the cells to come
places_from : (b : Plan) (i : ℕ) → i < volume b → drop i (places b) ≡ place_of b i ∷ drop (i + 1) (places b)
places_from b i h =
    let inside : i < length (places b) = omega (arith, length-places b) in
    drop_more (places b) i (place_of b i) inside ∙ ap (λ (p : Pos). p ∷ drop (i + 1) (places b)) (places-at b i (place_of b i) h)

-- after the last cell no place is to come
places_end : (b : Plan) (i : ℕ) → volume b ≤ i → drop i (places b) ≡ []
places_end b i h = let past : length (places b) ≤ i = omega (arith, length-places b) in drop_all i (places b) past

-- what was found is in front of what the places to come give
abbrev pub FoundBelow : {X : Type 0} → (Pos → Option X) → Plan → List X → ℕ → Type 0
FoundBelow f b found i = filter_map f (places b) ≡ found ++ filter_map f (drop i (places b))

pub found_no_more : {X : Type 0} (f : Pos → Option X) (b : Plan) (i : ℕ) (found : List X) → i < volume b → f (place_of b i) ≡ None → FoundBelow f b found i → FoundBelow f b found (i + 1)
found_no_more f b i found h none before = before ∙ ap (λ (ps : List Pos). found ++ filter_map f ps) (places_from b i h) ∙ rw none refl

pub found_one_more : {X : Type 0} (f : Pos → Option X) (b : Plan) (i : ℕ) (found : List X) (one : X) → i < volume b → f (place_of b i) ≡ Some one → FoundBelow f b found i → FoundBelow f b (found ++ one ∷ []) (i + 1)
found_one_more f b i found one h some before =
    before ∙ ap (λ (ps : List Pos). found ++ filter_map f ps) (places_from b i h)
    ∙ rw some (sym (append_assoc found (one ∷ []) (filter_map f (drop (i + 1) (places b)))))

pub found_all : {X : Type 0} (f : Pos → Option X) (b : Plan) (i : ℕ) (found : List X) → volume b ≤ i → FoundBelow f b found i → found ≡ filter_map f (places b)
found_all f b i found h before = sym (before ∙ ap (λ (ps : List Pos). found ++ filter_map f ps) (places_end b i h) ∙ append-nil found)

-- the same of the places that pass a test
abbrev pub KeptBelow : (Pos → Bool) → Plan → List Pos → ℕ → Type 0
KeptBelow test b kept i = filter test (places b) ≡ kept ++ filter test (drop i (places b))

pub kept_no_more : (test : Pos → Bool) (b : Plan) (i : ℕ) (kept : List Pos) → i < volume b → test (place_of b i) ≡ false → KeptBelow test b kept i → KeptBelow test b kept (i + 1)
kept_no_more test b i kept h none before = before ∙ ap (λ (ps : List Pos). kept ++ filter test ps) (places_from b i h) ∙ rw none refl

pub kept_one_more : (test : Pos → Bool) (b : Plan) (i : ℕ) (kept : List Pos) → i < volume b → test (place_of b i) ≡ true → KeptBelow test b kept i → KeptBelow test b (kept ++ place_of b i ∷ []) (i + 1)
kept_one_more test b i kept h some before =
    before ∙ ap (λ (ps : List Pos). kept ++ filter test ps) (places_from b i h)
    ∙ rw some (sym (append_assoc kept (place_of b i ∷ []) (filter test (drop (i + 1) (places b)))))

pub kept_all : (test : Pos → Bool) (b : Plan) (i : ℕ) (kept : List Pos) → volume b ≤ i → KeptBelow test b kept i → kept ≡ filter test (places b)
kept_all test b i kept h before = sym (before ∙ ap (λ (ps : List Pos). kept ++ filter test ps) (places_end b i h) ∙ append-nil kept)
