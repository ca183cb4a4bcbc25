-- What is found place by place.
use Rattle.std.proofs.Common.{◌≡◌, ℕ, ◌+◌, ◌<◌, ◌≤◌, Bool, true, false, List, [], ◌∷◌, ◌++◌, length, drop, map, refl, sym, ◌∙◌, ap, arith, append_assoc}
use Rattle.std.specs.Prelude.{filter}
use Rattle.std.proofs.lemmas.List.{drop_more, drop_all, append-nil}
use Rattle.circuit.specs.declared.Pos.{Pos}
use Rattle.build.specs.Plan.{Plan, volume, places, place_of}
use Rattle.build.specs.Places.{length-places, places-at}

-- the place of a cell stands before those of the cells to come
places_from : (b : Plan) (i : ℕ) → i < volume b → drop i (places b) ≡ place_of b i ∷ drop (i + 1) (places b)
places_from b i h =
    let inside : i < length (places b) = omega (arith, length-places b) in
    drop_more (places b) i (place_of b i) inside ∙ ap (λ (p : Pos). p ∷ drop (i + 1) (places b)) (places-at b i (place_of b i) h)

-- after the last cell no place is to come
places_end : (b : Plan) (i : ℕ) → volume b ≤ i → drop i (places b) ≡ []
places_end b i h = let past : length (places b) ≤ i = omega (arith, length-places b) in drop_all i (places b) past

-- what was found is in front of what the places to come give
abbrev pub MadeBelow : {X : Type 0} → (Pos → Bool) → (Pos → X) → Plan → List X → ℕ → Type 0
MadeBelow test make b found i = map make (filter test (places b)) ≡ found ++ map make (filter test (drop i (places b)))

pub made_no_more : {X : Type 0} (test : Pos → Bool) (make : Pos → X) (b : Plan) (i : ℕ) (found : List X) → i < volume b → test (place_of b i) ≡ false
    → MadeBelow test make b found i → MadeBelow test make b found (i + 1)
made_no_more test make b i found h none before = before ∙ ap (λ (ps : List Pos). found ++ map make (filter test ps)) (places_from b i h) ∙ rw none refl

pub made_one_more : {X : Type 0} (test : Pos → Bool) (make : Pos → X) (b : Plan) (i : ℕ) (found : List X) (one : X) → i < volume b → test (place_of b i) ≡ true
    → one ≡ make (place_of b i) → MadeBelow test make b found i → MadeBelow test make b (found ++ one ∷ []) (i + 1)
made_one_more {X} test make b i found one h some same before =
    before ∙ ap (λ (ps : List Pos). found ++ map make (filter test ps)) (places_from b i h)
    ∙ rw some (ap (λ (x : X). found ++ x ∷ map make (filter test (drop (i + 1) (places b)))) (sym same) ∙ sym (append_assoc found (one ∷ []) (map make (filter test (drop (i + 1) (places b))))))

pub made_all : {X : Type 0} (test : Pos → Bool) (make : Pos → X) (b : Plan) (i : ℕ) (found : List X) → volume b ≤ i → MadeBelow test make b found i → found ≡ map make (filter test (places b))
made_all test make b i found h before = sym (before ∙ ap (λ (ps : List Pos). found ++ map make (filter test ps)) (places_end b i h) ∙ append-nil found)
