-- One cell more has its number.
use Rattle.std.proofs.Common.{◌≡◌, ℕ, ◌+◌, ◌<◌, ◌≤◌, true, false, length, List, [], ◌∷◌, ◌++◌, All, refl, sym, subst, ◌∙◌, ap, arith}
use Rattle.std.proofs.lemmas.List.{map-append, append-nil}
use Rattle.circuit.specs.declared.Pos.{Pos}
use Rattle.build.specs.Plan.{Plan, place_of}
use Rattle.wiring.specs.Things.{Numbered, IsNumbered, has_thing, IsNumberedTo}
use Rattle.wiring.specs.Numbers.{few_things}
use Rattle.cell_numbers.proofs.Kept.{kept, kept-split}
use Rattle.cell_numbers.proofs.Rising.{kept-below}

kept-next : (b : Plan) (n : ℕ) → kept (has_thing b) 0 (n + 1) ≡ kept (has_thing b) 0 n ++ kept (has_thing b) n 1
kept-next b n = let start : 0 + n ≡ n = omega arith in kept-split (has_thing b) 0 n 1 (n + 1) refl ∙ ap (λ (a : ℕ). kept (has_thing b) 0 n ++ kept (has_thing b) a 1) start

-- a thing stands there
pub number_yes : (b : Plan) (n : ℕ) (spots : List Pos) (cells : List ℕ) (p : Pos) → IsNumberedTo b n spots cells → has_thing b n ≡ true → p ≡ place_of b n →
    IsNumberedTo b (n + 1) (spots ++ p ∷ []) (cells ++ n ∷ [])
number_yes b n spots cells p w thing e = record {
  things = ap (λ (xs : List ℕ). xs ++ n ∷ []) w.things ∙ sym (kept-next b n ∙ ap (λ (xs : List ℕ). kept (has_thing b) 0 n ++ xs) last);
  places = (λ j. w.places j ++ e j ∷ []) ∙ sym (map-append (place_of b) cells (n ∷ []));
}
  where
    last : kept (has_thing b) n 1 ≡ n ∷ []
    last = rw thing refl

-- no thing stands there
pub number_no : (b : Plan) (n : ℕ) (spots : List Pos) (cells : List ℕ) → IsNumberedTo b n spots cells → has_thing b n ≡ false → IsNumberedTo b (n + 1) spots cells
number_no b n spots cells w none = record {
  things = w.things ∙ sym (kept-next b n ∙ ap (λ (xs : List ℕ). kept (has_thing b) 0 n ++ xs) last ∙ append-nil (kept (has_thing b) 0 n));
  places = w.places;
}
  where
    last : kept (has_thing b) n 1 ≡ []
    last = rw none refl

pub number_start : (b : Plan) → IsNumberedTo b 0 [] []
number_start b = record { things = refl; places = refl }

-- all that are listed are below
pub listed-below : (b : Plan) (n : ℕ) (spots : List Pos) (cells : List ℕ) → IsNumberedTo b n spots cells → All (λ cell. cell < n) cells
listed-below b n spots cells w = subst (All (λ cell. cell < n)) (sym w.things) (kept-below (has_thing b) n)

pub few_numbered : (m : Numbered) → IsNumbered m → length m.spots ≤ 16777216
few_numbered m w = omega (arith, few_things m w, w.whole.small)
