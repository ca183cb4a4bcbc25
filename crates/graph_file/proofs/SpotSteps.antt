-- Places that are read one after another.
use Rattle.std.proofs.Common.{◌≡◌, ℕ, zero, suc, ◌<◌, ◌≤◌, Bool, true, false, List, [], ◌∷◌, ◌++◌, length, get_or, take, drop, map, Option, Some, None, refl, sym, ap, ap₂, ◌∙◌, append_assoc, arith}
use Rattle.std.specs.Prelude.{option_map, ◌&&◌}
use Rattle.std.specs.List.{list_all}
use Rattle.std.proofs.lemmas.List.{append-nil, map-append}
use Rattle.circuit.specs.declared.Pos.{Pos}
use Rattle.serde_json.specs.Data.{Data}
use Rattle.serde_json.specs.declared.value.Value.{Value}
use Rattle.serde_json.specs.View.{view}
use Rattle.graph_file.specs.declared.entries.Spot.{Spot}
use Rattle.graph_file.specs.Entries.{plain_place}
use Rattle.graph_file.specs.GraphFile.{is_place}
use Rattle.graph_file.specs.Ranged.{if_so}
use Rattle.graph_file.specs.Reading.{place_of, place_before, places_of}
use Rattle.graph_file.proofs.Turns.{drop_mapped}

-- ---- values

-- the places that were found, and what is left
abbrev pub SpotsSoFar : List Value → ℕ → List Spot → Type 0
SpotsSoFar values index spots = option_map (λ rest. map plain_place spots ++ rest) (places_of (drop index (map view values))) ≡ places_of (map view values)

pub spots_start : (values : List Value) → SpotsSoFar values 0 []
spots_start values = itself (places_of (map view values))
  where
    itself : (o : Option (List Pos)) → option_map (λ (rest : List Pos). [] ++ rest) o ≡ o
    itself None = refl
    itself (Some ps) = refl

moved : (found : List Pos) (place : Pos) (rest : Option (List Pos)) → option_map (λ (r : List Pos). (found ++ place ∷ []) ++ r) rest ≡ option_map (λ (r : List Pos). found ++ r) (place_before (Some place) rest)
moved found place None = refl
moved found place (Some r) = ap (λ (ps : List Pos). Some ps) (append_assoc found (place ∷ []) r)

left_of : (values : List Value) (index : ℕ) (value : Value) (place : Option Pos) → index < length values → value ≡ get_or values index value → place ≡ place_of (view value) →
    places_of (drop index (map view values)) ≡ place_before place (places_of (drop (suc index) (map view values)))
left_of values index value place less is here =
    ap places_of (drop_mapped view values index value less is) ∙ ap (λ (p : Option Pos). place_before p (places_of (drop (suc index) (map view values)))) (sym here)

pub spots_more : (values : List Value) (index next : ℕ) (value : Value) (old new : List Spot) (spot : Spot) → next ≡ suc index → index < length values → value ≡ get_or values index value →
    Some (plain_place spot) ≡ place_of (view value) → new ≡ old ++ spot ∷ [] → SpotsSoFar values index old → SpotsSoFar values next new
spots_more values index next value old new spot step less is here added so_far =
    ap₂ (λ (found : List Spot) (n : ℕ). option_map (λ (rest : List Pos). map plain_place found ++ rest) (places_of (drop n (map view values)))) added step
    ∙ ap (λ (found : List Pos). option_map (λ (rest : List Pos). found ++ rest) (places_of (drop (suc index) (map view values)))) (map-append plain_place old (spot ∷ []))
    ∙ moved (map plain_place old) (plain_place spot) (places_of (drop (suc index) (map view values)))
    ∙ sym (ap (option_map (λ (rest : List Pos). map plain_place old ++ rest)) (left_of values index value (Some (plain_place spot)) less is here)) ∙ so_far

pub spots_none : (values : List Value) (index : ℕ) (value : Value) (old : List Spot) → index < length values → value ≡ get_or values index value → None ≡ place_of (view value) → SpotsSoFar values index old →
    None ≡ places_of (map view values)
spots_none values index value old less is here so_far = sym (ap (option_map (λ (rest : List Pos). map plain_place old ++ rest)) (left_of values index value None less is here)) ∙ so_far

drop_end : {A B : Type 0} (f : A → B) (xs : List A) (i : ℕ) → length xs ≤ i → drop i (map f xs) ≡ []
drop_end f [] zero h = refl
drop_end f [] (suc i) h = refl
drop_end f (x ∷ xs) zero h = absurd (omega arith)
drop_end f (x ∷ xs) (suc i) h = drop_end f xs i (omega arith)

pub spots_all : (values : List Value) (index : ℕ) (spots : List Spot) → length values ≤ index → SpotsSoFar values index spots → Some (map plain_place spots) ≡ places_of (map view values)
spots_all values index spots past so_far =
    ap (λ (ps : List Pos). Some ps) (sym (append-nil (map plain_place spots)))
    ∙ sym (ap (λ (ds : List Data). option_map (λ (rest : List Pos). map plain_place spots ++ rest) (places_of ds)) (drop_end view values index past)) ∙ so_far

-- ---- ranges

pub none_so : {A : Type 0} (b : Bool) (x : A) → None ≡ if_so b x → b ≡ false
none_so true x h = absurd (cc)
none_so false x h = refl

pub some_so : {A : Type 0} (b : Bool) (x y : A) → Some y ≡ if_so b x → (b ≡ true) × (y ≡ x)
some_so true x y h = (refl, cc)
some_so false x y h = absurd (cc)

abbrev pub PlacesSoFar : List Spot → ℕ → List Pos → Type 0
PlacesSoFar spots index places = (places ≡ map plain_place (take index spots)) × (list_all is_place (drop index (map plain_place spots)) ≡ list_all is_place (map plain_place spots))

same_default : (xs : List Spot) (n : ℕ) (a b : Spot) → n < length xs → get_or xs n a ≡ get_or xs n b
same_default [] n a b h = absurd (omega arith)
same_default (x ∷ xs) zero a b h = refl
same_default (x ∷ xs) (suc n) a b h = same_default xs n a b (omega arith)

taken : (xs : List Spot) (i : ℕ) (x : Spot) → i < length xs → x ≡ get_or xs i x → map plain_place (take i xs) ++ plain_place x ∷ [] ≡ map plain_place (take (suc i) xs)
taken [] i x h e = absurd (omega arith)
taken (y ∷ xs) zero x h e = ap (λ (z : Spot). plain_place z ∷ []) e
taken (y ∷ xs) (suc i) x h e = ap (λ (r : List Pos). plain_place y ∷ r) (taken xs i x (omega arith) e)

one_more : (rest b : Bool) → b ≡ true → rest ≡ (b && rest)
one_more rest true e = refl
one_more rest false e = absurd (cc)

pub places_more : (spots : List Spot) (index next : ℕ) (d : Spot) (old new : List Pos) (pos : Pos) → next ≡ suc index → index < length spots →
    Some pos ≡ if_so (is_place (plain_place (get_or spots index d))) (plain_place (get_or spots index d)) → new ≡ old ++ pos ∷ [] → PlacesSoFar spots index old → PlacesSoFar spots next new
places_more spots index next d old new pos step less here added so_far =
    let spot = get_or spots index d in
    let is = same_default spots index d spot less in
    let found = some_so (is_place (plain_place spot)) (plain_place spot) pos here in (
      added ∙ ap₂ (λ (ps : List Pos) (p : Pos). ps ++ p ∷ []) so_far.0 found.1 ∙ taken spots index spot less is ∙ ap (λ (n : ℕ). map plain_place (take n spots)) (sym step),
      ap (λ (n : ℕ). list_all is_place (drop n (map plain_place spots))) step ∙ one_more (list_all is_place (drop (suc index) (map plain_place spots))) (is_place (plain_place spot)) found.0
          ∙ sym (ap (list_all is_place) (drop_mapped plain_place spots index spot less is)) ∙ so_far.1,
    )

pub places_none : (spots : List Spot) (index : ℕ) (d : Spot) (old : List Pos) → index < length spots → None ≡ if_so (is_place (plain_place (get_or spots index d))) (plain_place (get_or spots index d)) →
    PlacesSoFar spots index old → None ≡ if_so (list_all is_place (map plain_place spots)) (map plain_place spots)
places_none spots index d old less here so_far =
    let spot = get_or spots index d in
    let bad : list_all is_place (map plain_place spots) ≡ false =
    sym so_far.1 ∙ ap (list_all is_place) (drop_mapped plain_place spots index spot less (same_default spots index d spot less))
    ∙ ap (λ (b : Bool). b && list_all is_place (drop (suc index) (map plain_place spots))) (none_so (is_place (plain_place spot)) (plain_place spot) here) in
    sym (ap (λ (b : Bool). if_so b (map plain_place spots)) bad)

take_end : {A : Type 0} (xs : List A) (i : ℕ) → length xs ≤ i → take i xs ≡ xs
take_end [] zero h = refl
take_end [] (suc i) h = refl
take_end (x ∷ xs) zero h = absurd (omega arith)
take_end (x ∷ xs) (suc i) h = ap (λ rest. x ∷ rest) (take_end xs i (omega arith))

pub places_all : (spots : List Spot) (index : ℕ) (places : List Pos) → length spots ≤ index → PlacesSoFar spots index places → Some places ≡ if_so (list_all is_place (map plain_place spots)) (map plain_place spots)
places_all spots index places past so_far =
    let good : list_all is_place (map plain_place spots) ≡ true = sym so_far.1 ∙ ap (list_all is_place) (drop_end plain_place spots index past) in
    ap (λ (ps : List Pos). Some ps) (so_far.0 ∙ ap (map plain_place) (take_end spots index past)) ∙ sym (ap (λ (b : Bool). if_so b (map plain_place spots)) good)
