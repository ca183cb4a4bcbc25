-- The wires of a build by their numbers.
use Rattle.std.proofs.Common.{◌≡◌, ℕ, zero, suc, ◌+◌, ◌<◌, ◌≤◌, Bool, true, List, [], ◌∷◌, Option, Some, None, length, get_or, refl, sym, ◌∙◌, ap, subst, arith, inl, inr, eq-eqb, eqb-true}
use Rattle.std.specs.Prelude.{All, AllPairs, Contains, map, option_map, ◌==◌}
use Rattle.std.specs.List.{range_with_len}
use Rattle.std.proofs.Math.Dec.{eqb}
use Rattle.std.proofs.lemmas.Bool.{cases_Bool, cases_lt, false≢true}
use Rattle.std.proofs.lemmas.List.{get_or_default}
use Rattle.std.proofs.lemmas.List.Elements.{All-nil, All-cons, Contains-get_or}
use Rattle.std.proofs.lemmas.List.Sums.{length-filter, count_by-le-length}
use Rattle.std.proofs.lemmas.List.FromFn.{length-range_with_len}
use Rattle.circuit.specs.declared.Pos.{Pos}
use Rattle.circuit.specs.Circuit.{Each, EachBefore, Among}
use Rattle.circuit.proofs.Keys.{among_filter}
use Rattle.build.specs.Plan.{Plan, volume, cell_of, place_of}
use Rattle.build.specs.Places.{inside, cell_below, place-cell, cell-place}
use Rattle.wire_shape.specs.Shape.{wire_at}
use Rattle.wire_shape.specs.WirePlaces.{wire_inside}
use Rattle.cell_numbers.specs.Numbers.{number_in}
use Rattle.input_search.specs.CellLists.{has_cell}
use Rattle.input_search.specs.Wiring.{wire_cells, wire_place, wire_places, wire_number, fed_row}
use Rattle.std.specs.Option.{option_map_or}
use Rattle.wire_shape.specs.Feeders.{feeders}
use Rattle.wire_shape.specs.FeederFacts.{feeder-wire}
use Rattle.input_search.proofs.CellOrder.{range_has}
use Rattle.input_search.proofs.Distances.{or-right}
use Rattle.wiring.proofs.Lists.{among-filter, Contains-among, among-Contains}
use Rattle.input_search.proofs.Order.{before-filter, before-pairs}

-- ---- numbers in lists

pub has-among : (xs : List ℕ) (i : ℕ) → Among xs i → has_cell xs i ≡ true
has-among [] i h = absurd h
has-among (x ∷ xs) i (inl e) = rw (eq-eqb i x e) refl
has-among (x ∷ xs) i (inr h) = or-right (eqb i x) (has_cell xs i) (has-among xs i h)

pub among-has : (xs : List ℕ) (i : ℕ) → has_cell xs i ≡ true → Among xs i
among-has [] i h = absurd (false≢true h)
among-has (x ∷ xs) i h = elim (cases_Bool (eqb i x)) [
  | inl e ↦ inl (eqb-true i x e)
  | inr e ↦ inr (among-has xs i (rw e at h))
]

pub all-among : (P : ℕ → Type 0) (xs : List ℕ) → ((i : ℕ) → Among xs i → P i) → All P xs
all-among P [] h = All-nil P
all-among P (x ∷ xs) h = All-cons P x xs (h x (inl refl)) (all-among P xs (λ i k. h i (inr k)))

-- the number of a cell is its index
one-later : (x : ℕ) (xs : List ℕ) (cell number : ℕ) (found : Option ℕ) → ((n : ℕ) → found ≡ Some n → (n < length xs) × (get_or xs n 0 ≡ cell)) → option_map suc found ≡ Some number →
    (number < suc (length xs)) × (get_or (x ∷ xs) number 0 ≡ cell)
one-later x xs cell number None rest e = absurd (cc)
one-later x xs cell number (Some n) rest e =
    let same : suc n ≡ number = cc in
    let found = rest n refl in
    (omega (arith, same, found.0), ap (λ m. get_or (x ∷ xs) m 0) (sym same) ∙ found.1)

pub number-there : (xs : List ℕ) (cell number : ℕ) → number_in xs cell ≡ Some number → (number < length xs) × (get_or xs number 0 ≡ cell)
number-there [] cell number e = absurd (cc)
number-there (x ∷ xs) cell number e = elim (cases_Bool (cell == x)) [
  | inl h ↦
      (let here : Some 0 ≡ Some number = rw h at e in
      let same : 0 ≡ number = cc in
      (omega (arith, same), ap (λ n. get_or (x ∷ xs) n 0) (sym same) ∙ sym (eqb-true cell x h)))
  | inr h ↦ one-later x xs cell number (number_in xs cell) (number-there xs cell) (rw h at e)
]

not-later : (found : Option ℕ) → (found ≡ None → ⊥) → option_map suc found ≡ None → ⊥
not-later None rest e = rest refl
not-later (Some n) rest e = cc

pub number-missed : (xs : List ℕ) (cell : ℕ) → Among xs cell → number_in xs cell ≡ None → ⊥
number-missed [] cell a e = absurd a
number-missed (x ∷ xs) cell a e = elim (cases_Bool (cell == x)) [
  | inl h ↦ (let here : ◌≡◌ {A = Option ℕ} (Some 0) None = rw h at e in cc)
  | inr h ↦ elim a [
    | inl same ↦ false≢true (sym h ∙ eq-eqb cell x same)
    | inr b ↦ not-later (number_in xs cell) (number-missed xs cell b) (rw h at e)
  ]
]

over_range : (k a n : ℕ) → k < a → Each (λ j. k < j) (range_with_len a n)
over_range k a zero h = tt
over_range k a (suc n) h = (h, over_range k (a + 1) n (omega arith))

range_before : (a n : ℕ) → EachBefore (λ i j. i < j) (range_with_len a n)
range_before a zero = tt
range_before a (suc n) = (over_range a (a + 1) n (omega arith), range_before (a + 1) n)

among-range : (a n i : ℕ) → Among (range_with_len a n) i → i < a + n
among-range a zero i h = absurd h
among-range a (suc n) i (inl e) = omega arith
among-range a (suc n) i (inr h) = omega (arith, among-range (a + 1) n i h)

-- ---- the wires

module _ (b : Plan) (cells : List ℕ) (wires : cells ≡ wire_cells b) where
  abbrev is_wire : ℕ → Bool
  is_wire i = wire_at b (place_of b i)

  pub cells-rise : AllPairs (λ i j. i < j) cells
  unfolding wire_cells
  cells-rise =
      subst (λ (xs : List ℕ). AllPairs (λ i j. i < j) xs) (sym wires)
      (before-pairs (λ i j. i < j) (wire_cells b) (before-filter (λ i j. i < j) is_wire (range_with_len 0 (volume b)) (range_before 0 (volume b))))

  pub cells-few : length cells ≤ volume b
  unfolding wire_cells
  cells-few =
      omega (arith, ap length wires, length-filter is_wire (range_with_len 0 (volume b)), count_by-le-length is_wire (range_with_len 0 (volume b)), length-range_with_len 0 (volume b))

  cell-in : (number : ℕ) → number < length cells → Among (range_with_len 0 (volume b)) (get_or cells number 0) × (is_wire (get_or cells number 0) ≡ true)
  unfolding wire_cells
  cell-in number h =
      let i : Among cells (get_or cells number 0) = Contains-among cells (get_or cells number 0) (Contains-get_or cells number 0 h) in
      among-filter is_wire (range_with_len 0 (volume b)) (get_or cells number 0) (subst (λ (xs : List ℕ). Among xs (get_or cells number 0)) wires i)

  pub cell-inside : (number : ℕ) → number < length cells → get_or cells number 0 < volume b
  cell-inside number h = omega (arith, among-range 0 (volume b) (get_or cells number 0) (cell-in number h).0)

  pub number-wire : (number : ℕ) → number < length cells → wire_at b (wire_place b cells number) ≡ true
  number-wire number h = (cell-in number h).1

  pub wire-listed : (p : Pos) → wire_at b p ≡ true → has_cell cells (cell_of b p) ≡ true
  unfolding wire_cells
  wire-listed p h =
      let at_p = inside b p (wire_inside b p h) in
      let i : Among (wire_cells b) (cell_of b p) =
      among_filter is_wire (range_with_len 0 (volume b)) (cell_of b p) (among-has (range_with_len 0 (volume b)) (cell_of b p) (range_has 0 (volume b) (cell_of b p) (omega arith) (omega (arith, cell_below b p at_p))))
      (ap (wire_at b) (place-cell b p at_p) ∙ h) in
      has-among cells (cell_of b p) (subst (λ (xs : List ℕ). Among xs (cell_of b p)) (sym wires) i)

  pub number-place : (p : Pos) (number : ℕ) → wire_at b p ≡ true → get_or cells number 0 ≡ cell_of b p → wire_place b cells number ≡ p
  number-place p number h e = ap (place_of b) e ∙ place-cell b p (inside b p (wire_inside b p h))

  pub numbers-apart : (i j : ℕ) → i < length cells → j < length cells → wire_place b cells i ≡ wire_place b cells j → i ≡ j
  numbers-apart i j h k e =
      let same : get_or cells i 0 ≡ get_or cells j 0 = sym (cell-place b (get_or cells i 0)) ∙ ap (cell_of b) e ∙ cell-place b (get_or cells j 0) in
      elim (cases_lt i j) [
        | inl less ↦ absurd (let rises : get_or cells i 0 < get_or cells j 0 = cells-rise i j 0 less k in omega arith)
        | inr more ↦ elim (cases_lt j i) [
          | inl less ↦ absurd (let rises : get_or cells j 0 < get_or cells i 0 = cells-rise j i 0 less h in omega arith)
          | inr same ↦ omega arith
        ]
      ]

  -- the number of a wire
  pub record Numbered (p : Pos) : Type 0 where
    pub number : ℕ
    pub below : number < length cells
    pub place : wire_place b cells number ≡ p

  pub numbered : (p : Pos) → wire_at b p ≡ true → Numbered p
  numbered p h =
      let r : Contains cells (cell_of b p) = among-Contains cells (cell_of b p) (among-has cells (cell_of b p) (wire-listed p h)) in
      let there : get_or cells r.0 0 ≡ cell_of b p = get_or_default cells r.0 0 (cell_of b p) r.1 ∙ r.2 in
      record { number = r.0; below = r.1; place = number-place p r.0 h there }

-- ---- the rows of feeders

-- the number of a wire is its number
pub wire_number-is : (b : Plan) (p : Pos) → wire_at b p ≡ true → (wire_number b p < length (wire_cells b)) × (wire_place b (wire_cells b) (wire_number b p) ≡ p)
unfolding wire_number
wire_number-is b p h = one (number_in (wire_cells b) (cell_of b p)) refl
  where
    one : (found : Option ℕ) → number_in (wire_cells b) (cell_of b p) ≡ found →
        (option_map_or (λ (n : ℕ). n) found 0 < length (wire_cells b)) × (wire_place b (wire_cells b) (option_map_or (λ (n : ℕ). n) found 0) ≡ p)
    one None e = absurd (number-missed (wire_cells b) (cell_of b p) (among-has (wire_cells b) (cell_of b p) (wire-listed b (wire_cells b) refl p h)) e)
    one (Some n) e =
        let there : (n < length (wire_cells b)) × (get_or (wire_cells b) n 0 ≡ cell_of b p) = number-there (wire_cells b) (cell_of b p) n e in
        (there.0, number-place b (wire_cells b) refl p n h there.1)

numbers-places : (b : Plan) (ps : List Pos) → ((p : Pos) → Among ps p → wire_at b p ≡ true) → wire_places b (wire_cells b) (map (wire_number b) ps) ≡ ps
numbers-places b [] h = refl
numbers-places b (p ∷ ps) h = λ i. (wire_number-is b p (h p (inl refl))).1 i ∷ numbers-places b ps (λ q k. h q (inr k)) i

numbers-below : (b : Plan) (ps : List Pos) → ((p : Pos) → Among ps p → wire_at b p ≡ true) → All (λ i. i < length (wire_cells b)) (map (wire_number b) ps)
numbers-below b [] h = All-nil (λ i. i < length (wire_cells b))
numbers-below b (p ∷ ps) h = All-cons (λ i. i < length (wire_cells b)) (wire_number b p) (map (wire_number b) ps) (wire_number-is b p (h p (inl refl))).0 (numbers-below b ps (λ q k. h q (inr k)))

feeder-is_wire : (b : Plan) (p q : Pos) → Among (feeders b p) q → wire_at b q ≡ true
feeder-is_wire b p q h = feeder-wire b p q (among-Contains (feeders b p) q h)

pub fed-places : (b : Plan) (n : ℕ) → wire_places b (wire_cells b) (fed_row b n) ≡ feeders b (wire_place b (wire_cells b) n)
unfolding fed_row
fed-places b n = numbers-places b (feeders b (wire_place b (wire_cells b) n)) (feeder-is_wire b (wire_place b (wire_cells b) n))

pub fed-below : (b : Plan) (n : ℕ) → All (λ i. i < length (wire_cells b)) (fed_row b n)
unfolding fed_row
fed-below b n = numbers-below b (feeders b (wire_place b (wire_cells b) n)) (feeder-is_wire b (wire_place b (wire_cells b) n))
