-- Cells in order, each once: a sorted list without repeats is the part of all cells that it has.
use Rattle.std.proofs.Common.{◌≡◌, ◌≢◌, ℕ, zero, suc, ◌+◌, ◌<◌, ◌≤◌, Bool, true, false, Option, Some, None, List, [], ◌∷◌, refl, sym, ◌∙◌, ap, inl, inr, arith, eq-eqb, eqb-true}
use Rattle.std.specs.Prelude.{All, ◌&&◌, is_some}
use Rattle.std.specs.List.{range_with_len, dedup, AllByRecursion, cons_option}
use Rattle.std.specs.List.Sorted.{IsStrictlySortedBy, IsPermutation, IsSorted}
use Rattle.std.specs.Ordering.{nat_cmp}
use Rattle.std.specs.Cmp.{nat_cmp_is, nat_eq_equiv}
use Rattle.std.specs.declared.cmp.Ordering.TheVariants.{Less, Equal, Greater}
use Rattle.std.proofs.Math.Dec.{eqb}
use Rattle.std.proofs.lemmas.Bool.{cases_Bool, cases_lt, cases_eq, false≢true}
use Rattle.std.proofs.lemmas.List.Kept.{IsStrictlySortedBy-filter, Contains-dedup_nat, Contains-from_dedup}
use Rattle.std.proofs.lemmas.List.Sorted.{list_any-IsPermutation}
use Rattle.std.proofs.lemmas.List.Elements.{All-nil, All-cons, All-contains}
use Rattle.std.proofs.lemmas.Map.Keys.{IsStrictlyIncreasing-dedup, sorted_from_strictly_increasing}
use Rattle.std.proofs.lemmas.Map.Views.{any-filter_same, list_any-from_Contains, Contains-from_any}
use Rattle.circuit.specs.declared.Pos.{Pos}
use Rattle.build.specs.Place.{same_place}
use Rattle.build.specs.SamePlace.{place_one, place_itself}
use Rattle.build.specs.Plan.{Plan, volume, cell_of, place_of, found_cell}
use Rattle.build.specs.Places.{found-cell_of, found_inside, found-is_some, found_below, place_inside, cell-place, place-cell, inside}
use Rattle.input_search.specs.Links.{among}
use Rattle.input_search.specs.CellLists.{has_cell, kept_cells, cells_of, AreCells}

less_is : (x y : ℕ) → nat_cmp x y ≡ Less → x < y
less_is x y e = elim (cases_lt x y) [
  | inl h ↦ h
  | inr ge ↦ elim (cases_eq x y) [
    | inl same ↦ let f : Equal ≡ Less = nat_cmp_is x y Equal same ∙ e in absurd (cc)
    | inr apart ↦ let gt : y < x = omega arith in let f : Greater ≡ Less = nat_cmp_is x y Greater gt ∙ e in absurd (cc)
  ]
]

pub eqb-apart : (i y : ℕ) → i ≢ y → eqb i y ≡ false
eqb-apart i y n = elim (cases_Bool (eqb i y)) [ inl e ↦ absurd (n (eqb-true i y e)) | inr e ↦ e ]

-- what is in the list is above
over : (x : ℕ) (ys : List ℕ) → AllByRecursion (λ y. nat_cmp x y ≡ Less) ys → (i : ℕ) → has_cell ys i ≡ true → x < i
over x [] h i e = absurd (false≢true e)
over x (y ∷ ys) h i e = elim (cases_eq i y) [
  | inl same ↦ let k : x < y = less_is x y h.0 in omega arith
  | inr apart ↦ over x ys h.1 i (rw (eqb-apart i y apart) at e)
]

absent : (x : ℕ) (ys : List ℕ) → AllByRecursion (λ y. nat_cmp x y ≡ Less) ys → (i : ℕ) → i ≤ x → has_cell ys i ≡ false
absent x ys h i l = elim (cases_Bool (has_cell ys i)) [ inl e ↦ absurd (let k : x < i = over x ys h i e in omega arith) | inr e ↦ e ]

least : (x : ℕ) (xs : List ℕ) → AllByRecursion (λ y. nat_cmp x y ≡ Less) xs → (i : ℕ) → has_cell (x ∷ xs) i ≡ true → x ≤ i
least x xs h i e = elim (cases_eq i x) [
  | inl same ↦ omega arith
  | inr apart ↦ let k : x < i = over x xs h i (rw (eqb-apart i x apart) at e) in omega arith
]

has-first : (x : ℕ) (xs : List ℕ) → has_cell (x ∷ xs) x ≡ true
has-first x xs = rw (eq-eqb x x refl) refl

heads : (x y : ℕ) (xs ys : List ℕ) → AllByRecursion (λ z. nat_cmp x z ≡ Less) xs → AllByRecursion (λ z. nat_cmp y z ≡ Less) ys
    → ((i : ℕ) → has_cell (x ∷ xs) i ≡ has_cell (y ∷ ys) i) → x ≡ y
heads x y xs ys h k e =
    let low : x ≤ y = least x xs h y (e y ∙ has-first y ys) in
    let high : y ≤ x = least y ys k x (sym (e x) ∙ has-first x xs) in
    omega arith

tails : (x y : ℕ) (xs ys : List ℕ) → AllByRecursion (λ z. nat_cmp x z ≡ Less) xs → AllByRecursion (λ z. nat_cmp y z ≡ Less) ys → x ≡ y
    → ((i : ℕ) → has_cell (x ∷ xs) i ≡ has_cell (y ∷ ys) i) → (i : ℕ) → has_cell xs i ≡ has_cell ys i
tails x y xs ys h k same e i = elim (cases_eq i x) [
  | inl is ↦ absent x xs h i (omega arith) ∙ sym (absent y ys k i (omega arith))
  | inr apart ↦ let other : i ≢ y = omega arith in rw (eqb-apart i x apart, eqb-apart i y other) at (e i)
]

-- lists in order with the same cells are one
same_cells : (xs ys : List ℕ) → IsStrictlySortedBy nat_cmp xs → IsStrictlySortedBy nat_cmp ys → ((i : ℕ) → has_cell xs i ≡ has_cell ys i) → xs ≡ ys
unfolding IsStrictlySortedBy
same_cells [] [] s t e = refl
same_cells [] (y ∷ ys) s t e = absurd (false≢true (e y ∙ has-first y ys))
same_cells (x ∷ xs) [] s t e = absurd (false≢true (sym (e x) ∙ has-first x xs))
same_cells (x ∷ xs) (y ∷ ys) s t e =
    let same : x ≡ y = heads x y xs ys s.0 t.0 e in
    let rest : xs ≡ ys = same_cells xs ys s.1 t.1 (tails x y xs ys s.0 t.0 same e) in
    λ j. same j ∷ rest j

range_over : (a k n : ℕ) → a < k → AllByRecursion (λ y. nat_cmp a y ≡ Less) (range_with_len k n)
range_over a k zero h = tt
range_over a k (suc n) h = (sym (nat_cmp_is a k Less h), range_over a (k + 1) n (omega arith))

range_rises : (a n : ℕ) → IsStrictlySortedBy nat_cmp (range_with_len a n)
unfolding IsStrictlySortedBy
range_rises a zero = tt
range_rises a (suc n) = (range_over a (a + 1) n (omega arith), range_rises (a + 1) n)

pub range_has : (a n i : ℕ) → a ≤ i → i < a + n → has_cell (range_with_len a n) i ≡ true
range_has a zero i l h = absurd (omega arith)
range_has a (suc n) i l h = elim (cases_eq i a) [
  | inl same ↦ rw (eq-eqb i a same) refl
  | inr apart ↦ rw (eqb-apart i a apart) (range_has (a + 1) n i (omega arith) (omega arith))
]

kept_has : (n : ℕ) (xs : List ℕ) → All (λ i. i < n) xs → (i : ℕ) → has_cell (kept_cells n xs) i ≡ has_cell xs i
kept_has n xs below i =
    any-filter_same (eqb i) (has_cell xs) (has_cell xs i) (λ k e. ap (has_cell xs) (sym (eqb-true i k e))) (range_with_len 0 n)
    ∙ elim (cases_Bool (has_cell xs i)) as (λ _. (has_cell xs i && has_cell (range_with_len 0 n) i) ≡ has_cell xs i) [
      | inl e ↦ rw (e, range_has 0 n i (omega arith) (let k : i < n = All-contains (λ j. j < n) xs i below (Contains-from_any {eq = eqb} eqb-true i xs e) in omega arith)) refl
      | inr e ↦ rw e refl
    ]

pub both : (x y : Bool) → (x ≡ true → y ≡ true) → (y ≡ true → x ≡ true) → x ≡ y
both true true f g = refl
both false false f g = refl
both true false f g = sym (f refl)
both false true f g = g refl

dedup_has : (xs : List ℕ) (i : ℕ) → has_cell (dedup eqb xs) i ≡ has_cell xs i
dedup_has xs i = both (has_cell (dedup eqb xs) i) (has_cell xs i)
    (λ e. list_any-from_Contains {eq = eqb} nat_eq_equiv i xs (Contains-from_dedup eqb xs i (Contains-from_any {eq = eqb} eqb-true i (dedup eqb xs) e)))
    (λ e. list_any-from_Contains {eq = eqb} nat_eq_equiv i (dedup eqb xs) (Contains-dedup_nat xs i (Contains-from_any {eq = eqb} eqb-true i xs e)))

-- what a list is when it was sorted and its repeats were taken out
pub sorted_cells : (n : ℕ) (xs zs : List ℕ) → All (λ i. i < n) xs → IsPermutation xs zs → IsSorted nat_cmp zs → dedup eqb zs ≡ kept_cells n xs
sorted_cells n xs zs below moved sorted =
    same_cells (dedup eqb zs) (kept_cells n xs)
    (sorted_from_strictly_increasing (dedup eqb zs) (IsStrictlyIncreasing-dedup zs sorted))
    (IsStrictlySortedBy-filter nat_cmp (has_cell xs) (range_with_len 0 n) (range_rises 0 n))
    (λ i. dedup_has zs i ∙ sym (list_any-IsPermutation (eqb i) xs zs moved) ∙ sym (kept_has n xs below i))

-- ---- cells and places

none-some : {A : Type 0} (x : A) → ◌≡◌ {A = Option A} None (Some x) → ⊥
none-some x e = cc

outside_apart : (b : Plan) (p : Pos) (i : ℕ) → found_cell b p ≡ None → i < volume b → same_place (place_of b i) p ≡ false
outside_apart b p i none h = elim (cases_Bool (same_place (place_of b i) p)) [
  | inl same ↦ absurd (none-some (cell_of b (place_of b i))
      (sym none ∙ ap (found_cell b) (sym (place_one (place_of b i) p same)) ∙ found_inside b (place_of b i) (place_inside b i h)))
  | inr apart ↦ apart
]

other_apart : (b : Plan) (p : Pos) (here i : ℕ) → found_cell b p ≡ Some here → here ≢ i → same_place (place_of b i) p ≡ false
other_apart b p here i found other = elim (cases_Bool (same_place (place_of b i) p)) [
  | inl same ↦ absurd (other (found-cell_of b p here (sym found) ∙ ap (cell_of b) (sym (place_one (place_of b i) p same)) ∙ cell-place b i))
  | inr apart ↦ apart
]

here_same : (b : Plan) (p : Pos) (here i : ℕ) → found_cell b p ≡ Some here → here ≡ i → same_place (place_of b i) p ≡ true
here_same b p here i found same =
    let is : place_of b i ≡ p = ap (place_of b) (sym same ∙ found-cell_of b p here (sym found)) ∙ place-cell b p (inside b p (sym (found-is_some b p) ∙ ap is_some found)) in
    ap (λ (q : Pos). same_place q p) is ∙ place_itself p

-- a cell is among the cells of places where its place is among the places
pub cell_among : (b : Plan) (ps : List Pos) (i : ℕ) → i < volume b → has_cell (cells_of b ps) i ≡ among ps (place_of b i)
cell_among b [] i h = refl
cell_among b (p ∷ ps) i h = one (found_cell b p) refl (cell_among b ps i h)
  where
    one : (found : Option ℕ) → found_cell b p ≡ found → has_cell (cells_of b ps) i ≡ among ps (place_of b i) → has_cell (cons_option found (cells_of b ps)) i ≡ among (p ∷ ps) (place_of b i)
    one None e rest = rw (outside_apart b p i e h) rest
    one (Some here) e rest = elim (cases_eq here i) [
      | inl same ↦ rw (eq-eqb i here (sym same), here_same b p here i e same) refl
      | inr apart ↦ let other : i ≢ here = omega arith in rw (eqb-apart i here other, other_apart b p here i e apart) rest
    ]

-- the cells of places are cells
pub cells_within : (b : Plan) (ps : List Pos) → AreCells b (cells_of b ps)
cells_within b [] = All-nil (λ i. i < volume b)
cells_within b (p ∷ ps) = one (found_cell b p) refl (cells_within b ps)
  where
    one : (found : Option ℕ) → found_cell b p ≡ found → AreCells b (cells_of b ps) → AreCells b (cons_option found (cells_of b ps))
    one None e rest = rest
    one (Some i) e rest = All-cons (λ i. i < volume b) i (cells_of b ps) (found_below b p i e) rest
