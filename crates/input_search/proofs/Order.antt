-- The places of the box stand in order, and so do the links of a wire.
use Rattle.std.proofs.Common.{◌≡◌, ℕ, zero, suc, ◌+◌, ◌*◌, ◌/◌, ◌%◌, ◌<◌, ◌≤◌, Bool, true, false, List, [], ◌∷◌, ◌++◌, length, map, filter, pos, refl, ap, arith, inl, inr, ◌⊎◌}
use Rattle.std.specs.Prelude.{◌||◌, ◌&&◌, int_lt, slice_index_or, AllPairs}
use Rattle.std.specs.List.{range_with_len}
use Rattle.std.proofs.lemmas.Bool.{cases_Bool, cases_lt, lt-ltb}
use Rattle.std.proofs.lemmas.Cmp.{int_eq_equiv}
use Rattle.std.proofs.lemmas.Nat.{le-div}
use Rattle.std.proofs.Math.Nat.{mod-add-div, div-mul-le_self, div-zero}
use Rattle.circuit.specs.declared.Pos.{Pos}
use Rattle.circuit.specs.Circuit.{Each, EachBefore, Among}
use Rattle.circuit.proofs.Keys.{each_filter}
use Rattle.circuit.proofs.Matches.{each_map}
use Rattle.build.specs.Plan.{Plan, volume, cell_of, place_of, places}
use Rattle.build.specs.Places.{cell-place}
use Rattle.graph.specs.GraphCircuit.{is_before}
use Rattle.input_search.specs.Links.{From, at_weight, sources_in, links_below, wire_links}
use Rattle.input_search.specs.Distances.{IsBefore, AreOrdered}
use Rattle.wiring.proofs.Lists.{From_map, among-map}
use Rattle.input_search.proofs.Distances.{is_new, links-linked}

-- ---- lists in which each item stands so to every later one

pub before-filter : {A : Type 0} (R : A → A → Type 0) (test : A → Bool) (xs : List A) → EachBefore R xs → EachBefore R (filter test xs)
before-filter R test [] h = tt
before-filter R test (x ∷ xs) h = elim (cases_Bool (test x)) [
  | inl e ↦ rw e (each_filter (R x) (R x) test (λ y r _. r) xs h.0, before-filter R test xs h.1)
  | inr e ↦ rw e (before-filter R test xs h.1)
]

pub before-map : {A B : Type 0} (R : A → A → Type 0) (S : B → B → Type 0) (f : A → B) → ((x y : A) → R x y → S (f x) (f y)) → (xs : List A) → EachBefore R xs → EachBefore S (map f xs)
before-map R S f k [] h = tt
before-map R S f k (x ∷ xs) h = (each_map (R x) (S (f x)) f (k x) xs h.0, before-map R S f k xs h.1)

each-of : {A : Type 0} (P : A → Type 0) (xs : List A) → ((x : A) → Among xs x → P x) → Each P xs
each-of P [] h = tt
each-of P (x ∷ xs) h = (h x (inl refl), each-of P xs (λ y i. h y (inr i)))

each-append : {A : Type 0} (P : A → Type 0) (xs ys : List A) → Each P xs → Each P ys → Each P (xs ++ ys)
each-append P [] ys h k = k
each-append P (x ∷ xs) ys h k = (h.0, each-append P xs ys h.1 k)

before-append : {A : Type 0} (R : A → A → Type 0) (xs ys : List A) → EachBefore R xs → EachBefore R ys → ((x y : A) → Among xs x → Among ys y → R x y) → EachBefore R (xs ++ ys)
before-append R [] ys h k c = k
before-append R (x ∷ xs) ys h k c =
    (each-append (R x) xs ys h.0 (each-of (R x) ys (λ y i. c x y (inl refl) i)), before-append R xs ys h.1 k (λ a y i j. c a y (inr i) j))

each-at : {A : Type 0} (P : A → Type 0) (xs : List A) (i : ℕ) (d : A) → i < length xs → Each P xs → P (slice_index_or xs i d)
each-at P [] i d l h = absurd (omega arith)
each-at P (x ∷ xs) zero d l h = h.0
each-at P (x ∷ xs) (suc i) d l h = each-at P xs i d (omega arith) h.1

pub before-pairs : {A : Type 0} (R : A → A → Type 0) (xs : List A) → EachBefore R xs → AllPairs R xs
before-pairs R [] h i j d l k = absurd (omega arith)
before-pairs R (x ∷ xs) h zero zero d l k = absurd (omega arith)
before-pairs R (x ∷ xs) h zero (suc j) d l k = each-at (R x) xs j d (omega arith) h.0
before-pairs R (x ∷ xs) h (suc i) zero d l k = absurd (omega arith)
before-pairs R (x ∷ xs) h (suc i) (suc j) d l k = before-pairs R xs h.1 i j d (omega arith) (omega arith)

each_range : (P : Pos → Type 0) (f : ℕ → Pos) (low n : ℕ) → ((i : ℕ) → low ≤ i → P (f i)) → Each P (map f (range_with_len low n))
each_range P f low zero h = tt
each_range P f low (suc n) h = (h low (omega arith), each_range P f (low + 1) n (λ i l. h i (omega arith)))

before_range : (R : Pos → Pos → Type 0) (f : ℕ → Pos) → ((i j : ℕ) → i < j → R (f i) (f j)) → (low n : ℕ) → EachBefore R (map f (range_with_len low n))
before_range R f h low zero = tt
before_range R f h low (suc n) = (each_range (R (f low)) f (low + 1) n (λ i l. h low i (omega arith)), before_range R f h (low + 1) n)

-- ---- the places of the box

abbrev pub IsLower : Plan → Pos → Pos → Type 0
IsLower b p q = cell_of b p < cell_of b q

pub cells-rise : (b : Plan) → EachBefore (IsLower b) (places b)
cells-rise b = before_range (IsLower b) (place_of b) (λ i j l. omega (arith, l, cell-place b i, cell-place b j)) 0 (volume b)

quotients-rise : (i j n : ℕ) → i ≤ j → i / n ≤ j / n
quotients-rise i j zero h = rw (div-zero i, div-zero j) (omega arith)
quotients-rise i j (suc n) h = le-div (i / suc n) j (suc n) (omega arith) (omega (arith, div-mul-le_self i (suc n)))

-- of two numbers in order, either the quotients rise, or they are the same and the rests rise
quotients : (i j n : ℕ) → i < j → (i / n < j / n) ⊎ ((i / n ≡ j / n) × (i % n < j % n))
quotients i j n h = elim (cases_lt (i / n) (j / n)) [
  | inl l ↦ inl l
  | inr m ↦
      let same : i / n ≡ j / n = omega (arith, quotients-rise i j n (omega arith)) in
      inr (same, omega (arith, mod-add-div i n, mod-add-div j n, ap (λ (q : ℕ). n * q) same))
]

before_by_x : (x y z u v w : ℕ) → y ≡ v → z ≡ w → x < u → is_before (record { x = pos x; y = pos y; z = pos z }) (record { x = pos u; y = pos v; z = pos w }) ≡ true
before_by_x x y z u v w e f h = rw (e, f, lt-ltb x u h, int_eq_equiv.refl (pos v), int_eq_equiv.refl (pos w)) (third (int_lt (pos v) (pos v)) (int_lt (pos w) (pos w)))
  where
    third : (s t : Bool) → (s || (true && (t || (true && true)))) ≡ true
    third true t = refl
    third false true = refl
    third false false = refl

before_by_z : (x y z u v w : ℕ) → y ≡ v → z < w → is_before (record { x = pos x; y = pos y; z = pos z }) (record { x = pos u; y = pos v; z = pos w }) ≡ true
before_by_z x y z u v w e h = rw (e, lt-ltb z w h, int_eq_equiv.refl (pos v)) (second (int_lt (pos v) (pos v)))
  where
    second : (s : Bool) → (s || true) ≡ true
    second true = refl
    second false = refl

before_by_y : (x y z u v w : ℕ) → y < v → is_before (record { x = pos x; y = pos y; z = pos z }) (record { x = pos u; y = pos v; z = pos w }) ≡ true
before_by_y x y z u v w h = rw (lt-ltb y v h) refl

-- the place of a cell stands before that of a later one
place_of-before : (b : Plan) (i j : ℕ) → i < j → is_before (place_of b i) (place_of b j) ≡ true
place_of-before b i j h = elim (quotients i j b.width h) [
  | inr x ↦ before_by_x (i % b.width) (i / b.width / b.depth) (i / b.width % b.depth) (j % b.width) (j / b.width / b.depth) (j / b.width % b.depth)
      (ap (λ (n : ℕ). n / b.depth) x.0) (ap (λ (n : ℕ). n % b.depth) x.0) x.1
  | inl more ↦ elim (quotients (i / b.width) (j / b.width) b.depth more) [
    | inr z ↦ before_by_z (i % b.width) (i / b.width / b.depth) (i / b.width % b.depth) (j % b.width) (j / b.width / b.depth) (j / b.width % b.depth) z.0 z.1
    | inl y ↦ before_by_y (i % b.width) (i / b.width / b.depth) (i / b.width % b.depth) (j % b.width) (j / b.width / b.depth) (j / b.width % b.depth) y
  ]
]

pub places-before : (b : Plan) → EachBefore (λ p q. is_before p q ≡ true) (places b)
places-before b = before_range (λ p q. is_before p q ≡ true) (place_of b) (place_of-before b) 0 (volume b)

-- ---- the links of a wire

links-rise : (b : Plan) (w : Pos) (n : ℕ) → EachBefore (IsBefore b) (links_below b w n)
unfolding links_below
links-rise b w zero = tt
links-rise b w (suc n) =
    before-append (IsBefore b) (links_below b w n) (map (at_weight n) (filter (is_new (sources_in b w n) (links_below b w n)) (places b)))
    (links-rise b w n)
    (before-map (IsLower b) (IsBefore b) (at_weight n) (λ p q l. inr (refl, l)) (filter (is_new (sources_in b w n) (links_below b w n)) (places b))
    (before-filter (IsLower b) (is_new (sources_in b w n) (links_below b w n)) (places b) (cells-rise b)))
    across
  where
    across : (l m : From) → Among (links_below b w n) l → Among (map (at_weight n) (filter (is_new (sources_in b w n) (links_below b w n)) (places b))) m → IsBefore b l m
    across l m i j =
        let r : From_map (at_weight n) (filter (is_new (sources_in b w n) (links_below b w n)) (places b)) m = among-map (at_weight n) (filter (is_new (sources_in b w n) (links_below b w n)) (places b)) m j in
        let e : n ≡ m.weight = ap (λ (x : From). x.weight) r.is in
        inl (omega (arith, e, (links-linked b w n l i).0))

pub wire_links-ordered : (b : Plan) (w : Pos) → AreOrdered b (wire_links b w)
unfolding wire_links
wire_links-ordered b w = before-pairs (IsBefore b) (links_below b w 16) (links-rise b w 16)
