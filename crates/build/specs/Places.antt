-- Cells and places.
use Rattle.std.proofs.Common.{◌≡◌, ◌≢◌, ℕ, zero, suc, ◌+◌, ◌*◌, ◌/◌, ◌%◌, ◌<◌, Bool, true, false, cond, ℤ, pos, negsuc, List, length, get_or, set, Option, Some, None, refl, sym, ◌∙◌, ap, inl, inr, zero-add, arith}
use Rattle.std.specs.Prelude.{◌&&◌, is_some}
use Rattle.std.specs.Option.{option_map_or}
use Rattle.std.proofs.lemmas.List.{get_or_read, get_or-set_same, get_or-set_other}
use Rattle.std.proofs.lemmas.List.FromFn.{get_or-map-range_with_len, length-map-range_with_len}
use Rattle.std.proofs.lemmas.Bool.{and_parts, ltb-true, lt-ltb, cases_Bool, false≢true}
use Rattle.std.proofs.lemmas.Nat.{mul-add-lt}
use Rattle.std.proofs.Math.Nat.{mod-lt, mod-add-div, div-lt_iff_lt-mul, mul_comm, zero-mul, add-mul-mod_self_right, mod-eq_of_lt, add-mul-div_right, div-eq_of_lt}
use Rattle.circuit.specs.declared.Pos.{Pos}
use Rattle.build.specs.Place.{same_place}
use Rattle.build.specs.SamePlace.{place_one, place_itself}
use Rattle.build.specs.Plan.{Plan, volume, fits, in_box, natural, cell_of, place_of, places, entry, found_cell}

-- a column and a row of a number
pub row_mod : (a q w : ℕ) → a < w → (a + q * w) % w ≡ a
row_mod a q w h = add-mul-mod_self_right a q w ∙ mod-eq_of_lt h

pub row_div : (a q w : ℕ) → a < w → (a + q * w) / w ≡ q
row_div a q w h = add-mul-div_right a q (omega arith) ∙ ap (λ (n : ℕ). n + q) (div-eq_of_lt h) ∙ zero-add q

natural_below : (n : ℕ) (z : ℤ) → fits n z ≡ true → (natural z < n) × (pos (natural z) ≡ z)
natural_below n (pos k) h = (ltb-true k n h, refl)
natural_below n (negsuc k) h = absurd (cc)

-- each coordinate is in the box
pub record IsInside (b : Plan) (p : Pos) : Type 0 where
  pub x_below : natural p.x < b.width
  pub y_below : natural p.y < b.height
  pub z_below : natural p.z < b.depth
  pub x_is : pos (natural p.x) ≡ p.x
  pub y_is : pos (natural p.y) ≡ p.y
  pub z_is : pos (natural p.z) ≡ p.z

pub inside : (b : Plan) (p : Pos) → in_box b p ≡ true → IsInside b p
unfolding in_box
inside b p h =
    let two = and_parts (fits b.width p.x && fits b.height p.y) (fits b.depth p.z) h in
    let one = and_parts (fits b.width p.x) (fits b.height p.y) two.0 in
    let x = natural_below b.width p.x one.0 in
    let y = natural_below b.height p.y one.1 in
    let z = natural_below b.depth p.z two.1 in
    record { x_below = x.0; y_below = y.0; z_below = z.0; x_is = x.1; y_is = y.1; z_is = z.1 }

row_below : (a w q m : ℕ) → a < w → q < m → a + q * w < w * m
row_below a w q m h k = omega (arith, mul-add-lt q w a m k h)

pub cell_below : (b : Plan) (p : Pos) → IsInside b p → cell_of b p < volume b
cell_below b p i =
    row_below (natural p.x) b.width (natural p.z + natural p.y * b.depth) (b.depth * b.height) i.x_below
    (row_below (natural p.z) b.depth (natural p.y) b.height i.z_below i.y_below)

place_by : (x y z u v w : ℤ) → x ≡ u → y ≡ v → z ≡ w → ◌≡◌ {A = Pos} (record { x = x; y = y; z = z }) (record { x = u; y = v; z = w })
place_by x y z u v w e f g = cc

-- the place of the cell of a place in the box is that place
pub place-cell : (b : Plan) (p : Pos) → IsInside b p → place_of b (cell_of b p) ≡ p
place-cell b p i =
    let low : cell_of b p % b.width ≡ natural p.x = row_mod (natural p.x) (natural p.z + natural p.y * b.depth) b.width i.x_below in
    let high : cell_of b p / b.width ≡ natural p.z + natural p.y * b.depth = row_div (natural p.x) (natural p.z + natural p.y * b.depth) b.width i.x_below in
    place_by _ _ _ p.x p.y p.z
    (ap pos low ∙ i.x_is)
    (ap (λ (n : ℕ). pos (n / b.depth)) high ∙ ap pos (row_div (natural p.z) (natural p.y) b.depth i.z_below) ∙ i.y_is)
    (ap (λ (n : ℕ). pos (n % b.depth)) high ∙ ap pos (row_mod (natural p.z) (natural p.y) b.depth i.z_below) ∙ i.z_is)

-- the cell of the place of a cell is that cell
pub cell-place : (b : Plan) (i : ℕ) → cell_of b (place_of b i) ≡ i
cell-place b i = omega (arith, mod-add-div i b.width, mod-add-div (i / b.width) b.depth, ap (λ (n : ℕ). b.width * n) (mod-add-div (i / b.width) b.depth))

quotient_below : (i w m : ℕ) → i < w * m → (i / w < m) × (0 < w)
quotient_below i zero m h = absurd (let z : i < 0 = rw (← zero-mul m) h in omega (arith, z))
quotient_below i (suc w) m h = ((div-lt_iff_lt-mul {k = suc w} {x = i} {y = m} (omega arith)).1 (rw (mul_comm m (suc w)) h), omega arith)

pub place_inside : (b : Plan) (i : ℕ) → i < volume b → in_box b (place_of b i) ≡ true
unfolding in_box
place_inside b i h =
    let row = quotient_below i b.width (b.depth * b.height) h in
    let high = quotient_below (i / b.width) b.depth b.height row.0 in
    rw (lt-ltb (i % b.width) b.width (mod-lt i row.1), lt-ltb (i / b.width / b.depth) b.height high.0, lt-ltb (i / b.width % b.depth) b.depth (mod-lt (i / b.width) high.1)) refl

pub length-places : (b : Plan) → length (places b) ≡ volume b
length-places b = length-map-range_with_len (place_of b) 0 (volume b)

pub places-at : (b : Plan) (i : ℕ) (d : Pos) → i < volume b → get_or (places b) i d ≡ place_of b i
places-at b i d h = get_or-map-range_with_len (place_of b) 0 (volume b) i i d h (omega arith)

-- the places of two cells are apart
pub cells_apart : (b : Plan) (p q : Pos) → in_box b p ≡ true → in_box b q ≡ true → same_place q p ≡ false → cell_of b q ≢ cell_of b p
cells_apart b p q here there apart e =
    false≢true (sym apart ∙ ap (λ (r : Pos). same_place r p) (sym (place-cell b q (inside b q there)) ∙ ap (place_of b) e ∙ place-cell b p (inside b p here)) ∙ place_itself p)

-- what was found where a place is in the box, and what is known of it
pub found_inside : (b : Plan) (p : Pos) → in_box b p ≡ true → found_cell b p ≡ Some (cell_of b p)
unfolding found_cell
found_inside b p h = rw h refl

pub found-is_some : (b : Plan) (p : Pos) → is_some (found_cell b p) ≡ in_box b p
unfolding found_cell
found-is_some b p = elim (cases_Bool (in_box b p)) [ inl h ↦ rw h refl | inr h ↦ rw h refl ]

pub found-cell_of : (b : Plan) (p : Pos) (i : ℕ) → Some i ≡ found_cell b p → i ≡ cell_of b p
unfolding found_cell
found-cell_of b p i e = elim (cases_Bool (in_box b p)) [
  | inl h ↦ let f : ◌≡◌ {A = Option ℕ} (Some i) (Some (cell_of b p)) = rw h at e in cc
  | inr h ↦ let f : ◌≡◌ {A = Option ℕ} (Some i) None = rw h at e in absurd (cc)
]

pub found_below : (b : Plan) (p : Pos) (i : ℕ) → found_cell b p ≡ Some i → i < volume b
unfolding found_cell
found_below b p i e = elim (cases_Bool (in_box b p)) [
  | inl h ↦ let f : Some (cell_of b p) ≡ Some i = rw h at e in let g : cell_of b p ≡ i = cc in omega (arith, g, cell_below b p (inside b p h))
  | inr h ↦ let f : ◌≡◌ {A = Option ℕ} None (Some i) = rw h at e in absurd (cc)
]

-- an entry in the box and outside of it
pub entry-inside : {A : Type 0} (b : Plan) (xs : List A) (d : A) (p : Pos) → in_box b p ≡ true → entry b xs d p ≡ get_or xs (cell_of b p) d
unfolding entry
entry-inside b xs d p h = rw h refl

pub entry-outside : {A : Type 0} (b : Plan) (xs : List A) (d : A) (p : Pos) → in_box b p ≡ false → entry b xs d p ≡ d
unfolding entry
entry-outside b xs d p h = rw h refl

pub entry-place : {A : Type 0} (b : Plan) (xs : List A) (d : A) (i : ℕ) → i < volume b → entry b xs d (place_of b i) ≡ get_or xs i d
entry-place b xs d i h = entry-inside b xs d (place_of b i) (place_inside b i h) ∙ ap (λ (n : ℕ). get_or xs n d) (cell-place b i)

-- an entry is that of the cell that was found
pub entry-found : {A : Type 0} (b : Plan) (xs : List A) (d : A) (p : Pos) → entry b xs d p ≡ option_map_or (λ (i : ℕ). get_or xs i d) (found_cell b p) d
unfolding entry found_cell
entry-found b xs d p = elim (cases_Bool (in_box b p)) [ inl h ↦ rw h refl | inr h ↦ rw h refl ]

pub entry-some : {A : Type 0} (b : Plan) (xs : List A) (d : A) (p : Pos) (i : ℕ) → Some i ≡ found_cell b p → get_or xs i d ≡ entry b xs d p
entry-some b xs d p i e = sym (entry-found b xs d p ∙ ap (λ (o : Option ℕ). option_map_or (λ (j : ℕ). get_or xs j d) o d) (sym e))

pub entry-none : {A : Type 0} (b : Plan) (xs : List A) (d : A) (p : Pos) → None ≡ found_cell b p → d ≡ entry b xs d p
entry-none b xs d p e = sym (entry-found b xs d p ∙ ap (λ (o : Option ℕ). option_map_or (λ (j : ℕ). get_or xs j d) o d) (sym e))

-- what stands in a list at the cell that was found is the entry of the place
pub entry-here : {A : Type 0} (b : Plan) (xs : List A) (d : A) (p : Pos) (i : ℕ) (x : A) → length xs ≡ volume b → Some i ≡ found_cell b p → x ≡ get_or xs i x → x ≡ entry b xs d p
entry-here b xs d p i x l f r =
    let below : i < length xs = omega (arith, l, found_below b p i (sym f)) in
    get_or_read xs i x below r d ∙ entry-some b xs d p i f

-- the same where a build `b` was opened and the contract speaks of `now`
pub entry-read : {A : Type 0} (b now : Plan) (xs : List A) (d : A) (p : Pos) (i : ℕ) (x : A) → b ≡ now → length xs ≡ volume b → Some i ≡ found_cell now p → x ≡ get_or xs i x → x ≡ entry b xs d p
entry-read b now xs d p i x e l f r = entry-here b xs d p i x l (f ∙ ap (λ (c : Plan). found_cell c p) (sym e)) r

-- an entry goes by the box alone
pub entry-same_box : {A : Type 0} (b c : Plan) (xs : List A) (d : A) (p : Pos) → c.width ≡ b.width → c.height ≡ b.height → c.depth ≡ b.depth → entry c xs d p ≡ entry b xs d p
unfolding entry in_box
entry-same_box b c xs d p w h l = rw (w, h, l) refl

-- the entry of one place is another
pub entry-set : {A : Type 0} (b : Plan) (xs : List A) (d x : A) (p q : Pos) → length xs ≡ volume b → in_box b p ≡ true →
    entry b (set xs (cell_of b p) x) d q ≡ cond (same_place q p) x (entry b xs d q)
entry-set b xs d x p q l here = elim (cases_Bool (same_place q p)) [
  | inl e ↦ let f : q ≡ p = place_one q p e in
      rw (e, f) (entry-inside b (set xs (cell_of b p) x) d p here ∙ get_or-set_same xs (cell_of b p) x d (omega (arith, l, cell_below b p (inside b p here))))
  | inr e ↦ rw e (elim (cases_Bool (in_box b q)) [
    | inl there ↦ entry-inside b (set xs (cell_of b p) x) d q there
        ∙ get_or-set_other xs (cell_of b p) (cell_of b q) x d (cells_apart b p q here there e)
        ∙ sym (entry-inside b xs d q there)
    | inr there ↦ entry-outside b (set xs (cell_of b p) x) d q there ∙ sym (entry-outside b xs d q there)
  ])
]

-- where a test tells an entry from what is outside, the place is in the box
pub in_box-not_outside : {A : Type 0} (b : Plan) (xs : List A) (d : A) (test : A → Bool) (p : Pos) → test d ≡ false → test (entry b xs d p) ≡ true → in_box b p ≡ true
in_box-not_outside b xs d test p none some = elim (cases_Bool (in_box b p)) [
  | inl h ↦ h
  | inr h ↦ absurd (false≢true (sym none ∙ ap test (sym (entry-outside b xs d p h)) ∙ some))
]
