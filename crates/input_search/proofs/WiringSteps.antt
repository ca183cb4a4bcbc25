-- The wires and sources of one cell more, and the rows of one wire more.
use Rattle.std.proofs.Common.{◌≡◌, ℕ, zero, suc, ◌+◌, ◌<◌, Bool, true, false, List, [], ◌∷◌, ◌++◌, length, get_or, set, sym, ◌∙◌, ap, subst, arith, inl, inr, add-one, length-append, All}
use Rattle.std.specs.Prelude.{filter, replicate}
use Rattle.std.specs.List.{range_with_len}
use Rattle.std.proofs.lemmas.Bool.{cases_eq, false≢true}
use Rattle.std.proofs.lemmas.List.{get_or-set_same, get_or-set_other}
use Rattle.std.proofs.lemmas.List.Elements.{filter-append}
use Rattle.std.proofs.Math.ListN.{get_or-append}
use Rattle.std.proofs.Math.Seq.{get_or-append_seam}
use Rattle.build.specs.Plan.{Plan}
use Rattle.cell_numbers.proofs.Rising.{kept-below}
use Rattle.input_search.specs.Rows.{row_at, is_met}
use Rattle.input_search.specs.Wiring.{fed_row, read_row, AreRows}

range_more : (a n : ℕ) → range_with_len a (suc n) ≡ range_with_len a n ++ (a + n) ∷ []
range_more a zero = let e : a + 0 ≡ a = omega arith in ap (λ (x : ℕ). x ∷ []) (sym e)
range_more a (suc n) =
    let e : a + 1 + n ≡ a + suc n = omega arith in
    ap (λ (xs : List ℕ). a ∷ xs) (range_more (a + 1) n ∙ ap (λ (x : ℕ). range_with_len (a + 1) n ++ x ∷ []) e)

-- one cell more
pub wires_more : (test : ℕ → Bool) (n : ℕ) (now next : List ℕ) → now ≡ filter test (range_with_len 0 n) → next ≡ now ++ filter test (n ∷ []) → next ≡ filter test (range_with_len 0 (n + 1))
wires_more test n now next e f =
    let z : 0 + n ≡ n = omega arith in
    f ∙ ap (λ (xs : List ℕ). xs ++ filter test (n ∷ [])) e
    ∙ sym (filter-append test (range_with_len 0 n) (n ∷ []))
    ∙ ap (filter test) (sym (ap (range_with_len 0) (add-one n) ∙ range_more 0 n ∙ ap (λ (x : ℕ). range_with_len 0 n ++ x ∷ []) z))

pub listed-below : (test : ℕ → Bool) (n : ℕ) (cells : List ℕ) → cells ≡ filter test (range_with_len 0 n) → All (λ cell. cell < n) cells
listed-below test n cells e = subst (All (λ cell. cell < n)) (sym e) (kept-below test n)

-- what was found stays
rows_kept : (b : Plan) (feeders reads : List (List ℕ)) (fed read : List ℕ) (number row : ℕ) → length reads ≡ length feeders → AreRows b feeders reads number row
    → AreRows b (feeders ++ fed ∷ []) (reads ++ read ∷ []) number row
rows_kept b feeders reads fed read number row same found =
    let within : row < length reads = omega (arith, found.inside) in
    record {
      inside = omega (arith, found.inside, length-append feeders (fed ∷ []));
      fed = get_or-append feeders (fed ∷ []) [] row found.inside ∙ found.fed;
      read = get_or-append reads (read ∷ []) [] row within ∙ found.read;
    }

-- what is found
pub rows_found : (b : Plan) (feeders reads : List (List ℕ)) (number row : ℕ) → length feeders ≡ row → length reads ≡ row
    → AreRows b (feeders ++ fed_row b number ∷ []) (reads ++ read_row b number ∷ []) number row
rows_found b feeders reads number row e f = record {
  inside = omega (arith, e, length-append feeders (fed_row b number ∷ []));
  fed = ap (row_at (feeders ++ fed_row b number ∷ [])) (sym e) ∙ get_or-append_seam feeders (fed_row b number) [] [];
  read = ap (row_at (reads ++ read_row b number ∷ [])) (sym f) ∙ get_or-append_seam reads (read_row b number) [] [];
}

pub found_more : (b : Plan) (feeders reads : List (List ℕ)) (slots : List ℕ) (number count : ℕ) → length feeders ≡ count → length reads ≡ count → number < length slots
    → ((k row : ℕ) → get_or slots k 0 ≡ row + 1 → AreRows b feeders reads k row)
    → (k row : ℕ) → get_or (set slots number (count + 1)) k 0 ≡ row + 1 → AreRows b (feeders ++ fed_row b number ∷ []) (reads ++ read_row b number ∷ []) k row
found_more b feeders reads slots number count e f inside found k row h = elim (cases_eq k number) [
  | inl same ↦
      let here : get_or (set slots number (count + 1)) number 0 ≡ row + 1 = ap (λ (n : ℕ). get_or (set slots number (count + 1)) n 0) (sym same) ∙ h in
      let is : count ≡ row = omega (arith, here, get_or-set_same slots number (count + 1) 0 inside) in
      subst (λ (n : ℕ). AreRows b (feeders ++ fed_row b number ∷ []) (reads ++ read_row b number ∷ []) n row) (sym same)
      (rows_found b feeders reads number row (e ∙ is) (f ∙ is))
  | inr apart ↦ rows_kept b feeders reads (fed_row b number) (read_row b number) k row (f ∙ sym e) (found k row (sym (get_or-set_other slots number k (count + 1) 0 apart) ∙ h))
]

pub found_next : (b : Plan) (feeders reads feeders2 reads2 : List (List ℕ)) (slots slots2 : List ℕ) (number count next : ℕ) → length feeders ≡ count → length reads ≡ count → number < length slots
    → ((k row : ℕ) → get_or slots k 0 ≡ row + 1 → AreRows b feeders reads k row)
    → feeders2 ≡ feeders ++ fed_row b number ∷ [] → reads2 ≡ reads ++ read_row b number ∷ [] → slots2 ≡ set slots number next → next ≡ count + 1
    → (k row : ℕ) → get_or slots2 k 0 ≡ row + 1 → AreRows b feeders2 reads2 k row
found_next b feeders reads feeders2 reads2 slots slots2 number count next e f inside found fed read put more k row h =
    let is : get_or (set slots number (count + 1)) k 0 ≡ row + 1 = ap (λ (xs : List ℕ). get_or xs k 0) (sym (put ∙ ap (set slots number) more)) ∙ h in
    subst (λ (fs : List (List ℕ)). AreRows b fs reads2 k row) (sym fed)
    (subst (λ (rs : List (List ℕ)). AreRows b (feeders ++ fed_row b number ∷ []) rs k row) (sym read)
    (found_more b feeders reads slots number count e f inside found k row is))

pub one_longer : (rows next : List (List ℕ)) (row : List ℕ) (count : ℕ) → length rows ≡ count → next ≡ rows ++ row ∷ [] → length next ≡ count + 1
one_longer rows next row count e added = omega (arith, ap length added, length-append rows (row ∷ []), e)

-- nothing is found at first
pub none_found : (n k row : ℕ) (A : Type 0) → get_or (replicate n 0) k 0 ≡ row + 1 → A
none_found zero k row A h = absurd (omega arith)
none_found (suc n) zero row A h = absurd (omega arith)
none_found (suc n) (suc k) row A h = none_found n k row A h

pub none_far : (n k : ℕ) (A : Type 0) → is_met (replicate n false) k ≡ true → A
none_far zero k A h = absurd (false≢true h)
none_far (suc n) zero A h = absurd (false≢true h)
none_far (suc n) (suc k) A h = none_far n k A h
