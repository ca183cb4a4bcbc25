-- Rows that are turned round: each tap has the readers that tap it.
use Rattle.std.proofs.Common.{◌≡◌, ℕ, ◌+◌, ◌<◌, ◌≤◌, List, [], ◌∷◌, ◌++◌, length, set, replicate, refl, sym, ◌∙◌, ap, subst, arith, inl, inr, ◌⊎◌, slice_index}
use Rattle.std.proofs.lemmas.Bool.{cases_lt}
use Rattle.std.proofs.lemmas.List.{length-set, get_or-set_same, get_or-set_other, get_or_past}
use Rattle.wire_net.specs.Laws.{nat_same}
use Rattle.wire_net.specs.Listed.{list_at}
use Rattle.wire_net.specs.WaveSteps.{Has, AreBelow}
use Rattle.wire_net.proofs.Lists.{has-grown, has-new, has-empty, empty-lists, below-more}
use Rattle.wiring.specs.Wired.{AllBelow, Turns, ToldOf, ToldBelow}

pub turns_nothing : (lists : List (List ℕ)) (Told : ℕ → ℕ → Type 0) → ((reader tap : ℕ) → Told reader tap → ⊥) → Turns lists lists Told
turns_nothing lists Told none = record { size = refl; kept = λ i x h. h; told = λ r t h. absurd (none r t h); below = λ h. h }

pub turns_then : (a b c : List (List ℕ)) (S T U : ℕ → ℕ → Type 0) → Turns a b S → Turns b c T → ((reader tap : ℕ) → U reader tap → S reader tap ⊎ T reader tap) → Turns a c U
turns_then a b c S T U f g either = record {
  size = g.size ∙ f.size;
  kept = λ i x h. g.kept i x (f.kept i x h);
  told = λ r t u. elim (either r t u) [ inl s ↦ g.kept t r (f.told r t s) | inr k ↦ g.told r t k ];
  below = λ h. subst (λ (n : ℕ). AllBelow n c) f.size (g.below (subst (λ (n : ℕ). AllBelow n b) (sym f.size) (f.below h)));
}

-- one reader is put into the list of one tap
pub turns_one : (lists : List (List ℕ)) (tap reader : ℕ) → tap < length lists → reader < length lists →
    Turns lists (set lists tap (list_at lists tap ++ reader ∷ [])) (λ r t. (r ≡ reader) × (t ≡ tap))
turns_one lists tap reader h k = record {
  size = length-set lists tap (list_at lists tap ++ reader ∷ []);
  kept = λ i x has. has-grown lists tap reader h i x has;
  told = λ r t (e, f). rw (e, f) (has-new lists tap reader h);
  below = below;
}
  where
    below : AllBelow (length lists) lists → AllBelow (length lists) (set lists tap (list_at lists tap ++ reader ∷ []))
    below all i = elim (nat_same i tap) [
      | inl e ↦ rw e (rw (get_or-set_same lists tap (list_at lists tap ++ reader ∷ []) [] h) (below-more (length lists) (list_at lists tap) reader (all tap) k))
      | inr n ↦ rw (get_or-set_other lists tap i (list_at lists tap ++ reader ∷ []) [] n) (all i)
    ]

-- ---- one row

pub row_start : (lists : List (List ℕ)) (reader : ℕ) (row : List ℕ) → Turns lists lists (ToldOf reader row 0)
row_start lists reader row = turns_nothing lists (ToldOf reader row 0) (λ r t (e, (k, low, h, is)). absurd (none k low))
  where
    none : (k : ℕ) → k < 0 → ⊥
    none k h = omega arith

pub row_more : (old now next : List (List ℕ)) (reader : ℕ) (row : List ℕ) (i tap : ℕ) → reader < length old → AreBelow (length old) row → i < length row → tap ≡ slice_index row i →
    Turns old now (ToldOf reader row i) → next ≡ set now tap (list_at now tap ++ reader ∷ []) → Turns old next (ToldOf reader row (i + 1))
row_more old now next reader row i tap low below h is before e =
    rw e (turns_then old now (set now tap (list_at now tap ++ reader ∷ [])) (ToldOf reader row i) (λ r t. (r ≡ reader) × (t ≡ tap)) (ToldOf reader row (i + 1)) before
    (turns_one now tap reader (rw before.size (rw is (below i h))) (rw before.size low)) split)
  where
    split : (r t : ℕ) → ToldOf reader row (i + 1) r t → ToldOf reader row i r t ⊎ ((r ≡ reader) × (t ≡ tap))
    split r t (one, (k, under, short, there)) = elim (nat_same k i) [
      | inl s ↦ inr (one, sym there ∙ ap (λ (j : ℕ). slice_index row j) s ∙ sym is)
      | inr n ↦ inl (one, (k, omega arith, short, there))
    ]

pub row_all : (old new : List (List ℕ)) (reader : ℕ) (row : List ℕ) (i : ℕ) → length row ≤ i → Turns old new (ToldOf reader row i) → Turns old new (λ r tap. (r ≡ reader) × Has row tap)
row_all old new reader row i h t = record {
  size = t.size;
  kept = t.kept;
  told = λ r tap (one, (k, low, short, there)). t.told r tap (one, (k, omega arith, short, there));
  below = t.below;
}

-- ---- all rows

pub rows_start : (lists rows : List (List ℕ)) → Turns lists lists (ToldBelow rows 0)
rows_start lists rows = turns_nothing lists (ToldBelow rows 0) (λ r t (low, h). absurd (none r low))
  where
    none : (k : ℕ) → k < 0 → ⊥
    none k h = omega arith

pub rows_more : (old now next rows : List (List ℕ)) (i : ℕ) → Turns old now (ToldBelow rows i) → Turns now next (λ r tap. (r ≡ i) × Has (list_at rows i) tap) → Turns old next (ToldBelow rows (i + 1))
rows_more old now next rows i before one = turns_then old now next (ToldBelow rows i) (λ r tap. (r ≡ i) × Has (list_at rows i) tap) (ToldBelow rows (i + 1)) before one split
  where
    split : (r t : ℕ) → ToldBelow rows (i + 1) r t → ToldBelow rows i r t ⊎ ((r ≡ i) × Has (list_at rows i) t)
    split r t (low, h) = elim (nat_same r i) [
      | inl s ↦ inr (s, subst (λ (j : ℕ). Has (list_at rows j) t) s h)
      | inr n ↦ inl (omega arith, h)
    ]

pub rows_all : (old new rows : List (List ℕ)) (i : ℕ) → length rows ≤ i → Turns old new (ToldBelow rows i) → Turns old new (λ reader tap. Has (list_at rows reader) tap)
rows_all old new rows i h t = record {
  size = t.size;
  kept = t.kept;
  told = λ r tap has. t.told r tap (within r tap has, has);
  below = t.below;
}
  where
    within : (r tap : ℕ) → Has (list_at rows r) tap → r < i
    within r tap has = elim (cases_lt r i) [
      | inl l ↦ l
      | inr past ↦ has-empty (list_at rows r) tap (get_or_past rows r [] (omega arith)) has
    ]

-- ---- each thing drives itself

abbrev pub IsItself : ℕ → ℕ → ℕ → Type 0
IsItself i r tap = (r < i) × (tap ≡ r)

pub itself_start : (lists : List (List ℕ)) → Turns lists lists (IsItself 0)
itself_start lists = turns_nothing lists (IsItself 0) (λ r t (low, e). absurd (none r low))
  where
    none : (k : ℕ) → k < 0 → ⊥
    none k h = omega arith

pub itself_more : (old now next : List (List ℕ)) (i : ℕ) → i < length old → Turns old now (IsItself i) → next ≡ set now i (list_at now i ++ i ∷ []) → Turns old next (IsItself (i + 1))
itself_more old now next i h before e =
    rw e (turns_then old now (set now i (list_at now i ++ i ∷ [])) (IsItself i) (λ r t. (r ≡ i) × (t ≡ i)) (IsItself (i + 1)) before (turns_one now i i (rw before.size h) (rw before.size h)) split)
  where
    split : (r t : ℕ) → IsItself (i + 1) r t → IsItself i r t ⊎ ((r ≡ i) × (t ≡ i))
    split r t (low, same) = elim (nat_same r i) [
      | inl s ↦ inr (s, same ∙ s)
      | inr n ↦ inl (omega arith, same)
    ]

-- ---- from nothing

pub empty_below : (n count : ℕ) → AllBelow count (replicate n [])
empty_below n count i k h = absurd (none (list_at (replicate n []) i) (empty-lists n i) k h)
  where
    none : (xs : List ℕ) → xs ≡ [] → (k : ℕ) → k < length xs → ⊥
    none xs e k h = let short : k < 0 = rw e at h in omega arith

pub turns_along : (a b c d : List (List ℕ)) (T : ℕ → ℕ → Type 0) → a ≡ b → d ≡ c → Turns a c T → Turns b d T
turns_along a b c d T e f t = subst (λ (xs : List (List ℕ)). Turns xs d T) e (subst (λ (ys : List (List ℕ)). Turns a ys T) (sym f) t)

-- two runs, from empty lists to rows
pub turns_both : (count : ℕ) (a b c rows : List (List ℕ)) (S T : ℕ → ℕ → Type 0) → a ≡ replicate count [] → rows ≡ c → Turns a b S → Turns b c T → Turns (replicate count []) rows (λ r t. S r t ⊎ T r t)
turns_both count a b c rows S T e f s t = turns_along a (replicate count []) c rows (λ r t. S r t ⊎ T r t) e f (turns_then a b c S T (λ r t. S r t ⊎ T r t) s t (λ r t h. h))
