-- Lists of cells that grow at their end, and lists that are turned round.
use Rattle.std.specs.Prelude.{◌≡◌, ℕ, zero, suc, ◌+◌, ◌<◌, ◌≤◌, ◌⊎◌, List, [], ◌∷◌, ◌++◌, length, slice_index, slice_index_or, set, replicate, Contains, refl}
use Rattle.std.proofs.Common.{sym, ◌∙◌, ap, arith, inl, inr}
use Rattle.std.proofs.lemmas.Bool.{cases_lt}
use Rattle.std.proofs.lemmas.List.{length-set, get_or-set_same, get_or-set_other, length-map, ext_get_or}
use Rattle.std.proofs.Math.ListN.{get_or-map}
use Rattle.wire_net.specs.Net.{Cell, no_cell, cell_at, feeders_of}
use Rattle.wire_net.specs.Laws.{nat_same}
use Rattle.wire_net.specs.Listed.{list_at}
use Rattle.wire_net.specs.WaveSteps.{Later, Has, AreBelow, IsTurned}

pub at-default : (xs : List ℕ) (k s : ℕ) → k < length xs → slice_index_or xs k s ≡ slice_index xs k
at-default [] k s h = absurd (omega arith)
at-default (x ∷ xs) zero s h = refl
at-default (x ∷ xs) (suc k) s h = at-default xs k s (omega arith)

pub has-of : (xs : List ℕ) (x : ℕ) → Contains xs x → Has xs x
has-of xs x (k, h, e) = (k, omega arith, h, sym (at-default xs k x h) ∙ e)

pub length-more : (xs : List ℕ) (y : ℕ) → length (xs ++ y ∷ []) ≡ length xs + 1
length-more [] y = refl
length-more (x ∷ xs) y = omega (arith, length-more xs y)

pub at-before : (xs : List ℕ) (y k : ℕ) → k < length xs → slice_index (xs ++ y ∷ []) k ≡ slice_index xs k
at-before [] y k h = absurd (omega arith)
at-before (x ∷ xs) y zero h = refl
at-before (x ∷ xs) y (suc k) h = at-before xs y k (omega arith)

pub at-last : (xs : List ℕ) (y : ℕ) → slice_index (xs ++ y ∷ []) (length xs) ≡ y
at-last [] y = refl
at-last (x ∷ xs) y = at-last xs y

pub later-more : (xs : List ℕ) (y i x : ℕ) → Later xs i x → Later (xs ++ y ∷ []) i x
later-more xs y i x (k, low, h, e) = (k, low, omega (arith, length-more xs y), at-before xs y k h ∙ e)

pub later-last : (xs : List ℕ) (y i : ℕ) → i ≤ length xs → Later (xs ++ y ∷ []) i y
later-last xs y i h = (length xs, h, omega (arith, length-more xs y), at-last xs y)

pub later-split : (xs : List ℕ) (y x : ℕ) → Has (xs ++ y ∷ []) x → Has xs x ⊎ (x ≡ y)
later-split xs y x (k, low, h, e) = elim (cases_lt k (length xs)) [
  | inl l ↦ inl (k, low, l, sym (at-before xs y k l) ∙ e)
  | inr l ↦
      let same : k ≡ length xs = omega (arith, length-more xs y) in
      inr (sym e ∙ ap (λ (j : ℕ). slice_index (xs ++ y ∷ []) j) same ∙ at-last xs y)
]

pub later-next : (xs : List ℕ) (i x : ℕ) → Later xs i x → (x ≡ slice_index xs i) ⊎ Later xs (i + 1) x
later-next xs i x (k, low, h, e) = elim (nat_same k i) [
  | inl s ↦ inl (sym e ∙ ap (λ (j : ℕ). slice_index xs j) s)
  | inr n ↦ inr (k, omega arith, h, e)
]

pub below-more : (n : ℕ) (xs : List ℕ) (y : ℕ) → AreBelow n xs → y < n → AreBelow n (xs ++ y ∷ [])
below-more n xs y below h k l = elim (cases_lt k (length xs)) [
  | inl s ↦ omega (arith, below k s, at-before xs y k s)
  | inr s ↦
      let same : k ≡ length xs = omega (arith, length-more xs y) in
      rw same (rw (at-last xs y) h)
]

-- ---- lists that are turned round

pub feeders-at : (net : List Cell) (i : ℕ) → list_at (feeders_of net) i ≡ (cell_at net i).feeders
feeders-at net i = get_or-map (λ (c : Cell). c.feeders) net i no_cell

pub empty-lists : (n i : ℕ) → list_at (replicate n []) i ≡ []
empty-lists zero i = refl
empty-lists (suc n) zero = refl
empty-lists (suc n) (suc i) = empty-lists n i

list_past : (xs : List (List ℕ)) (i : ℕ) → length xs ≤ i → list_at xs i ≡ []
list_past [] i h = refl
list_past (x ∷ xs) zero h = absurd (omega arith)
list_past (x ∷ xs) (suc i) h = list_past xs i (omega arith)

pub has-empty : {A : Type 0} (xs : List ℕ) (x : ℕ) → xs ≡ [] → Has xs x → A
has-empty xs x e (k, low, h, at) = let none : length xs ≡ 0 = ap (λ (ys : List ℕ). length ys) e in absurd (omega arith)

-- the list at a number after one of the lists has grown
pub has-grown : (ls : List (List ℕ)) (c y : ℕ) → c < length ls → (i x : ℕ) → Has (list_at ls i) x → Has (list_at (set ls c (list_at ls c ++ y ∷ [])) i) x
has-grown ls c y h i x has = elim (nat_same i c) [
  | inl e ↦ let old : Has (list_at ls c) x = rw e at has in
      rw e (rw (get_or-set_same ls c (list_at ls c ++ y ∷ []) [] h) (later-more (list_at ls c) y 0 x old))
  | inr n ↦ rw (get_or-set_other ls c i (list_at ls c ++ y ∷ []) [] n) has
]

pub has-new : (ls : List (List ℕ)) (c y : ℕ) → c < length ls → Has (list_at (set ls c (list_at ls c ++ y ∷ [])) c) y
has-new ls c y h = rw (get_or-set_same ls c (list_at ls c ++ y ∷ []) [] h) (later-last (list_at ls c) y 0 (omega arith))

pub has-old : (ls : List (List ℕ)) (c y : ℕ) → c < length ls → (i x : ℕ) → Has (list_at (set ls c (list_at ls c ++ y ∷ [])) i) x → Has (list_at ls i) x ⊎ ((i ≡ c) × (x ≡ y))
has-old ls c y h i x has = elim (nat_same i c) [
  | inl e ↦ let now : Has (list_at ls c ++ y ∷ []) x = rw (get_or-set_same ls c (list_at ls c ++ y ∷ []) [] h) at (rw e at has) in
      elim (later-split (list_at ls c) y x now) [ inl o ↦ inl (rw e o) | inr s ↦ inr (e, s) ]
  | inr n ↦ inl (rw (get_or-set_other ls c i (list_at ls c ++ y ∷ []) [] n) at has)
]

pub turned_start : (n : ℕ) → IsTurned (replicate n []) (replicate n [])
turned_start n = record {
  long = refl;
  each = λ c f has. has-empty (list_at (replicate n []) c) f (empty-lists n c) has;
  only = λ c f has. has-empty (list_at (replicate n []) f) c (empty-lists n f) has;
}

pub turned_more : (a b : List (List ℕ)) (c f : ℕ) → c < length a → f < length b → IsTurned a b → IsTurned (set a c (list_at a c ++ f ∷ [])) (set b f (list_at b f ++ c ∷ []))
turned_more a b c f hc hf t = record {
  long = length-set b f (list_at b f ++ c ∷ []) ∙ t.long ∙ sym (length-set a c (list_at a c ++ f ∷ []));
  each = λ i x has. elim (has-old a c f hc i x has) [
    | inl old ↦ has-grown b f c hf x i (t.each i x old)
    | inr (e, s) ↦ rw (e, s) (has-new b f c hf)
  ];
  only = λ i x has. elim (has-old b f c hf x i has) [
    | inl old ↦ has-grown a c f hc i x (t.only i x old)
    | inr (e, s) ↦ rw (e, s) (has-new a c f hc)
  ];
}

pub lists_are : (net : List Cell) (ls : List (List ℕ)) → length ls ≡ length net → ((i : ℕ) → i < length net → list_at ls i ≡ (cell_at net i).feeders) → ls ≡ feeders_of net
lists_are net ls long each =
    ext_get_or [] ls (feeders_of net) (long ∙ sym (length-map net (λ (c : Cell). c.feeders)))
    (λ i h. each i (omega arith) ∙ sym (feeders-at net i))

pub length-fed : (net : List Cell) (feeders fed : List (List ℕ)) → feeders ≡ feeders_of net → IsTurned feeders fed → length fed ≡ length net
length-fed net feeders fed lists t = t.long ∙ ap (λ (xs : List (List ℕ)). length xs) lists ∙ length-map net (λ (c : Cell). c.feeders)

-- the cells that a cell feeds are cells of the net
pub fed-below : (net : List Cell) (feeders fed : List (List ℕ)) → feeders ≡ feeders_of net → IsTurned feeders fed → (f : ℕ) → AreBelow (length net) (list_at fed f)
fed-below net feeders fed lists t f k h = elim (cases_lt (slice_index (list_at fed f) k) (length net)) [
  | inl l ↦ l
  | inr l ↦
      let none : list_at feeders (slice_index (list_at fed f) k) ≡ [] =
      list_past feeders (slice_index (list_at fed f) k) (omega (arith, length-fed net feeders fed lists t, t.long)) in
      has-empty (list_at feeders (slice_index (list_at fed f) k)) f none (t.only (slice_index (list_at fed f) k) f (k, omega arith, h, refl))
]

pub past_end : (ls : List (List ℕ)) (l : ℕ) → length ls ≤ l → length (list_at ls l) ≤ 0
past_end ls l h = rw (list_past ls l h) (omega arith)
