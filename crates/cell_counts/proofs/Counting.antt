-- The counts of pending ticks, when a cell is put or a tick is taken.
use Rattle.std.proofs.Common.{◌≡◌, ◌≢◌, ℕ, zero, suc, ◌+◌, ◌<◌, ◌≤◌, Bool, true, false, cond, List, [], ◌∷◌, length, get_or, take, length-take, refl, sym, ap, ◌∙◌, inl, inr, arith}
use Rattle.std.specs.Prelude.{◌==◌, ◌^◌, All, count_by, slice_index}
use Rattle.std.proofs.lemmas.Bool.{cases_eq, cases_lt, and_parts, eqb-true, eqb-false, eq-eqb, ne_eqb, not-true}
use Rattle.std.proofs.lemmas.List.Sums.{sum_by-cons, count_by-le-length}
use Rattle.circuit.specs.declared.Cell.{Cell}
use Rattle.cell_counts.specs.Held.{nothing}
use Rattle.cell_counts.specs.Held.{cell_of, waits, slot_of, counts_at, IsSoon, IsPending, IsNow, NoneNow, IsLeast, IsHeld}

-- ---- a cell in its slot

pub counts_at-waits : (slot : ℕ) (cell : Cell) → counts_at slot cell ≡ true → (cell.due ≢ 0) × (slot_of cell.due cell.priority ≡ slot)
counts_at-waits slot cell h =
    let parts = and_parts (waits cell) (slot_of cell.due cell.priority == slot) h in
    (eqb-false cell.due 0 (not-true (cell.due == 0) parts.0), eqb-true (slot_of cell.due cell.priority) slot parts.1)

pub counts_at-own : (cell : Cell) → cell.due ≢ 0 → counts_at (slot_of cell.due cell.priority) cell ≡ true
counts_at-own cell w = rw (ne_eqb cell.due 0 w, eq-eqb (slot_of cell.due cell.priority) (slot_of cell.due cell.priority) refl) refl

-- ---- the cells

pub past_cells : (cells : List Cell) (key : ℕ) → length cells ≤ key → cell_of cells key ≡ nothing
past_cells [] key h = refl
past_cells (x ∷ cells) zero h = absurd (omega arith)
past_cells (x ∷ cells) (suc key) h = past_cells cells key (omega arith)

pub inside_where : (cells : List Cell) (key : ℕ) → (cell_of cells key).due ≢ 0 → key < length cells
inside_where cells key w = elim (cases_lt key (length cells)) [ inl h ↦ h | inr h ↦ absurd (w (ap (λ (c : Cell). c.due) (past_cells cells key h))) ]

pending_idle : (time : ℕ) (cell : Cell) → cell.due ≡ 0 → IsPending time cell
pending_idle time cell none = record { later = λ w. absurd (w none); soon = omega arith; priority = λ w. absurd (w none) }

pub pending_soon : (time : ℕ) (cell : Cell) → IsSoon time cell → IsPending time cell
pending_soon time cell soon = record { later = λ w. (let l : time < cell.due = soon.later w in omega arith); soon = soon.soon; priority = soon.priority }

-- ---- what a count says

abbrev one_if : Bool → ℕ
one_if b = cond b 1 0

count_more : {A : Type 0} (p : A → Bool) (x : A) (xs : List A) → count_by p (x ∷ xs) ≡ one_if (p x) + count_by p xs
count_more p x xs = sum_by-cons (λ y. one_if (p y)) x xs

-- a slot that counts none has no cell
pub count_none : {A : Type 0} (p : A → Bool) (xs : List A) (k : ℕ) (d : A) → count_by p xs ≡ 0 → k < length xs → p (get_or xs k d) ≡ true → ⊥
count_none p [] k d none inside here = omega arith
count_none p (x ∷ xs) zero d none inside here = let one : one_if (p x) ≡ 1 = ap one_if here in omega (arith, count_more p x xs, none, one)
count_none p (x ∷ xs) (suc k) d none inside here = count_none p xs k d (omega (arith, count_more p x xs, none)) (omega arith) here

-- and one that counts some has one
pub count_some : {A : Type 0} (p : A → Bool) (xs : List A) (d : A) → count_by p xs ≢ 0 → (k : ℕ) × (k < length xs) × (p (get_or xs k d) ≡ true)
count_some p [] d some = absurd (some refl)
count_some {A} p (x ∷ xs) d some = by_test (p x) refl (count_some p xs d)
  where
    by_test : (t : Bool) → p x ≡ t → (count_by p xs ≢ 0 → (k : ℕ) × (k < length xs) × (p (get_or xs k d) ≡ true)) → (k : ℕ) × (k < length (x ∷ xs)) × (p (get_or (x ∷ xs) k d) ≡ true)
    by_test true e more = (0, omega arith, e)
    by_test false e more =
        let none : one_if (p x) ≡ 0 = ap one_if e in
        let rest = more (λ z. some (omega (arith, count_more p x xs, none, z))) in
        (suc rest.0, (let l : rest.0 < length xs = rest.1 in omega arith), rest.2)

-- of the pending ticks that a slot of now counts, each is due now
slot_is_now : (time due priority other : ℕ) → time ≤ due → due ≤ time + 15 → priority ≤ 3 → other ≤ 3 → slot_of due priority ≡ slot_of time other → (due ≡ time) × (priority ≡ other)
slot_is_now time due priority other low high small least same = (omega arith, omega arith)

-- a tick that is due now is counted
pub counted_now : (time : ℕ) (counts : List ℕ) (cells : List Cell) → IsHeld time counts cells → (key : ℕ) → IsNow time (cell_of cells key) →
    0 < slice_index counts (slot_of (cell_of cells key).due (cell_of cells key).priority)
counted_now time counts cells held key now =
    let slot : ℕ = slot_of (cell_of cells key).due (cell_of cells key).priority in
    let small : (cell_of cells key).priority ≤ 3 = (held.pending key).priority now.waits in
    let inside : slot_of (cell_of cells key).due (cell_of cells key).priority < 64 = omega arith in
    elim (cases_eq (slice_index counts (slot_of (cell_of cells key).due (cell_of cells key).priority)) 0) [
      | inl e ↦ absurd (count_none (counts_at (slot_of (cell_of cells key).due (cell_of cells key).priority)) cells key nothing
          (sym (held.counted (slot_of (cell_of cells key).due (cell_of cells key).priority) inside) ∙ e) (inside_where cells key now.waits) (counts_at-own (cell_of cells key) now.waits))
      | inr n ↦ omega arith
    ]

-- in the slot of now and its priority
now_counted : (time : ℕ) (counts : List ℕ) (cells : List Cell) → IsHeld time counts cells → (key : ℕ) → IsNow time (cell_of cells key) →
    slice_index counts (slot_of time (cell_of cells key).priority) ≡ 0 → ⊥
now_counted time counts cells held key now none =
    let some = counted_now time counts cells held key now in
    let same : slice_index counts (slot_of (cell_of cells key).due (cell_of cells key).priority) ≡ slice_index counts (slot_of time (cell_of cells key).priority) =
    ap (λ (n : ℕ). slice_index counts (slot_of n (cell_of cells key).priority)) now.now in
    omega (arith, some, same, none)

-- Where this slot of now counts some, and those of lesser priorities none, this priority is the least.
pub least_here : (time : ℕ) (counts : List ℕ) (cells : List Cell) (priority : ℕ) → IsHeld time counts cells → priority ≤ 3 → slice_index counts (slot_of time priority) ≢ 0 →
    ((p : ℕ) → p < priority → slice_index counts (slot_of time p) ≡ 0) → IsLeast (record { time = time; cells = cells }) priority
least_here time counts cells priority held small some none =
    let inside : slot_of time priority < 64 = omega arith in
    let one = count_some (counts_at (slot_of time priority)) cells nothing (λ z. some (held.counted (slot_of time priority) inside ∙ z)) in
    let at = counts_at-waits (slot_of time priority) (cell_of cells one.0) one.2 in
    let p = held.pending one.0 in
    let now = slot_is_now time (cell_of cells one.0).due (cell_of cells one.0).priority priority (p.later at.0) p.soon (p.priority at.0) small at.1 in
    record {
      key = one.0;
      inside = one.1;
      due = record { waits = at.0; now = now.0 };
      is = now.1;
      least = λ other is. elim (cases_lt (cell_of cells other).priority priority) [
        | inl low ↦ absurd (now_counted time counts cells held other is (none (cell_of cells other).priority low))
        | inr high ↦ high
      ];
    }

-- Where the slots of now count none, nothing is due.
pub none_here : (time : ℕ) (counts : List ℕ) (cells : List Cell) → IsHeld time counts cells → ((p : ℕ) → p < 4 → slice_index counts (slot_of time p) ≡ 0) → NoneNow (record { time = time; cells = cells })
none_here time counts cells held none other now =
    let small : (cell_of cells other).priority ≤ 3 = (held.pending other).priority now.waits in
    now_counted time counts cells held other now (none (cell_of cells other).priority (omega arith))

-- ---- all cells, one after another

pub counted_few : (counts : List ℕ) (cells : List Cell) (i : ℕ) → length cells ≤ 2 ^ 32 → ((slot : ℕ) → slot < 64 → slice_index counts slot ≡ count_by (counts_at slot) (take i cells)) →
    (slot : ℕ) → slot < 64 → slice_index counts slot ≤ 2 ^ 32
counted_few counts cells i few before slot small = omega (arith, before slot small, few, count_by-le-length (counts_at slot) (take i cells), length-take i cells)

pub pending_all : (cells : List Cell) → All (IsSoon 0) cells → (key : ℕ) → IsPending 0 (cell_of cells key)
pending_all cells soon key = elim (cases_lt key (length cells)) [
  | inl inside ↦ pending_soon 0 (cell_of cells key) (soon key nothing inside)
  | inr past ↦ pending_idle 0 (cell_of cells key) (ap (λ (c : Cell). c.due) (past_cells cells key past))
]
