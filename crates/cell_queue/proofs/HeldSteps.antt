-- What becomes of the ticks of one key when a tick is put into the queue or taken out.
use Rattle.std.proofs.Common.{◌≡◌, ◌≢◌, ℕ, zero, suc, ◌+◌, ◌-◌, ◌<◌, ◌≤◌, true, false, not, cond, List, [], ◌∷◌, length, get_or, set, take, length-take, Option, Some, None, refl, sym, ap, ◌∙◌, subst, arith, inl, inr}
use Rattle.std.specs.Prelude.{◌==◌, count_by, IfSome}
use Rattle.std.proofs.lemmas.Bool.{cases_Bool, cases_eq, cases_lt, false≢true, and_parts, eqb-true, eqb-false, eq-eqb, ne_eqb, not-true}
use Rattle.std.proofs.lemmas.List.{get_or-set_same, get_or-set_other, get_or-take}
use Rattle.std.proofs.lemmas.List.Sums.{sum_by-set, sum_by_more, count_by-le-length}
use Rattle.circuit.specs.declared.Cell.{Cell}
use Rattle.circuit.specs.Circuit.{Among}
use Rattle.tick_queue.specs.declared.Tick.{Tick}
use Rattle.tick_queue.specs.Ticks.{is_at, is_up_to, put_in, first_at, without_first_at, NoneDueAt, AllInTime, IsInTime}
use Rattle.cell_queue.specs.declared.cells.Wait.{Wait}
use Rattle.cell_queue.specs.Held.{nothing, wait_of, cell_of, waits, tick_of, ticks_of, ticks_for, with_tick, IsHeld, IsNow, IsFirst, TakesOne}

-- the ticks of another key stay when a tick is put in
pub for-put_other : (key : ℕ) (t : Tick ℕ) (xs : List (Tick ℕ)) → (t.key == key) ≡ false → ticks_for key (put_in t xs) ≡ ticks_for key xs
for-put_other key t [] h = rw h refl
for-put_other key t (x ∷ xs) h =
    let ih : ticks_for key (put_in t xs) ≡ ticks_for key xs = for-put_other key t xs h in
    elim (cases_Bool (is_up_to t.due t.priority x)) [
      | inl e ↦ rw e (ap (λ l. cond (x.key == key) (x ∷ l) l) ih)
      | inr e ↦ rw (e, h) refl
    ]

-- where a key has no tick, the one that is put in is its only one
pub for-put_same : (key : ℕ) (t : Tick ℕ) (xs : List (Tick ℕ)) → (t.key == key) ≡ true → ticks_for key xs ≡ [] → ticks_for key (put_in t xs) ≡ t ∷ []
for-put_same key t [] h none = rw h refl
for-put_same key t (x ∷ xs) h none = elim (cases_Bool (x.key == key)) [
  | inl e ↦ (let some : x ∷ ticks_for key xs ≡ [] = rw e at none in absurd (cc))
  | inr e ↦
      (let rest : ticks_for key xs ≡ [] = rw e at none in
      let ih : ticks_for key (put_in t xs) ≡ t ∷ [] = for-put_same key t xs h rest in
      elim (cases_Bool (is_up_to t.due t.priority x)) [
        | inl u ↦ rw (u, e) ih
        | inr u ↦ rw (u, h, e) (ap (λ l. t ∷ l) rest)
      ])
]

-- the ticks of each key when the tick of one is added
pub for-with_tick : (key : ℕ) (cell : Cell) (xs : List (Tick ℕ)) (other : ℕ) (old : Cell) → ticks_for key xs ≡ [] → ticks_for other xs ≡ ticks_of other old →
    ticks_for other (with_tick key cell xs) ≡ ticks_of other (cond (other == key) cell old)
for-with_tick key cell xs other old none others = elim (cases_eq other key) [
  | inl e ↦ elim (cases_Bool (waits cell)) [
    | inl w ↦ rw (eq-eqb other key e, w, e) (for-put_same key (tick_of key cell) xs (eq-eqb key key refl) none)
    | inr w ↦ rw (eq-eqb other key e, w, e) none
  ]
  | inr n ↦ elim (cases_Bool (waits cell)) [
    | inl w ↦ rw (ne_eqb other key n, w) (for-put_other other (tick_of key cell) xs (ne_eqb key other (λ e. n (sym e))) ∙ others)
    | inr w ↦ rw (ne_eqb other key n, w) others
  ]
]

-- the ticks of a key are among all
pub among_for : (key : ℕ) (xs : List (Tick ℕ)) (t : Tick ℕ) → Among xs t → t.key ≡ key → Among (ticks_for key xs) t
among_for key [] t a k = absurd a
among_for key (x ∷ xs) t a k = elim a [
  | inl e ↦ (let mine : (x.key == key) ≡ true = eq-eqb x.key key (ap (λ (y : Tick ℕ). y.key) (sym e) ∙ k) in rw mine (inl e))
  | inr b ↦ elim (cases_Bool (x.key == key)) [ inl e ↦ rw e (inr (among_for key xs t b k)) | inr e ↦ rw e (among_for key xs t b k) ]
]

-- the tick that is first stands among those of its key
pub first_for : (time priority key : ℕ) (xs : List (Tick ℕ)) → first_at time priority xs ≡ Some key → Among (ticks_for key xs) (record { due = time; priority = priority; key = key })
first_for time priority key [] h = absurd (cc)
first_for time priority key (x ∷ xs) h = elim (cases_Bool (is_at time priority x)) [
  | inl e ↦
      (let found : Some x.key ≡ Some key = rw e at h in
      let same : x.key ≡ key = cc in
      let parts = and_parts (x.due == time) (x.priority == priority) e in
      let due : x.due ≡ time = eqb-true x.due time parts.0 in
      let rank : x.priority ≡ priority = eqb-true x.priority priority parts.1 in
      rw (eq-eqb x.key key same) (inl (λ i. record { due = sym due i; priority = sym rank i; key = sym same i })))
  | inr e ↦
      (let found : first_at time priority xs ≡ Some key = rw e at h in
      let ih = first_for time priority key xs found in
      elim (cases_Bool (x.key == key)) [ inl k ↦ rw k (inr ih) | inr k ↦ rw k ih ])
]

-- where none is first, a key has no such tick
pub none_for : (time priority key : ℕ) (xs : List (Tick ℕ)) (t : Tick ℕ) → first_at time priority xs ≡ None → Among (ticks_for key xs) t → t.due ≡ time → t.priority ≡ priority → ⊥
none_for time priority key [] t h a d p = a
none_for time priority key (x ∷ xs) t h a d p = elim (cases_Bool (is_at time priority x)) [
  | inl e ↦ (let some : Some x.key ≡ None = rw e at h in absurd (cc))
  | inr e ↦
      (let rest : first_at time priority xs ≡ None = rw e at h in
      elim (cases_Bool (x.key == key)) [
        | inl k ↦
            (let b : Among (x ∷ ticks_for key xs) t = rw k at a in
            elim b [
              | inl s ↦ (let here : is_at time priority x ≡ true = rw (eq-eqb x.due time (ap (λ (y : Tick ℕ). y.due) (sym s) ∙ d), eq-eqb x.priority priority (ap (λ (y : Tick ℕ). y.priority) (sym s) ∙ p)) refl in absurd (false≢true (sym e ∙ here)))
              | inr c ↦ none_for time priority key xs t rest c d p
            ])
        | inr k ↦ (let b : Among (ticks_for key xs) t = rw k at a in none_for time priority key xs t rest b d p)
      ])
]

-- without the first, the ticks of another key stay
pub for-without_other : (time priority key other : ℕ) (xs : List (Tick ℕ)) → first_at time priority xs ≡ Some key → other ≢ key → ticks_for other (without_first_at time priority xs) ≡ ticks_for other xs
for-without_other time priority key other [] h n = refl
for-without_other time priority key other (x ∷ xs) h n = elim (cases_Bool (is_at time priority x)) [
  | inl e ↦
      (let found : Some x.key ≡ Some key = rw e at h in
      let same : x.key ≡ key = cc in
      rw (e, ne_eqb x.key other (λ q. n (sym q ∙ same))) refl)
  | inr e ↦ (let found : first_at time priority xs ≡ Some key = rw e at h in rw e (ap (λ l. cond (x.key == other) (x ∷ l) l) (for-without_other time priority key other xs found n)))
]

-- and its own key, which had that one tick, has none
pub for-without_same : (time priority key : ℕ) (xs : List (Tick ℕ)) (one : Tick ℕ) → first_at time priority xs ≡ Some key → ticks_for key xs ≡ one ∷ [] → ticks_for key (without_first_at time priority xs) ≡ []
for-without_same time priority key [] one h s = absurd (cc)
for-without_same time priority key (x ∷ xs) one h s = elim (cases_Bool (is_at time priority x)) [
  | inl e ↦
      (let found : Some x.key ≡ Some key = rw e at h in
      let same : x.key ≡ key = cc in
      let whole : x ∷ ticks_for key xs ≡ one ∷ [] = rw (eq-eqb x.key key same) at s in
      rw e (cc))
  | inr e ↦
      (let found : first_at time priority xs ≡ Some key = rw e at h in
      elim (cases_Bool (x.key == key)) [
        | inl k ↦
            (let whole : x ∷ ticks_for key xs ≡ one ∷ [] = rw k at s in
            let none : ticks_for key xs ≡ [] = cc in
            absurd (subst (λ l. Among l (record { due = time; priority = priority; key = key })) none (first_for time priority key xs found)))
        | inr k ↦ (let rest : ticks_for key xs ≡ one ∷ [] = rw k at s in rw (e, k) (for-without_same time priority key xs one found rest))
      ])
]

-- a tick of a cell is its pending tick
pub tick_here : (key : ℕ) (cell : Cell) (t : Tick ℕ) → Among (ticks_of key cell) t → (cell.due ≢ 0) × (t ≡ tick_of key cell)
tick_here key cell t a = elim (cases_Bool (waits cell)) [
  | inl w ↦ (let b : Among (tick_of key cell ∷ []) t = rw w at a in (eqb-false cell.due 0 (not-true (cell.due == 0) w), elim b [ inl e ↦ e | inr none ↦ absurd none ]))
  | inr w ↦ (let b : Among [] t = rw w at a in absurd b)
]

pub waits_where : (cell : Cell) → cell.due ≢ 0 → waits cell ≡ true
waits_where cell h = rw (ne_eqb cell.due 0 h) refl

pub tick_there : (key : ℕ) (cell : Cell) → cell.due ≢ 0 → Among (ticks_of key cell) (tick_of key cell)
tick_there key cell h = rw (waits_where cell h) (inl refl)

-- where no cell is due, no tick is
pub none_due : (time : ℕ) (whole xs : List (Tick ℕ)) (cells : List Cell) → ((key : ℕ) → ticks_for key whole ≡ ticks_of key (cell_of cells key)) → ((key : ℕ) → IsNow time (cell_of cells key) → ⊥) →
    ((t : Tick ℕ) → Among xs t → Among whole t) → NoneDueAt time xs
none_due time whole [] cells queued none inside = tt
none_due time whole (x ∷ xs) cells queued none inside = (
  λ due.
      let here = tick_here x.key (cell_of cells x.key) x (subst (λ l. Among l x) (queued x.key) (among_for x.key whole x (inside x (inl refl)) refl)) in
      none x.key (record { waits = here.0; now = ap (λ (y : Tick ℕ). y.due) (sym here.1) ∙ due }),
  none_due time whole xs cells queued none (λ t a. inside t (inr a)),
)

pub in_time_among : (time : ℕ) (xs : List (Tick ℕ)) (t : Tick ℕ) → AllInTime time xs → Among xs t → IsInTime time t
in_time_among time [] t all a = absurd a
in_time_among time (x ∷ xs) t all a = elim a [ inl e ↦ subst (IsInTime time) (sym e) all.0 | inr b ↦ in_time_among time xs t all.1 b ]

pub among_whole : (key : ℕ) (xs : List (Tick ℕ)) (t : Tick ℕ) → Among (ticks_for key xs) t → Among xs t
among_whole key [] t a = a
among_whole key (x ∷ xs) t a = elim (cases_Bool (x.key == key)) [
  | inl k ↦ (let b : Among (x ∷ ticks_for key xs) t = rw k at a in elim b [ inl e ↦ inl e | inr c ↦ inr (among_whole key xs t c) ])
  | inr k ↦ (let b : Among (ticks_for key xs) t = rw k at a in inr (among_whole key xs t b))
]

-- ---- the invariant after each change

pub length-set : (cells : List Cell) (key : ℕ) (cell : Cell) → length (set cells key cell) ≡ length cells
length-set [] key cell = refl
length-set (x ∷ cells) zero cell = refl
length-set (x ∷ cells) (suc key) cell = ap suc (length-set cells key cell)

pub cell-set : (cells : List Cell) (key other : ℕ) (cell : Cell) → key < length cells → cell_of (set cells key cell) other ≡ cond (other == key) cell (cell_of cells other)
cell-set cells key other cell inside = elim (cases_eq other key) [
  | inl e ↦ rw (eq-eqb other key e, e) (get_or-set_same cells key cell nothing inside)
  | inr n ↦ rw (ne_eqb other key n) (get_or-set_other cells key other cell nothing n)
]

abbrev one_if : Cell → ℕ
one_if cell = cond (waits cell) 1 0

waits-set : (cells : List Cell) (key : ℕ) (cell : Cell) → key < length cells → count_by waits (set cells key cell) + one_if (cell_of cells key) ≡ count_by waits cells + one_if cell
waits-set cells key cell inside = sum_by-set one_if cells key cell nothing inside

rests_where : (cell : Cell) → cell.due ≡ 0 → waits cell ≡ false
rests_where cell h = rw (eq-eqb cell.due 0 h) refl

-- where a key has no pending tick, there is room for one
pub room_for : (ticks : List (Tick ℕ)) (spare : ℕ) (cells : List Cell) (key : ℕ) → IsHeld ticks spare cells → key < length cells → (cell_of cells key).due ≡ 0 → 0 < spare
room_for ticks spare cells key held inside none =
    let full : Cell = record { value = 0; due = 1; priority = 0 } in
    let more : count_by waits (set cells key full) + 0 ≡ count_by waits cells + 1 = subst (λ b. count_by waits (set cells key full) + cond b 1 0 ≡ count_by waits cells + 1) (rests_where (cell_of cells key) none) (waits-set cells key full inside) in
    omega (arith, more, count_by-le-length waits (set cells key full), length-set cells key full, held.room)

pub held_more : (ticks left : List (Tick ℕ)) (spare room : ℕ) (cells : List Cell) (key : ℕ) (cell : Cell) → IsHeld ticks spare cells → key < length cells → (cell_of cells key).due ≡ 0 →
    left ≡ with_tick key cell ticks → room + one_if cell ≡ spare → IsHeld left room (set cells key cell)
held_more ticks left spare room cells key cell held inside none added used = record {
  queued = λ other. ap (ticks_for other) added ∙ for-with_tick key cell ticks other (cell_of cells other) empty (held.queued other) ∙ ap (ticks_of other) (sym (cell-set cells key other cell inside));
  room =
      (let counted : count_by waits (set cells key cell) + 0 ≡ count_by waits cells + one_if cell = subst (λ b. count_by waits (set cells key cell) + cond b 1 0 ≡ count_by waits cells + one_if cell) (rests_where (cell_of cells key) none) (waits-set cells key cell inside) in
      omega (arith, counted, length-set cells key cell, held.room, used));
  few = omega (arith, length-set cells key cell, held.few);
}
  where
    empty : ticks_for key ticks ≡ []
    empty = held.queued key ∙ rw (rests_where (cell_of cells key) none) refl

ticks-same : (key : ℕ) (old new : Cell) → new.due ≡ old.due → new.priority ≡ old.priority → ticks_of key old ≡ ticks_of key new
ticks-same key old new due priority = λ i. ticks_of key (record { value = 0; due = sym due i; priority = sym priority i })

pub held_same : (ticks : List (Tick ℕ)) (spare : ℕ) (cells : List Cell) (key : ℕ) (cell : Cell) → IsHeld ticks spare cells → key < length cells →
    cell.due ≡ (cell_of cells key).due → cell.priority ≡ (cell_of cells key).priority → IsHeld ticks spare (set cells key cell)
held_same ticks spare cells key cell held inside due priority = record {
  queued = λ other. elim (cases_eq other key) [
    | inl e ↦ subst (λ k. ticks_for k ticks ≡ ticks_of k (cell_of (set cells key cell) k)) (sym e)
        (held.queued key ∙ ticks-same key (cell_of cells key) cell due priority ∙ ap (ticks_of key) (sym (get_or-set_same cells key cell nothing inside)))
    | inr n ↦ held.queued other ∙ ap (ticks_of other) (sym (get_or-set_other cells key other cell nothing n))
  ];
  room =
      (let alike : waits cell ≡ waits (cell_of cells key) = ap (λ (n : ℕ). not (n == 0)) due in
      let counted = waits-set cells key cell inside in
      let ones : one_if cell ≡ one_if (cell_of cells key) = ap (λ b. cond b 1 0) alike in
      omega (arith, counted, ones, length-set cells key cell, held.room));
  few = omega (arith, length-set cells key cell, held.few);
}

-- what is taken out of the queue is due
pub first_is_now : (time : ℕ) (ticks left : List (Tick ℕ)) (spare room key : ℕ) (cells : List Cell) → IsHeld ticks spare cells → (t : TakesOne time ticks spare key left room) →
    IsNow time (cell_of cells key) × ((cell_of cells key).priority ≡ t.priority)
first_is_now time ticks left spare room key cells held t =
    let here = tick_here key (cell_of cells key) (record { due = time; priority = t.priority; key = key }) (subst (λ l. Among l (record { due = time; priority = t.priority; key = key })) (held.queued key) (first_for time t.priority key ticks t.first)) in
    (record { waits = here.0; now = ap (λ (y : Tick ℕ). y.due) (sym here.1) }, ap (λ (y : Tick ℕ). y.priority) (sym here.1))

pub past_cells : (cells : List Cell) (key : ℕ) → length cells ≤ key → cell_of cells key ≡ nothing
past_cells [] key h = refl
past_cells (x ∷ cells) zero h = absurd (omega arith)
past_cells (x ∷ cells) (suc key) h = past_cells cells key (omega arith)

pub inside_where : (cells : List Cell) (key : ℕ) → (cell_of cells key).due ≢ 0 → key < length cells
inside_where cells key w = elim (cases_lt key (length cells)) [ inl h ↦ h | inr h ↦ absurd (w (ap (λ (c : Cell). c.due) (past_cells cells key h))) ]

priority_le : (time : ℕ) (ticks : List (Tick ℕ)) (spare : ℕ) (cells : List Cell) → IsHeld ticks spare cells → AllInTime time ticks → (key : ℕ) → IsNow time (cell_of cells key) → (cell_of cells key).priority ≤ 3
priority_le time ticks spare cells held all key now =
    (in_time_among time ticks (tick_of key (cell_of cells key)) all (among_whole key ticks _ (subst (λ l. Among l (tick_of key (cell_of cells key))) (sym (held.queued key)) (tick_there key (cell_of cells key) now.waits)))).2

not_none : (time : ℕ) (ticks : List (Tick ℕ)) (spare : ℕ) (cells : List Cell) → IsHeld ticks spare cells → (key : ℕ) → IsNow time (cell_of cells key) → first_at time (cell_of cells key).priority ticks ≡ None → ⊥
not_none time ticks spare cells held key now none =
    none_for time (cell_of cells key).priority key ticks (tick_of key (cell_of cells key)) none
    (subst (λ l. Among l (tick_of key (cell_of cells key))) (sym (held.queued key)) (tick_there key (cell_of cells key) now.waits)) now.now refl

pub takes_first : (time : ℕ) (ticks left : List (Tick ℕ)) (spare room key : ℕ) (cells : List Cell) → IsHeld ticks spare cells → TakesOne time ticks spare key left room →
    IsFirst (record { time = time; cells = cells }) key
takes_first time ticks left spare room key cells held t =
    let first = first_is_now time ticks left spare room key cells held t in
    record {
      inside = inside_where cells key first.0.waits;
      due = first.0;
      least = λ other now. elim (cases_lt (cell_of cells other).priority t.priority) [
        | inl low ↦ absurd (not_none time ticks spare cells held other now (t.earlier (cell_of cells other).priority low))
        | inr high ↦ subst (λ n. n ≤ (cell_of cells other).priority) (sym first.1) high
      ];
    }

pub none_now : (time : ℕ) (ticks : List (Tick ℕ)) (spare : ℕ) (cells : List Cell) → IsHeld ticks spare cells → AllInTime time ticks → ((priority : ℕ) → priority ≤ 3 → first_at time priority ticks ≡ None) →
    (key : ℕ) → IsNow time (cell_of cells key) → ⊥
none_now time ticks spare cells held all none key now = not_none time ticks spare cells held key now (none (cell_of cells key).priority (priority_le time ticks spare cells held all key now))

pub held_taken : (time : ℕ) (ticks left : List (Tick ℕ)) (spare room key : ℕ) (cells : List Cell) (cell : Cell) → IsHeld ticks spare cells → TakesOne time ticks spare key left room → cell.due ≡ 0 →
    IsHeld left room (set cells key cell)
held_taken time ticks left spare room key cells cell held t none = record {
  queued = λ other. elim (cases_eq other key) [
    | inl e ↦ subst (λ k. ticks_for k left ≡ ticks_of k (cell_of (set cells key cell) k)) (sym e)
        (ap (ticks_for key) t.rest ∙ for-without_same time t.priority key ticks (tick_of key (cell_of cells key)) t.first (held.queued key ∙ one) ∙ sym (ap (ticks_of key) (get_or-set_same cells key cell nothing inside) ∙ empty))
    | inr n ↦ ap (ticks_for other) t.rest ∙ for-without_other time t.priority key other ticks t.first n ∙ held.queued other ∙ ap (ticks_of other) (sym (get_or-set_other cells key other cell nothing n))
  ];
  room =
      (let counted : count_by waits (set cells key cell) + 1 ≡ count_by waits cells + 0 =
      subst (λ b. count_by waits (set cells key cell) + 1 ≡ count_by waits cells + cond b 1 0) (rests_where cell none)
      (subst (λ b. count_by waits (set cells key cell) + cond b 1 0 ≡ count_by waits cells + one_if cell) (waits_where (cell_of cells key) now.waits) (waits-set cells key cell inside)) in
      omega (arith, counted, length-set cells key cell, held.room, t.grows));
  few = omega (arith, length-set cells key cell, held.few);
}
  where
    now : IsNow time (cell_of cells key)
    now = (first_is_now time ticks left spare room key cells held t).0

    inside : key < length cells
    inside = inside_where cells key now.waits

    one : ticks_of key (cell_of cells key) ≡ tick_of key (cell_of cells key) ∷ []
    one = rw (waits_where (cell_of cells key) now.waits) refl

    empty : ticks_of key cell ≡ []
    empty = rw (rests_where cell none) refl

-- a pending tick is due within 15 ticks of time
pub due_soon : (time : ℕ) (ticks : List (Tick ℕ)) (spare : ℕ) (cells : List Cell) → IsHeld ticks spare cells → AllInTime time ticks → (key : ℕ) → (cell_of cells key).due ≢ 0 →
    (time ≤ (cell_of cells key).due) × ((cell_of cells key).due ≤ time + 15)
due_soon time ticks spare cells held all key w =
    let t = in_time_among time ticks (tick_of key (cell_of cells key)) all (among_whole key ticks _ (subst (λ l. Among l (tick_of key (cell_of cells key))) (sym (held.queued key)) (tick_there key (cell_of cells key) w))) in
    (t.0, t.1)

cell-take : (cells : List Cell) (n key : ℕ) → n < length cells → cell_of (take (n + 1) cells) key ≡ cond (key == n) (cell_of cells n) (cell_of (take n cells) key)
cell-take cells n key h = elim (cases_eq key n) [
  | inl e ↦ rw (eq-eqb key n e, e) (get_or-take (n + 1) cells n nothing (omega arith))
  | inr apart ↦ elim (cases_lt key n) [
    | inl low ↦ rw (ne_eqb key n apart) (get_or-take (n + 1) cells key nothing (omega arith) ∙ sym (get_or-take n cells key nothing low))
    | inr high ↦ rw (ne_eqb key n apart) (past_cells (take (n + 1) cells) key (omega (arith, length-take (n + 1) cells)) ∙ sym (past_cells (take n cells) key (omega (arith, length-take n cells))))
  ]
]

pub same_default : {A : Type 0} (xs : List A) (n : ℕ) (a b : A) → n < length xs → get_or xs n a ≡ get_or xs n b
same_default [] n a b h = absurd (omega arith)
same_default (x ∷ xs) zero a b h = refl
same_default (x ∷ xs) (suc n) a b h = same_default xs n a b (omega arith)

-- where the ticks of the keys so far are queued, and that of one more is added
pub queued_more : (ticks left : List (Tick ℕ)) (cells : List Cell) (n : ℕ) (cell : Cell) → n < length cells → cell ≡ get_or cells n cell →
    ((key : ℕ) → ticks_for key ticks ≡ ticks_of key (cell_of (take n cells) key)) → left ≡ with_tick n cell ticks → (key : ℕ) → ticks_for key left ≡ ticks_of key (cell_of (take (n + 1) cells) key)
queued_more ticks left cells n cell inside item queued added key =
    ap (ticks_for key) added ∙ for-with_tick n cell ticks key (cell_of (take n cells) key) (queued n ∙ ap (ticks_of n) (past_cells (take n cells) n (omega (arith, length-take n cells)))) (queued key)
    ∙ ap (λ (x : Cell). ticks_of key (cond (key == n) x (cell_of (take n cells) key))) (item ∙ same_default cells n cell nothing inside) ∙ ap (ticks_of key) (sym (cell-take cells n key inside))

pub room_more : (cells : List Cell) (n spare room : ℕ) (cell : Cell) → n < length cells → cell ≡ get_or cells n cell → length cells ≤ spare + count_by waits (take n cells) → room + one_if cell ≡ spare →
    length cells ≤ room + count_by waits (take (n + 1) cells)
room_more cells n spare room cell inside item enough used =
    let counted : count_by waits (take (n + 1) cells) ≡ count_by waits (take n cells) + one_if (get_or cells n cell) = sum_by_more one_if cells n cell inside in
    let same : one_if cell ≡ one_if (get_or cells n cell) = ap one_if item in
    omega (arith, counted, same, enough, used)

-- where nothing is due now, what is pending is due in 1 to 15 ticks of time
pub left_range : (o : Option Wait) (time : ℕ) (cell : Cell) → o ≡ wait_of time cell → IfSome o (λ w. (time ≤ cell.due) × (w.left ≤ 15)) → (IsNow time cell → ⊥) → IfSome o (λ w. (1 ≤ w.left) × (w.left ≤ 15))
left_range None time cell e soon none = tt
left_range (Some w) time cell e soon none = elim (cases_Bool (waits cell)) [
  | inl yes_waits ↦
      (let is : Some w ≡ Some (record { left = cell.due - time; priority = cell.priority }) = e ∙ rw yes_waits refl in
      let some : w ≡ record { left = cell.due - time; priority = cell.priority } = cc in
      let left : w.left ≡ cell.due - time = ap (λ (v : Wait). v.left) some in
      let due : cell.due ≢ 0 = eqb-false cell.due 0 (not-true (cell.due == 0) yes_waits) in
      let apart : cell.due ≢ time = λ now. none (record { waits = due; now = now }) in
      (omega (arith, left, apart, soon.0), soon.1))
  | inr no_waits ↦ (let is : Some w ≡ None = e ∙ rw no_waits refl in absurd (cc))
]
