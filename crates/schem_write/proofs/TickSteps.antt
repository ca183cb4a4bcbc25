-- Pending ticks, written and read back.
use Rattle.std.proofs.Common.{◌≡◌, ◌≢◌, ℕ, ◌+◌, ◌*◌, ◌^◌, ◌<◌, ◌≤◌, List, [], ◌∷◌, ◌++◌, map, length, Bool, true, false, Some, None, refl, sym, ap, ◌∙◌, arith, inl, inr}
use Rattle.std.specs.Prelude.{nat_eq, nat_le, nat_lt, not, ◌&&◌}
use Rattle.std.specs.List.{AllByRecursion, filter_map, flat_map, IsDistinct, list_any, list_all}
use Rattle.std.proofs.lemmas.Bool.{cases_Bool, and_parts, eqb-true}
use Rattle.std.proofs.lemmas.Bool.Decides.{nat_tests}
use Rattle.std.proofs.lemmas.List.{length-map}
use Rattle.std.proofs.lemmas.List.Folds.{list_any-append}
use Rattle.std.proofs.lemmas.Map.Steps.{length-le_from_distinct_below}
use Rattle.circuit.specs.declared.Pos.{Pos}
use Rattle.block_table.specs.declared.Block.TheVariants.{Air}
use Rattle.build.specs.declared.Pending.{Pending}
use Rattle.build.specs.Place.{same_place}
use Rattle.build.specs.SamePlace.{same_place_either}
use Rattle.build.specs.Plan.{Plan, IsWhole, volume, in_box, cell_of, block_at, is_ticking, is_timely, is_pending, is_once, may_wait}
use Rattle.build.specs.Places.{inside, cell_below, cells_apart, in_box-not_outside}
use Rattle.schematic.specs.PendingTicks.{fives, tick_of, fault_after, pending_fault, ticks_of}
use Rattle.schem_write.specs.Written.{tick_numbers}

pub negated : (b : Bool) → not b ≡ true → b ≡ false
negated true h = absurd (cc)
negated false h = refl

-- what is known of each pending tick
pub record Waits (b : Plan) (t : Pending) : Type 0 where
  pub ticking : is_ticking (block_at b t.pos) ≡ true
  pub timely : is_timely t ≡ true
  pub inside : in_box b t.pos ≡ true

pub all-wait : (b : Plan) (ticks : List Pending) → list_all (may_wait b) ticks ≡ true → AllByRecursion (Waits b) ticks
all-wait b [] h = tt
all-wait b (t ∷ ticks) h =
    let parts = and_parts (may_wait b t) (list_all (may_wait b) ticks) h in
    let two = and_parts (is_ticking (block_at b t.pos)) (is_timely t) parts.0 in
    (record { ticking = two.0; timely = two.1; inside = in_box-not_outside b b.blocks Air is_ticking t.pos refl two.0 }, all-wait b ticks parts.1)

-- ---- how many they are

abbrev IsApart : Pending → Pending → Type 0
IsApart t u = same_place u.pos t.pos ≡ false

all-apart : (t : Pending) (ticks : List Pending) → is_pending ticks t.pos ≡ false → AllByRecursion (IsApart t) ticks
all-apart t [] h = tt
all-apart t (u ∷ ticks) h = elim (cases_Bool (same_place u.pos t.pos)) [
  | inl e ↦ absurd (let k : true ≡ false = rw e at h in cc)
  | inr e ↦ (e, all-apart t ticks (rw e at h))
]

abbrev cell : Plan → Pending → ℕ
cell b t = cell_of b t.pos

differ : (m n : ℕ) → m ≢ n → nat_eq m n ≡ false
differ m n h = elim (cases_Bool (nat_eq m n)) [ inl e ↦ absurd (h (eqb-true m n e)) | inr e ↦ e ]

cells-apart : (b : Plan) (t : Pending) (ticks : List Pending) → in_box b t.pos ≡ true → AllByRecursion (Waits b) ticks → AllByRecursion (IsApart t) ticks → AllByRecursion (λ n. nat_eq (cell b t) n ≡ false) (map (cell b) ticks)
cells-apart b t [] h w a = tt
cells-apart b t (u ∷ ticks) h w a =
    (differ (cell b t) (cell b u) (λ e. cells_apart b t.pos u.pos h w.0.inside a.0 (sym e)), cells-apart b t ticks h w.1 a.1)

cells-distinct : (b : Plan) (ticks : List Pending) → AllByRecursion (Waits b) ticks → is_once ticks ≡ true → IsDistinct nat_eq (map (cell b) ticks)
unfolding IsDistinct
cells-distinct b [] w h = tt
cells-distinct b (t ∷ ticks) w h =
    let parts = and_parts (not (is_pending ticks t.pos)) (is_once ticks) h in
    (cells-apart b t ticks w.0.inside w.1 (all-apart t ticks (negated (is_pending ticks t.pos) parts.0)), cells-distinct b ticks w.1 parts.1)

cells-below : (b : Plan) (ticks : List Pending) → AllByRecursion (Waits b) ticks → (q : ℕ) → list_any (nat_eq q) (map (cell b) ticks) ≡ true → q < volume b
cells-below b [] w q h = absurd (cc)
cells-below b (t ∷ ticks) w q h = elim (cases_Bool (nat_eq q (cell b t))) [
  | inl e ↦ (let same : q ≡ cell b t = eqb-true q (cell b t) e in omega (arith, same, cell_below b t.pos (inside b t.pos w.0.inside)))
  | inr e ↦ cells-below b ticks w.1 q (rw e at h)
]

pub few-ticks : (b : Plan) → IsWhole b → length b.pending ≤ 2 ^ 24
few-ticks b w =
    let waits : AllByRecursion (Waits b) b.pending = all-wait b b.pending w.waiting in
    let few : length (map (cell b) b.pending) ≤ volume b = length-le_from_distinct_below (map (cell b) b.pending) (volume b) (cells-distinct b b.pending waits w.once) (cells-below b b.pending waits) in
    omega (arith, few, length-map b.pending (cell b), w.small)

pub length-numbers : (ticks : List Pending) → length (flat_map tick_numbers ticks) ≡ 5 * length ticks
length-numbers [] = refl
length-numbers (t ∷ ticks) = omega (arith, length-numbers ticks)

-- ---- read back

pub fives-back : (ticks : List Pending) → fives (flat_map tick_numbers ticks) ≡ map tick_numbers ticks
fives-back [] = refl
fives-back (t ∷ ticks) = ap (λ gs. tick_numbers t ∷ gs) (fives-back ticks)

pub record Timely (t : Pending) : Type 0 where
  pub first : 1 ≤ t.due
  pub last : t.due ≤ 15
  pub low : t.priority ≤ 3

pub timely-parts : (t : Pending) → is_timely t ≡ true → Timely t
timely-parts t h =
    let two = and_parts (nat_lt 0 t.due && nat_le t.due 15) (nat_le t.priority 3) h in
    let one = and_parts (nat_lt 0 t.due) (nat_le t.due 15) two.0 in
    let a : nat_lt 0 t.due ≡ true = one.0 in
    let b : nat_le t.due 15 ≡ true = one.1 in
    let c : nat_le t.priority 3 ≡ true = two.1 in
    record { first = grind (arith, nat_tests, a); last = grind (arith, nat_tests, b); low = grind (arith, nat_tests, c) }

pub tick-back : (t : Pending) → is_timely t ≡ true → tick_of (tick_numbers t) ≡ Some t
tick-back t h =
    let p = timely-parts t h in
    let first : nat_le 1 t.due ≡ true = grind (arith, nat_tests, p.first) in
    let last : nat_le t.due 15 ≡ true = grind (arith, nat_tests, p.last) in
    let low : nat_le t.priority 3 ≡ true = grind (arith, nat_tests, p.low) in
    let none : nat_le 0 t.priority ≡ true = grind (arith, nat_tests) in
    rw (first, last, none, low) refl

pub ticks-back : (b : Plan) (ticks : List Pending) → AllByRecursion (Waits b) ticks → ticks_of (flat_map tick_numbers ticks) ≡ ticks
unfolding ticks_of
ticks-back b ticks w = ap (filter_map tick_of) (fives-back ticks) ∙ back ticks w
  where
    back : (ts : List Pending) → AllByRecursion (Waits b) ts → filter_map tick_of (map tick_numbers ts) ≡ ts
    back [] v = refl
    back (t ∷ ts) v = rw (tick-back t v.0.timely) (ap (λ us. t ∷ us) (back ts v.1))

abbrev IsFree : List Pending → Pending → Type 0
IsFree before t = is_pending before t.pos ≡ false

still-free : (before : List Pending) (t : Pending) (ticks : List Pending) → AllByRecursion (IsFree before) ticks → AllByRecursion (IsApart t) ticks → AllByRecursion (IsFree (before ++ t ∷ [])) ticks
still-free before t [] f a = tt
still-free before t (u ∷ ticks) f a =
    let behind : same_place t.pos u.pos ≡ false = same_place_either t.pos u.pos ∙ a.0 in
    (list_any-append (λ (tick : Pending). same_place tick.pos u.pos) before (t ∷ []) ∙ rw (f.0, behind) refl, still-free before t ticks f.1 a.1)

no-fault : (b c : Plan) (n : ℕ) (before ticks : List Pending) → ((p : Pos) → block_at c p ≡ block_at b p) → AllByRecursion (Waits b) ticks → is_once ticks ≡ true → AllByRecursion (IsFree before) ticks →
    fault_after c n before (map tick_numbers ticks) ≡ None
no-fault b c n before [] s w o f = refl
no-fault b c n before (t ∷ ticks) s w o f =
    let parts = and_parts (not (is_pending ticks t.pos)) (is_once ticks) o in
    let ticking : is_ticking (block_at c t.pos) ≡ true = ap is_ticking (s t.pos) ∙ w.0.ticking in
    let free : is_pending before t.pos ≡ false = f.0 in
    rw (tick-back t w.0.timely, ticking, free)
    (no-fault b c (n + 1) (before ++ t ∷ []) ticks s w.1 parts.1 (still-free before t ticks f.1 (all-apart t ticks (negated (is_pending ticks t.pos) parts.0))))

all-free : (ticks : List Pending) → AllByRecursion (IsFree []) ticks
all-free [] = tt
all-free (t ∷ ticks) = (refl, all-free ticks)

pub no-pending_fault : (b c : Plan) → ((p : Pos) → block_at c p ≡ block_at b p) → IsWhole b → pending_fault c (flat_map tick_numbers b.pending) ≡ None
unfolding pending_fault
no-pending_fault b c s w =
    ap (fault_after c 0 []) (fives-back b.pending) ∙ no-fault b c 0 [] b.pending s (all-wait b b.pending w.waiting) w.once (all-free b.pending)
