-- The blocks, the levels and the ticks that are given, one cell after another.
use Rattle.std.proofs.Common.{◌≡◌, ◌≢◌, ℕ, zero, suc, ◌+◌, ◌<◌, ◌≤◌, Bool, true, false, ◌||◌, List, [], ◌∷◌, ◌++◌, length, set, get_or, map, append-nil, Option, Some, None, refl, sym, ap, ap₂, ◌∙◌, subst, arith, inl, inr}
use Rattle.std.specs.Prelude.{nat_lt, nat_le, ◌==◌, ◌&&◌, replicate, All, IsTrue}
use Rattle.std.specs.List.{range_with_len, filter_map, list_any}
use Rattle.std.proofs.lemmas.Bool.{cases_eq, cases_Bool, lt-ltb, le-ltb, ltb-true, ltb-false, eqb-true}
use Rattle.std.proofs.lemmas.List.{length-set, length-replicate, get_or-replicate, get_or-set_same, get_or-set_other}
use Rattle.std.proofs.lemmas.List.Elements.{filter_map-append, All-push}
use Rattle.std.proofs.lemmas.List.Folds.{list_any-append}
use Rattle.std.proofs.lemmas.List.FromFn.{get_or-map-range_with_len, length-map-range_with_len, map-range_with_len_more, fill_by_all}
use Rattle.block_table.specs.declared.Block.{Block}
use Rattle.block_table.specs.WrittenText.{is_listed}
use Rattle.block_table.specs.declared.Block.TheVariants.{Air, Comparator}
use Rattle.circuit.specs.declared.Pos.{Pos}
use Rattle.build.specs.declared.Pending.{Pending}
use Rattle.build.specs.Place.{same_place}
use Rattle.build.specs.SamePlace.{places_apart}
use Rattle.build.specs.Places.{cell-place, entry-place, entry-same_box}
use Rattle.build.specs.Edits.{is_comparator, is_container, with_level, with_pending}
use Rattle.build.specs.Plan.{Plan, IsWhole, volume, entry, block_at, place_of, cell_of, has_level, level_fits, is_pending, is_ticking, is_timely, may_wait}
use Rattle.cell_queue.specs.declared.cells.Wait.{Wait}
use Rattle.handover.specs.declared.held.Held.{Held}
use Rattle.handover.specs.GivenBack.{with_value, given_block, given_level, given_tick, waiting_for}
use Rattle.handover.specs.HeldByCell.{in_cell, block_by, with_blocks_by, level_by, level_to, with_levels_to, with_levels_by, with_level_if, tick_by, ticks_to, with_ticks_to, with_tick}

-- ---- the blocks

pub blocks_more : (b : Plan) (held : List (Option Held)) (i : ℕ) (blocks : List Block) (block : Block) → blocks ≡ map (block_by b held) (range_with_len 0 i) → block ≡ block_by b held i →
    blocks ++ block ∷ [] ≡ map (block_by b held) (range_with_len 0 (i + 1))
blocks_more b held i blocks block before here = ap₂ (λ (front : List Block) (last : Block). front ++ last ∷ []) before here ∙ sym (map-range_with_len_more (block_by b held) 0 i i (omega arith))

-- each block of the list is so, and so is one more
pub all_more : (blocks more : List Block) (block : Block) → more ≡ blocks ++ block ∷ [] → All (λ one. IsTrue (is_listed one)) blocks → IsTrue (is_listed block) → All (λ one. IsTrue (is_listed one)) more
all_more blocks more block e all one = subst (All (λ k. IsTrue (is_listed k))) (sym e) (All-push (λ k. IsTrue (is_listed k)) blocks block all one)

-- ---- the levels

pub levels_to-none : (b : Plan) (held : List (Option Held)) → with_blocks_by b held ≡ with_levels_to b held 0
levels_to-none b held =
    ap (λ (levels : List ℕ). record (with_blocks_by b held) { levels = levels })
    (fill_by_all (level_to b held 0) (replicate (volume b) 0) (volume b) 0 (length-replicate (volume b) 0)
    (λ k h. get_or-replicate (volume b) k 0 0 h ∙ sym (rw (le-ltb k 0 (omega arith)) refl)))

pub levels_to-all : (b : Plan) (held : List (Option Held)) (i : ℕ) → i ≡ volume b → with_levels_to b held i ≡ with_levels_by b held
levels_to-all b held i e =
    ap (λ (levels : List ℕ). record (with_blocks_by b held) { levels = levels })
    (fill_by_all (level_by b held) (map (level_to b held i) (range_with_len 0 (volume b))) (volume b) 0 (length-map-range_with_len (level_to b held i) 0 (volume b))
    (λ k h. get_or-map-range_with_len (level_to b held i) 0 (volume b) k k 0 h (omega arith) ∙ rw (lt-ltb k i (omega arith)) refl))

-- where the block has no level, none is given
given_level-without : (held : Option Held) (block : Block) (level : ℕ) → has_level block ≡ false → given_level held block level ≡ level
given_level-without held (Comparator facing subtract) level h = absurd (cc)
given_level-without held _ level h = refl

fits-without : (block : Block) (level : ℕ) → has_level block ≡ false → level_fits block level ≡ true → level ≡ 0
fits-without block level none fits = eqb-true level 0 (by_zero (level == 0) (has_level block) none fits)
  where
    by_zero : (zero has : Bool) → has ≡ false → (zero || (has && nat_le level 15)) ≡ true → zero ≡ true
    by_zero true has h e = refl
    by_zero false true h e = absurd (cc)
    by_zero false false h e = e

level_by-without : (b : Plan) → IsWhole b → (held : List (Option Held)) (i : ℕ) → has_level (block_at b (place_of b i)) ≡ false → level_by b held i ≡ 0
level_by-without b whole held i none =
    given_level-without (in_cell held i) (block_at b (place_of b i)) (entry b b.levels 0 (place_of b i)) none
    ∙ fits-without (block_at b (place_of b i)) (entry b b.levels 0 (place_of b i)) none (whole.fitting (place_of b i))

-- every other level stays
level_to-other : (b : Plan) (held : List (Option Held)) (i k : ℕ) → k ≢ i → level_to b held i k ≡ level_to b held (i + 1) k
level_to-other b held i k n = elim (cases_Bool (nat_lt k i)) [
  | inl h ↦ (let low : k < i = ltb-true k i h in rw (h, lt-ltb k (i + 1) (omega arith)) refl)
  | inr h ↦ (let high : i ≤ k = ltb-false k i h in rw (h, le-ltb k (i + 1) (omega arith)) refl)
]

level_to-here : (b : Plan) (held : List (Option Held)) (i k : ℕ) → k ≡ i → level_to b held (i + 1) k ≡ level_by b held i
level_to-here b held i k e = rw (lt-ltb k (i + 1) (omega arith)) (ap (level_by b held) e)

level_to-past : (b : Plan) (held : List (Option Held)) (i k : ℕ) → k ≡ i → level_to b held i k ≡ 0
level_to-past b held i k e = rw (le-ltb k i (omega arith)) refl

levels-set : (b : Plan) (held : List (Option Held)) (i : ℕ) → i < volume b →
    set (map (level_to b held i) (range_with_len 0 (volume b))) i (level_by b held i) ≡ map (level_to b held (i + 1)) (range_with_len 0 (volume b))
levels-set b held i h =
    fill_by_all (level_to b held (i + 1)) (set xs i (level_by b held i)) (volume b) 0 (length-set xs i (level_by b held i) ∙ long)
    (λ k low. elim (cases_eq k i) [
      | inl e ↦ ap (λ (j : ℕ). get_or (set xs i (level_by b held i)) j 0) e ∙ get_or-set_same xs i (level_by b held i) 0 (omega (arith, long)) ∙ sym (level_to-here b held i k e)
      | inr n ↦ get_or-set_other xs i k (level_by b held i) 0 n ∙ get_or-map-range_with_len (level_to b held i) 0 (volume b) k k 0 low (omega arith) ∙ level_to-other b held i k n
    ])
  where
    xs : List ℕ
    xs = map (level_to b held i) (range_with_len 0 (volume b))

    long : length xs ≡ volume b
    long = length-map-range_with_len (level_to b held i) 0 (volume b)

levels-same : (b : Plan) (held : List (Option Held)) (i : ℕ) → level_by b held i ≡ 0 →
    map (level_to b held i) (range_with_len 0 (volume b)) ≡ map (level_to b held (i + 1)) (range_with_len 0 (volume b))
levels-same b held i zero_here =
    fill_by_all (level_to b held (i + 1)) (map (level_to b held i) (range_with_len 0 (volume b))) (volume b) 0 (length-map-range_with_len (level_to b held i) 0 (volume b))
    (λ k low. get_or-map-range_with_len (level_to b held i) 0 (volume b) k k 0 low (omega arith) ∙ elim (cases_eq k i) [
      | inl e ↦ level_to-past b held i k e ∙ sym zero_here ∙ sym (level_to-here b held i k e)
      | inr n ↦ level_to-other b held i k n
    ])

-- one level more
pub levels_to-more : (b : Plan) → IsWhole b → (held : List (Option Held)) (i : ℕ) → i < volume b →
    with_level_if (has_level (block_at b (place_of b i))) (with_levels_to b held i) (place_of b i) (level_by b held i) ≡ with_levels_to b held (i + 1)
unfolding with_level
levels_to-more b whole held i h = by_level (has_level (block_at b (place_of b i))) refl
  where
    by_level : (has : Bool) → has_level (block_at b (place_of b i)) ≡ has → with_level_if has (with_levels_to b held i) (place_of b i) (level_by b held i) ≡ with_levels_to b held (i + 1)
    by_level true e =
        ap (λ (levels : List ℕ). record (with_blocks_by b held) { levels = levels })
        (ap (λ (cell : ℕ). set (map (level_to b held i) (range_with_len 0 (volume b))) cell (level_by b held i)) (cell-place b i) ∙ levels-set b held i h)
    by_level false e = ap (λ (levels : List ℕ). record (with_blocks_by b held) { levels = levels }) (levels-same b held i (level_by-without b whole held i e))

-- what stands in a cell of the new build
pub block_by-there : (b now : Plan) (held : List (Option Held)) (i : ℕ) → i < volume b → now.width ≡ b.width → now.height ≡ b.height → now.depth ≡ b.depth → now.blocks ≡ map (block_by b held) (range_with_len 0 (volume b)) →
    block_at now (place_of b i) ≡ block_by b held i
block_by-there b now held i h width height depth blocks =
    ap (λ (all : List Block). entry now all Air (place_of b i)) blocks
    ∙ entry-same_box b now (map (block_by b held) (range_with_len 0 (volume b))) Air (place_of b i) width height depth
    ∙ entry-place b (map (block_by b held) (range_with_len 0 (volume b))) Air i h
    ∙ get_or-map-range_with_len (block_by b held) 0 (volume b) i i Air h (omega arith)

pub comparator-given : (held : Option Held) (block : Block) → is_comparator (given_block held block) ≡ is_comparator block
comparator-given None block = refl
comparator-given (Some held) block = by_block held.value block
  where
    by_block : (value : ℕ) (block : Block) → is_comparator (with_value value block) ≡ is_comparator block
    by_block value (Comparator facing subtract) = refl
    by_block value _ = refl

pub container-given : (held : Option Held) (block : Block) → is_container (given_block held block) ≡ is_container block
container-given None block = refl
container-given (Some held) block = by_block held.value block
  where
    by_block : (value : ℕ) (block : Block) → is_container (with_value value block) ≡ is_container block
    by_block value (Comparator facing subtract) = refl
    by_block value _ = refl

-- ---- the ticks

ticks_to-more : (b : Plan) (held : List (Option Held)) (i : ℕ) → ticks_to b held (i + 1) ≡ ticks_to b held i ++ filter_map (λ (tick : Option Pending). tick) (tick_by b held i ∷ [])
ticks_to-more b held i =
    ap (filter_map (λ (tick : Option Pending). tick)) (map-range_with_len_more (tick_by b held) 0 i i (omega arith))
    ∙ filter_map-append (λ (tick : Option Pending). tick) (map (tick_by b held) (range_with_len 0 i)) (tick_by b held i ∷ [])

-- one tick more
pub with_ticks_to-more : (b : Plan) (held : List (Option Held)) (i : ℕ) → with_tick (with_ticks_to b held i) (tick_by b held i) ≡ with_ticks_to b held (i + 1)
unfolding with_pending
with_ticks_to-more b held i = by_tick (tick_by b held i) refl
  where
    by_tick : (tick : Option Pending) → tick_by b held i ≡ tick → with_tick (with_ticks_to b held i) tick ≡ with_ticks_to b held (i + 1)
    by_tick None e =
        ap (λ (ticks : List Pending). record (with_levels_by b held) { pending = ticks })
        (sym (ticks_to-more b held i ∙ ap (λ (tick : Option Pending). ticks_to b held i ++ filter_map (λ (one : Option Pending). one) (tick ∷ [])) e ∙ append-nil (ticks_to b held i)))
    by_tick (Some tick) e =
        ap (λ (ticks : List Pending). record (with_levels_by b held) { pending = ticks })
        (sym (ticks_to-more b held i ∙ ap (λ (tick : Option Pending). ticks_to b held i ++ filter_map (λ (one : Option Pending). one) (tick ∷ [])) e))

pub given_tick-pos : (p : Pos) (held : Option Held) (tick : Pending) → given_tick p held ≡ Some tick → tick.pos ≡ p
given_tick-pos p None tick e = absurd (cc)
given_tick-pos p (Some held) tick e = by_wait held.wait e
  where
    by_wait : (wait : Option Wait) → waiting_for p wait ≡ Some tick → tick.pos ≡ p
    by_wait None e = absurd (cc)
    by_wait (Some wait) e = let same : record { pos = p; due = wait.left; priority = wait.priority } ≡ tick = cc in ap (λ (t : Pending). t.pos) (sym same)

-- no tick of the first cells is pending at a later place
pub none_before : (b : Plan) (held : List (Option Held)) (n i : ℕ) → n ≤ i → is_pending (ticks_to b held n) (place_of b i) ≡ false
none_before b held zero i h = refl
none_before b held (suc n) i h =
    let one_more : n + 1 ≡ suc n = omega arith in
    subst (λ (m : ℕ). is_pending (ticks_to b held m) (place_of b i) ≡ false) one_more
    (ap (list_any here) (ticks_to-more b held n)
    ∙ list_any-append here (ticks_to b held n) (filter_map (λ (tick : Option Pending). tick) (tick_by b held n ∷ []))
    ∙ both (list_any here (ticks_to b held n)) (list_any here (filter_map (λ (tick : Option Pending). tick) (tick_by b held n ∷ []))) (none_before b held n i (omega arith)) (by_tick (tick_by b held n) refl))
  where
    here : Pending → Bool
    here tick = same_place tick.pos (place_of b i)

    both : (x y : Bool) → x ≡ false → y ≡ false → (x || y) ≡ false
    both true y e f = e
    both false y e f = f

    apart : place_of b n ≢ place_of b i
    apart e = let same : n ≡ i = sym (cell-place b n) ∙ ap (cell_of b) e ∙ cell-place b i in omega arith

    by_tick : (tick : Option Pending) → tick_by b held n ≡ tick → list_any here (filter_map (λ (one : Option Pending). one) (tick ∷ [])) ≡ false
    by_tick None e = refl
    by_tick (Some tick) e =
        both (same_place tick.pos (place_of b i)) false
        (ap (λ (p : Pos). same_place p (place_of b i)) (given_tick-pos (place_of b n) (in_cell held n) tick e) ∙ places_apart (place_of b n) (place_of b i) apart) refl

-- and what may wait at its place may wait there whatever is pending
pub may_wait-to : (b : Plan) (held : List (Option Held)) (i : ℕ) (tick : Pending) → may_wait (with_levels_by b held) tick ≡ true → may_wait (with_ticks_to b held i) tick ≡ true
may_wait-to b held i tick h =
    ap (λ (block : Block). is_ticking block && is_timely tick)
    (entry-same_box (with_levels_by b held) (with_ticks_to b held i) (map (block_by b held) (range_with_len 0 (volume b))) Air tick.pos refl refl refl) ∙ h
