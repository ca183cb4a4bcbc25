-- What is given back to a whole build is whole.
use Rattle.std.proofs.Common.{◌≡◌, ℕ, zero, suc, ◌+◌, ◌≤◌, Bool, true, false, List, Option, Some, None, refl, sym, ap, ap₂, ◌∙◌, subst, arith, inl, inr}
use Rattle.std.specs.Prelude.{nat_lt, nat_le, ◌==◌, ◌&&◌, ◌||◌}
use Rattle.std.proofs.lemmas.Bool.{cases_Bool, and_from, and_parts, lt-ltb, le-leb}
use Rattle.std.proofs.lemmas.List.FromFn.{get_or-map-range_with_len, length-map-range_with_len}
use Rattle.block_table.specs.declared.Block.{Block}
use Rattle.block_table.specs.declared.Block.TheVariants.{Air, Torch as TorchBlock, Comparator as ComparatorBlock, Weighted as WeightedBlock}
use Rattle.block_table.specs.Table.{kind_at}
use Rattle.block_table.specs.WrittenText.{is_listed, is_weighted}
use Rattle.circuit.specs.declared.Pos.{Pos}
use Rattle.circuit.specs.Circuit.{State}
use Rattle.build.specs.declared.Pending.{Pending}
use Rattle.build.specs.Places.{inside, cell_below, place-cell, entry-place, entry-outside, entry-same_box}
use Rattle.build.specs.Plan.{Plan, IsWhole, in_box, volume, cell_of, place_of, entry, block_at, level_fits, is_pending}
use Rattle.build.proofs.WholeEdits.{whole_with_pending}
use Rattle.graph.specs.Graph.{Nodes}
use Rattle.graph.specs.Sound.{IsSound}
use Rattle.handover.specs.declared.held.Held.{Held}
use Rattle.handover.specs.Ended.{HasItsBlocks, IsPlayed}
use Rattle.handover.specs.GivenBack.{given_block, given_level, given_back}
use Rattle.handover.specs.HeldByCell.{in_cell, IsSmall, AreSmall, AreTicking, block_by, level_by, with_levels_by, tick_by, ticks_to, with_ticks_to, with_tick}
use Rattle.handover.proofs.Parts.{block_by-there, given_tick-pos, with_ticks_to-more, none_before, may_wait-to}
use Rattle.handover.proofs.Ready.{small_cells, ticking_cells}
use Rattle.handover.proofs.Timely.{all_held, all_are_held, all_are_timely}
use Rattle.handover.proofs.Whole.{given_whole}

-- ---- one block

listed-given : (held : Option Held) (k : Block) → IsSmall held → is_listed k ≡ true → is_listed (given_block held k) ≡ true
listed-given None k small h = h
listed-given (Some held) (WeightedBlock name power) small h = and_from (is_weighted (kind_at name)) (nat_lt held.value 16) (and_parts (is_weighted (kind_at name)) (nat_lt power 16) h).0 (lt-ltb held.value 16 (omega (arith, small)))
listed-given (Some held) (TorchBlock lit) small h = h
listed-given (Some held) _ small h = h

fits-given : (held : Option Held) (k : Block) (level : ℕ) → IsSmall held → level_fits k level ≡ true → level_fits (given_block held k) (given_level held k level) ≡ true
fits-given None (ComparatorBlock facing subtract) level small h = h
fits-given None _ level small h = h
fits-given (Some held) (ComparatorBlock facing subtract) level small h = either (held.value == 0) (le-leb held.value 15 small)
  where
    either : (none : Bool) → nat_le held.value 15 ≡ true → (none || (true && nat_le held.value 15)) ≡ true
    either true e = refl
    either false e = e
fits-given (Some held) (TorchBlock lit) level small h = h
fits-given (Some held) _ level small h = h

-- ---- the blocks and the levels

module _ (b : Plan) (whole : IsWhole b) (held : List (Option Held)) (small : AreSmall held) where
  block-there : (p : Pos) → in_box b p ≡ true → block_at (with_levels_by b held) p ≡ block_by b held (cell_of b p)
  block-there p h =
      let at = inside b p h in
      ap (block_at (with_levels_by b held)) (sym (place-cell b p at)) ∙ block_by-there b (with_levels_by b held) held (cell_of b p) (cell_below b p at) refl refl refl refl

  level-there : (p : Pos) → in_box b p ≡ true → entry (with_levels_by b held) (with_levels_by b held).levels 0 p ≡ level_by b held (cell_of b p)
  level-there p h =
      let at = inside b p h in
      entry-same_box b (with_levels_by b held) (with_levels_by b held).levels 0 p refl refl refl
      ∙ ap (entry b (with_levels_by b held).levels 0) (sym (place-cell b p at))
      ∙ entry-place b (with_levels_by b held).levels 0 (cell_of b p) (cell_below b p at)
      ∙ get_or-map-range_with_len (level_by b held) 0 (volume b) (cell_of b p) (cell_of b p) 0 (cell_below b p at) (omega arith)

  block-past : (p : Pos) → in_box b p ≡ false → block_at (with_levels_by b held) p ≡ Air
  block-past p h = entry-same_box b (with_levels_by b held) (with_levels_by b held).blocks Air p refl refl refl ∙ entry-outside b (with_levels_by b held).blocks Air p h

  level-past : (p : Pos) → in_box b p ≡ false → entry (with_levels_by b held) (with_levels_by b held).levels 0 p ≡ 0
  level-past p h = entry-same_box b (with_levels_by b held) (with_levels_by b held).levels 0 p refl refl refl ∙ entry-outside b (with_levels_by b held).levels 0 p h

  listed : (p : Pos) → is_listed (block_at (with_levels_by b held) p) ≡ true
  listed p = elim (cases_Bool (in_box b p)) [
    | inl h ↦ ap is_listed (block-there p h) ∙ listed-given (in_cell held (cell_of b p)) (block_at b (place_of b (cell_of b p))) (small (cell_of b p)) (whole.listed (place_of b (cell_of b p)))
    | inr h ↦ ap is_listed (block-past p h)
  ]

  fitting : (p : Pos) → level_fits (block_at (with_levels_by b held) p) (entry (with_levels_by b held) (with_levels_by b held).levels 0 p) ≡ true
  fitting p = elim (cases_Bool (in_box b p)) [
    | inl h ↦ ap₂ level_fits (block-there p h) (level-there p h)
        ∙ fits-given (in_cell held (cell_of b p)) (block_at b (place_of b (cell_of b p))) (entry b b.levels 0 (place_of b (cell_of b p))) (small (cell_of b p)) (whole.fitting (place_of b (cell_of b p)))
    | inr h ↦ ap₂ level_fits (block-past p h) (level-past p h)
  ]

  whole_levels : IsWhole (with_levels_by b held)
  whole_levels = record {
    narrow = whole.narrow;
    low = whole.low;
    shallow = whole.shallow;
    small = whole.small;
    blocks = length-map-range_with_len (block_by b held) 0 (volume b);
    levels = length-map-range_with_len (level_by b held) 0 (volume b);
    listed = listed;
    fitting = fitting;
    waiting = refl;
    once = refl;
  }

  -- ---- the ticks

  whole_ticks : AreTicking b held → (n : ℕ) → n ≤ volume b → IsWhole (with_ticks_to b held n)
  whole_ticks ticking zero h = whole_levels
  whole_ticks ticking (suc n) h =
      let one_more : n + 1 ≡ suc n = omega arith in
      subst (λ (m : ℕ). IsWhole (with_ticks_to b held m)) one_more (subst IsWhole (with_ticks_to-more b held n) (by_tick (tick_by b held n) refl (whole_ticks ticking n (omega arith))))
    where
      by_tick : (tick : Option Pending) → tick_by b held n ≡ tick → IsWhole (with_ticks_to b held n) → IsWhole (with_tick (with_ticks_to b held n) tick)
      by_tick None e before = before
      by_tick (Some tick) e before =
          let apart : is_pending (ticks_to b held n) tick.pos ≡ false = ap (is_pending (ticks_to b held n)) (given_tick-pos (place_of b n) (in_cell held n) tick e) ∙ none_before b held n n (omega arith) in
          whole_with_pending (with_ticks_to b held n) tick before (may_wait-to b held n tick (ticking n (omega arith) tick e)) apart

pub given_is_whole : (b : Plan) → IsWhole b → (g : Nodes) → IsSound g → HasItsBlocks b g → (s : State ℕ) → IsPlayed g s → IsWhole (given_back b g s)
given_is_whole b whole g sound blocks s played =
    subst IsWhole (given_whole b g s (all_held g sound b s) (all_are_held g sound b s))
    (whole_ticks b whole (all_held g sound b s) (small_cells b g sound s played (all_held g sound b s) (all_are_held g sound b s))
    (ticking_cells b g sound blocks s played (all_held g sound b s) (all_are_held g sound b s) (all_are_timely g sound b s played)) (volume b) (omega arith))
