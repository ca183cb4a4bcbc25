use Rattle.std.proofs.Common.{arith, ◌<◌, ◌≤◌, ◌+◌, ◌∙◌, refl, length, slice_index, ℕ, inl, inr}
use Rattle.wire_net.specs.WaveSteps.{Rising, Nothing}
use Rattle.wire_net.proofs.Lists.{later-next, past_end}
use Rattle.wire_net.specs.Noted.{InSome}
use Rattle.wire_net.proofs.Notes.{notes_none, notes_then, notes_rose}
use Rattle.wire_net.proofs.Rises.{IsTodo, rise_start, rise_step, rise_todo, rise_level}
use Rattle.wire_net.proofs.waves.start_rise.Goals as goal

pub loop-cell-init : goal.loop-cell-init
loop-cell-init g c = record {
  rising = rise_start (g.N.Net.net c.args.net.now) c.args.changed.now c.args.powers.now c.args.fallen.now c.args.levels.now.lists (g.met.N.Net.bounded c.args.net.now) c.requires.falling c.requires.count c.requires.empty;
  noted = notes_none c.args.powers.now (InSome c.args.levels.now.lists);
  room = refl;
}

pub loop-cell-preserved : goal.loop-cell-preserved
loop-cell-preserved g c = record {
  rising = rise_step (g.N.Net.net c.args.net.now) c.loop-cell.powers c.loop-cell.levels.lists 16 0
      (IsTodo c.args.changed.now c.loop-cell.cell-index c.args.fallen.now 0) (IsTodo c.args.changed.now (c.loop-cell.cell-index + 1) c.args.fallen.now 0)
      (slice_index c.args.changed.now c.loop-cell.cell-index) c.loop-cell.invariant.rising
      (λ e t. elim t [
        | inl l ↦ elim (later-next c.args.changed.now c.loop-cell.cell-index e l) [ inl s ↦ inl s | inr m ↦ inr (inl m) ]
        | inr f ↦ inr (inr f)
      ])
      (c.requires.cells c.loop-cell.cell-index (omega arith)) (g.met.N.Net.bounded c.args.net.now)
      c.lift.new.powers c.lift.new.levels.lists c.lift.ensures.step;
  noted = notes_then c.args.powers.now c.loop-cell.powers c.lift.new.powers (InSome c.args.levels.now.lists) (InSome c.loop-cell.levels.lists) (InSome c.lift.new.levels.lists) c.loop-cell.invariant.noted
      (notes_rose (g.N.Net.net c.args.net.now) c.loop-cell.powers c.loop-cell.levels.lists (slice_index c.args.changed.now c.loop-cell.cell-index) c.lift.new.powers c.lift.new.levels.lists
      (g.met.N.Net.bounded c.args.net.now) c.loop-cell.invariant.rising.low c.loop-cell.invariant.rising.count c.lift.ensures.step);
  room = c.lift.ensures.room ∙ c.loop-cell.invariant.room;
}

pub loop-cell-2-preserved : goal.loop-cell-2-preserved
loop-cell-2-preserved g c = record {
  rising = rise_step (g.N.Net.net c.args.net.now) c.loop-cell-2.powers c.loop-cell-2.levels.lists 16 0
      (IsTodo c.args.changed.now (length c.args.changed.now) c.args.fallen.now c.loop-cell-2.cell-index) (IsTodo c.args.changed.now (length c.args.changed.now) c.args.fallen.now (c.loop-cell-2.cell-index + 1))
      (slice_index c.args.fallen.now c.loop-cell-2.cell-index) c.loop-cell-2.invariant.rising
      (λ e t. elim t [
        | inl l ↦ inr (inl l)
        | inr f ↦ elim (later-next c.args.fallen.now c.loop-cell-2.cell-index e f) [ inl s ↦ inl s | inr m ↦ inr (inr m) ]
      ])
      (c.requires.falling.inside c.loop-cell-2.cell-index (omega arith)) (g.met.N.Net.bounded c.args.net.now)
      c.lift-in-loop-cell-2.new.powers c.lift-in-loop-cell-2.new.levels.lists c.lift-in-loop-cell-2.ensures.step;
  noted = notes_then c.loop-cell.powers c.loop-cell-2.powers c.lift-in-loop-cell-2.new.powers (InSome c.loop-cell.levels.lists) (InSome c.loop-cell-2.levels.lists) (InSome c.lift-in-loop-cell-2.new.levels.lists) c.loop-cell-2.invariant.noted
      (notes_rose (g.N.Net.net c.args.net.now) c.loop-cell-2.powers c.loop-cell-2.levels.lists (slice_index c.args.fallen.now c.loop-cell-2.cell-index) c.lift-in-loop-cell-2.new.powers c.lift-in-loop-cell-2.new.levels.lists
      (g.met.N.Net.bounded c.args.net.now) c.loop-cell-2.invariant.rising.low c.loop-cell-2.invariant.rising.count c.lift-in-loop-cell-2.ensures.step);
  room = c.lift-in-loop-cell-2.ensures.room ∙ c.loop-cell-2.invariant.room;
}

pub returns-clause-rising : goal.returns-clause-rising
returns-clause-rising g c =
    let none : (e : ℕ) → IsTodo c.args.changed.now (length c.args.changed.now) c.args.fallen.now c.loop-cell-2.cell-index e → Nothing e =
    λ e t. elim t [
      | inl l ↦ let low : length c.args.changed.now ≤ l.0 = l.1 in let high : l.0 < length c.args.changed.now = l.2 in absurd (omega arith)
      | inr f ↦ let low : c.loop-cell-2.cell-index ≤ f.0 = f.1 in let high : f.0 < length c.args.fallen.now = f.2 in absurd (omega arith)
    ] in
    let settled : Rising (g.N.Net.net c.args.net.now) c.loop-cell-2.powers c.loop-cell-2.levels.lists 16 0 Nothing =
    rise_todo (g.N.Net.net c.args.net.now) c.loop-cell-2.powers c.loop-cell-2.levels.lists 16 0
    (IsTodo c.args.changed.now (length c.args.changed.now) c.args.fallen.now c.loop-cell-2.cell-index) Nothing c.loop-cell-2.invariant.rising none in
    rise_level (g.N.Net.net c.args.net.now) c.loop-cell-2.powers c.loop-cell-2.levels.lists 16 0 settled (past_end c.loop-cell-2.levels.lists 16 (omega (arith, settled.count)))

pub returns-clause-noted : goal.returns-clause-noted
returns-clause-noted g c =
    notes_then c.args.powers.now c.loop-cell.powers c.loop-cell-2.powers (InSome c.args.levels.now.lists) (InSome c.loop-cell.levels.lists) (InSome c.loop-cell-2.levels.lists) c.loop-cell.invariant.noted c.loop-cell-2.invariant.noted
