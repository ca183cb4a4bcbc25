use Rattle.std.proofs.Common.{arith, ◌≡◌, ◌<◌, ◌≤◌, ◌+◌, ◌∙◌, ap, refl, length, slice_index, List, ℕ}
use Rattle.wire_net.specs.Listed.{list_at}
use Rattle.wire_net.specs.WaveSteps.{Nothing, Later}
use Rattle.wire_net.proofs.Lists.{later-next, fed-below}
use Rattle.wire_net.specs.Noted.{InSome}
use Rattle.wire_net.proofs.Notes.{notes_none, notes_then, notes_rose}
use Rattle.wire_net.proofs.Rises.{rise_next, rise_skip, rise_step, rise_todo, rise_level, rise_short}
use Rattle.wire_net.proofs.waves.rise_from.Goals as goal

pub loop-cell-init : goal.loop-cell-init
loop-cell-init g c =
    let items : c.row-cell-items.result.now ≡ list_at c.args.fed.now (slice_index (list_at c.loop-next.levels.lists c.args.level) c.loop-next.next) = c.row-cell-items.ensures ∙ ap (λ (xs : List ℕ). list_at c.args.fed.now (slice_index xs c.loop-next.next)) c.list-in-loop-next.ensures in
    record {
      rising = rw items (rise_next (g.N.Net.net c.args.net.now) c.loop-next.powers c.loop-next.levels.lists c.args.level c.loop-next.next c.args.feeders.now c.args.fed.now c.loop-next.invariant.rising c.requires.lists c.requires.turned);
      noted = notes_none c.loop-next.powers (InSome c.loop-next.levels.lists);
      room = refl;
    }

pub loop-next-smaller-in-loop-cell : goal.loop-next-smaller-in-loop-cell
loop-next-smaller-in-loop-cell g c =
    let listed : c.loop-next.next < length (list_at c.loop-next.levels.lists c.args.level) = rw c.list.ensures at c.loop-next-test.true in
    let short : c.loop-next.next < length (g.N.Net.net c.args.net.now) = rise_short (g.N.Net.net c.args.net.now) c.loop-next.powers c.loop-next.levels.lists c.args.level c.loop-next.next Nothing c.loop-next.next c.loop-next.invariant.rising listed in
    omega (arith, short)

pub loop-next-smaller : goal.loop-next-smaller
loop-next-smaller g c =
    let listed : c.loop-next.next < length (list_at c.loop-next.levels.lists c.args.level) = rw c.list.ensures at c.loop-next-test.true in
    let short : c.loop-next.next < length (g.N.Net.net c.args.net.now) = rise_short (g.N.Net.net c.args.net.now) c.loop-next.powers c.loop-next.levels.lists c.args.level c.loop-next.next Nothing c.loop-next.next c.loop-next.invariant.rising listed in
    omega (arith, short)

pub lift-requires-clause-in_net : goal.lift-requires-clause-in_net
lift-requires-clause-in_net g c =
    let items : c.row-cell-items.result.now ≡ list_at c.args.fed.now (slice_index (list_at c.loop-next.levels.lists c.args.level) c.loop-next.next) = c.row-cell-items.ensures ∙ ap (λ (xs : List ℕ). list_at c.args.fed.now (slice_index xs c.loop-next.next)) c.list-in-loop-next.ensures in
    let here : c.loop-cell.cell-index < length c.row-cell-items.result.now = omega arith in
    let here2 = rw items at here in
    let inside : slice_index c.row-cell-items.result.now c.loop-cell.cell-index < length (g.N.Net.net c.args.net.now) =
    rw items (fed-below (g.N.Net.net c.args.net.now) c.args.feeders.now c.args.fed.now c.requires.lists c.requires.turned (slice_index (list_at c.loop-next.levels.lists c.args.level) c.loop-next.next) c.loop-cell.cell-index here2) in
    inside

pub loop-cell-preserved : goal.loop-cell-preserved
loop-cell-preserved g c =
    let items : c.row-cell-items.result.now ≡ list_at c.args.fed.now (slice_index (list_at c.loop-next.levels.lists c.args.level) c.loop-next.next) = c.row-cell-items.ensures ∙ ap (λ (xs : List ℕ). list_at c.args.fed.now (slice_index xs c.loop-next.next)) c.list-in-loop-next.ensures in
    let here : c.loop-cell.cell-index < length c.row-cell-items.result.now = omega arith in
    let here2 = rw items at here in
    let inside : slice_index c.row-cell-items.result.now c.loop-cell.cell-index < length (g.N.Net.net c.args.net.now) =
    rw items (fed-below (g.N.Net.net c.args.net.now) c.args.feeders.now c.args.fed.now c.requires.lists c.requires.turned (slice_index (list_at c.loop-next.levels.lists c.args.level) c.loop-next.next) c.loop-cell.cell-index here2) in
    record {
      rising = rise_step (g.N.Net.net c.args.net.now) c.loop-cell.powers c.loop-cell.levels.lists c.args.level (c.loop-next.next + 1)
          (λ e. Later c.row-cell-items.result.now c.loop-cell.cell-index e) (λ e. Later c.row-cell-items.result.now (c.loop-cell.cell-index + 1) e)
          (slice_index c.row-cell-items.result.now c.loop-cell.cell-index) c.loop-cell.invariant.rising
          (λ e t. later-next c.row-cell-items.result.now c.loop-cell.cell-index e t)
          inside (g.met.N.Net.bounded c.args.net.now) c.lift.new.powers c.lift.new.levels.lists c.lift.ensures.step;
      noted = notes_then c.loop-next.powers c.loop-cell.powers c.lift.new.powers (InSome c.loop-next.levels.lists) (InSome c.loop-cell.levels.lists) (InSome c.lift.new.levels.lists) c.loop-cell.invariant.noted
          (notes_rose (g.N.Net.net c.args.net.now) c.loop-cell.powers c.loop-cell.levels.lists (slice_index c.row-cell-items.result.now c.loop-cell.cell-index) c.lift.new.powers c.lift.new.levels.lists
          (g.met.N.Net.bounded c.args.net.now) c.loop-cell.invariant.rising.low c.loop-cell.invariant.rising.count c.lift.ensures.step);
      room = c.lift.ensures.room ∙ c.loop-cell.invariant.room;
    }

pub loop-next-preserved-in-loop-cell : goal.loop-next-preserved-in-loop-cell
loop-next-preserved-in-loop-cell g c = record {
  rising = rise_todo (g.N.Net.net c.args.net.now) c.loop-cell.powers c.loop-cell.levels.lists c.args.level (c.loop-next.next + 1)
      (λ e. Later c.row-cell-items.result.now c.loop-cell.cell-index e) Nothing c.loop-cell.invariant.rising
      (λ e t. let low : c.loop-cell.cell-index ≤ t.0 = t.1 in let high : t.0 < length c.row-cell-items.result.now = t.2 in absurd (omega arith));
  noted = notes_then c.args.powers.now c.loop-next.powers c.loop-cell.powers (InSome c.args.levels.now.lists) (InSome c.loop-next.levels.lists) (InSome c.loop-cell.levels.lists) c.loop-next.invariant.noted c.loop-cell.invariant.noted;
  room = c.loop-cell.invariant.room ∙ c.loop-next.invariant.room;
}

pub loop-next-preserved : goal.loop-next-preserved
loop-next-preserved g c = record {
  rising = rise_skip (g.N.Net.net c.args.net.now) c.loop-next.powers c.loop-next.levels.lists c.args.level c.loop-next.next c.loop-next.invariant.rising
      (λ e. c.if-powers-from.false (ap (λ (xs : List ℕ). slice_index c.loop-next.powers (slice_index xs c.loop-next.next)) c.list-in-loop-next.ensures ∙ e));
  noted = c.loop-next.invariant.noted;
  room = c.loop-next.invariant.room;
}

pub returns-clause-rising : goal.returns-clause-rising
returns-clause-rising g c =
    let past = rw c.list.ensures at c.loop-next-test.false in
    rise_level (g.N.Net.net c.args.net.now) c.loop-next.powers c.loop-next.levels.lists c.args.level c.loop-next.next c.loop-next.invariant.rising past
