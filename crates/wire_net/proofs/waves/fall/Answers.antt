use Rattle.std.proofs.Common.{arith, ◌≡◌, ◌<◌, ◌+◌, ◌∙◌, ap, refl, length, slice_index, ℕ, []}
use Rattle.wire_net.specs.Listed.{list_at}
use Rattle.wire_net.proofs.Lists.{at-default, fed-below}
use Rattle.wire_net.specs.WaveSteps.{Has}
use Rattle.wire_net.proofs.Notes.{notes_none, notes_then, notes_fell}
use Rattle.wire_net.proofs.Falls.{fall_start, fall_next, fall_step, fall_done, fell-longer}
use Rattle.wire_net.proofs.waves.fall.Goals as goal

pub loop-cell-init : goal.loop-cell-init
loop-cell-init g c = record {
  falling = fall_start (g.N.Net.net c.args.net.now) c.args.changed.now c.args.powers.now c.args.fallen.now.items c.requires.right c.requires.empty;
  noted = notes_none c.args.powers.now (Has c.args.fallen.now.items);
  room = c.requires.room;
}

pub loop-cell-preserved : goal.loop-cell-preserved
loop-cell-preserved g c = record {
  falling = fall_step (g.N.Net.net c.args.net.now) c.args.changed.now c.loop-cell.powers c.loop-cell.fallen.items 0 c.args.changed.now c.loop-cell.cell-index
      (slice_index c.args.changed.now c.loop-cell.cell-index) c.loop-cell.invariant.falling refl (c.requires.cells c.loop-cell.cell-index (omega arith)) (omega arith)
      c.let_fall.new.powers c.let_fall.new.fallen.items c.let_fall.ensures.step;
  noted = notes_then c.args.powers.now c.loop-cell.powers c.let_fall.new.powers (Has c.args.fallen.now.items) (Has c.loop-cell.fallen.items) (Has c.let_fall.new.fallen.items) c.loop-cell.invariant.noted
      (notes_fell (g.N.Net.net c.args.net.now) c.loop-cell.powers c.loop-cell.fallen.items (slice_index c.args.changed.now c.loop-cell.cell-index) c.let_fall.new.powers c.let_fall.new.fallen.items c.let_fall.ensures.step);
  room = omega (arith, c.loop-cell.invariant.room, c.let_fall.ensures.room);
}

pub loop-cell-2-init : goal.loop-cell-2-init
loop-cell-2-init g c =
    let short : c.loop-next.next < length c.loop-next.fallen.items = omega (arith, c.loop-next.fallen.ok.0) in
    let at : c.index-from.result.now ≡ slice_index c.loop-next.fallen.items c.loop-next.next = c.index-from.ensures ∙ at-default c.loop-next.fallen.items c.loop-next.next c.index-from.result.now short in
    let items : c.row-cell-items.result.now ≡ list_at c.args.fed.now (slice_index c.loop-next.fallen.items c.loop-next.next) = c.row-cell-items.ensures ∙ ap (λ (n : ℕ). list_at c.args.fed.now n) at in
    record {
      falling = rw items (fall_next (g.N.Net.net c.args.net.now) c.args.changed.now c.loop-next.powers c.loop-next.fallen.items c.loop-next.next [] 0
          c.args.feeders.now c.args.fed.now c.loop-next.invariant.falling (omega arith) c.requires.lists c.requires.turned);
      noted = notes_none c.loop-next.powers (Has c.loop-next.fallen.items);
      short = omega (arith, short);
      room = c.loop-next.invariant.room;
    }

pub let_fall-requires-in-loop-cell-2-clause-in_net : goal.let_fall-requires-in-loop-cell-2-clause-in_net
let_fall-requires-in-loop-cell-2-clause-in_net g c =
    let here : c.loop-cell-2.cell-index < length c.row-cell-items.result.now = omega arith in
    let h2 = rw c.row-cell-items.ensures at here in
    rw c.row-cell-items.ensures (fed-below (g.N.Net.net c.args.net.now) c.args.feeders.now c.args.fed.now c.requires.lists c.requires.turned c.index-from.result.now c.loop-cell-2.cell-index h2)

pub loop-cell-2-preserved : goal.loop-cell-2-preserved
loop-cell-2-preserved g c =
    let here : c.loop-cell-2.cell-index < length c.row-cell-items.result.now = omega arith in
    let h2 = rw c.row-cell-items.ensures at here in
    let inside : slice_index c.row-cell-items.result.now c.loop-cell-2.cell-index < length (g.N.Net.net c.args.net.now) =
    rw c.row-cell-items.ensures (fed-below (g.N.Net.net c.args.net.now) c.args.feeders.now c.args.fed.now c.requires.lists c.requires.turned c.index-from.result.now c.loop-cell-2.cell-index h2) in
    record {
      falling = fall_step (g.N.Net.net c.args.net.now) c.args.changed.now c.loop-cell-2.powers c.loop-cell-2.fallen.items (c.loop-next.next + 1) c.row-cell-items.result.now c.loop-cell-2.cell-index
          (slice_index c.row-cell-items.result.now c.loop-cell-2.cell-index) c.loop-cell-2.invariant.falling refl inside c.loop-cell-2.invariant.short
          c.let_fall-in-loop-cell-2.new.powers c.let_fall-in-loop-cell-2.new.fallen.items c.let_fall-in-loop-cell-2.ensures.step;
      noted = notes_then c.loop-next.powers c.loop-cell-2.powers c.let_fall-in-loop-cell-2.new.powers (Has c.loop-next.fallen.items) (Has c.loop-cell-2.fallen.items) (Has c.let_fall-in-loop-cell-2.new.fallen.items) c.loop-cell-2.invariant.noted
          (notes_fell (g.N.Net.net c.args.net.now) c.loop-cell-2.powers c.loop-cell-2.fallen.items (slice_index c.row-cell-items.result.now c.loop-cell-2.cell-index)
          c.let_fall-in-loop-cell-2.new.powers c.let_fall-in-loop-cell-2.new.fallen.items c.let_fall-in-loop-cell-2.ensures.step);
      short = omega (
        arith,
        c.loop-cell-2.invariant.short,
        fell-longer (g.N.Net.net c.args.net.now) c.loop-cell-2.powers c.loop-cell-2.fallen.items (slice_index c.row-cell-items.result.now c.loop-cell-2.cell-index)
            c.let_fall-in-loop-cell-2.new.powers c.let_fall-in-loop-cell-2.new.fallen.items c.let_fall-in-loop-cell-2.ensures.step,
      );
      room = omega (arith, c.loop-cell-2.invariant.room, c.let_fall-in-loop-cell-2.ensures.room);
    }

pub loop-next-preserved : goal.loop-next-preserved
loop-next-preserved g c = record {
  falling = fall_done (g.N.Net.net c.args.net.now) c.args.changed.now c.loop-cell-2.powers c.loop-cell-2.fallen.items (c.loop-next.next + 1) c.row-cell-items.result.now c.loop-cell-2.cell-index c.loop-cell-2.invariant.falling (omega arith);
  noted = notes_then c.loop-cell.powers c.loop-next.powers c.loop-cell-2.powers (Has c.loop-cell.fallen.items) (Has c.loop-next.fallen.items) (Has c.loop-cell-2.fallen.items) c.loop-next.invariant.noted c.loop-cell-2.invariant.noted;
  short = c.loop-cell-2.invariant.short;
  room = c.loop-cell-2.invariant.room;
}

pub returns-clause-noted : goal.returns-clause-noted
returns-clause-noted g c = notes_then c.args.powers.now c.loop-cell.powers c.loop-next.powers (Has c.args.fallen.now.items) (Has c.loop-cell.fallen.items) (Has c.loop-next.fallen.items) c.loop-cell.invariant.noted c.loop-next.invariant.noted
