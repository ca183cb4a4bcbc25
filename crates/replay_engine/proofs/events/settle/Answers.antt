use Rattle.std.proofs.Common.{take, ℕ, ap, sym, subst, ◌∙◌}
use Rattle.wire_net.specs.Net.{WasRight}
use Rattle.wire_net.specs.Noted.{IsNoted}
use Rattle.cell_counts.specs.Held.{Holding}
use Rattle.replay_engine.specs.Near.{IsNearby}
use Rattle.replay_engine.specs.Things.{state_by}
use Rattle.replay_engine.specs.WireThings.{thing_cells}
use Rattle.replay_engine.specs.Running.{given_by, spot, AreWithin, ArePowers, Attends, IsHolding, IsNearOne}
use Rattle.replay_engine.proofs.NearSteps.{at_time}
use Rattle.replay_engine.proofs.Reached.{was_right}
use Rattle.replay_engine.proofs.Settling.{putting_holds, settled_state, settled_powers, settled_still, settled_idle}
use Rattle.replay_engine.specs.Given.{powers-le}
use Rattle.replay_engine.proofs.events.settle.Goals as goal

pub resolve-requires-clause-within : goal.resolve-requires-clause-within
resolve-requires-clause-within c =
    subst (λ (h : Holding). AreWithin c.args.things.now h.cells) (sym c.hold.ensures)
    (putting_holds c.args.things.now c.count.ensures.numbered c.args.cells.now c.args.powers.now c.args.waves.now.feeders c.args.number c.args.cell c.requires.playing c.requires.inside c.requires.bounded).within

pub resolve-requires-clause-right : goal.resolve-requires-clause-right
resolve-requires-clause-right c =
    let changed = take c.near_wires-count.result c.near_wires-count.new.wires in
    subst (λ (h : Holding). WasRight (thing_cells c.args.things.now (given_by c.args.things.now h.cells)) c.args.powers.now changed) (sym c.hold.ensures)
    (was_right c.args.things.now c.count.ensures.numbered c.args.cells.now.cells c.args.number c.args.cell c.requires.playing.holding.whole c.requires.inside c.args.powers.now changed
    c.requires.playing.holding.within c.requires.playing.solved c.near_wires-count.ensures.listed)

pub attend_near-requires-clause-holding : goal.attend_near-requires-clause-holding
attend_near-requires-clause-holding c =
    subst (IsHolding c.args.things.now) (sym c.hold.ensures)
    (putting_holds c.args.things.now c.count.ensures.numbered c.args.cells.now c.args.powers.now c.args.waves.now.feeders c.args.number c.args.cell c.requires.playing c.requires.inside c.requires.bounded)

pub returns-clause-settled : goal.returns-clause-settled
returns-clause-settled c =
    let m = c.args.things.now in
    let old = c.args.cells.now in
    let time = ap (λ (h : Holding). h.time) c.hold.ensures in
    let right = subst (λ (h : Holding). ArePowers m h.cells c.resolve.new.powers) c.hold.ensures c.resolve.ensures.right in
    let first = subst (λ (h : Holding). Attends m h.time c.resolve.new.powers h.cells c.attend_near.new.cells.cells (IsNearby (spot m c.args.number))) c.hold.ensures c.attend_near.ensures.attends in
    let second = at_time m c.attend_near.new.cells.time old.time c.resolve.new.powers c.attend_near.new.cells.cells c.attend_near_noted.new.cells.cells (IsNearOne m (IsNoted c.resolve.new.waves)) (c.attend_near.ensures.time ∙ time) c.attend_near_noted.ensures.attends in
    ap (λ (t : ℕ). state_by m t c.attend_near_noted.new.cells.cells) (c.attend_near_noted.ensures.time ∙ c.attend_near.ensures.time ∙ time)
    ∙ settled_state m c.count.ensures.numbered old c.args.powers.now c.args.waves.now.feeders c.args.number c.args.cell c.requires.playing c.requires.inside c.requires.bounded
    c.resolve.new.powers c.resolve.new.waves c.attend_near.new.cells.cells c.attend_near_noted.new.cells.cells c.requires.still right c.resolve.ensures.noted first second

pub returns-clause-playing : goal.returns-clause-playing
returns-clause-playing c =
    let m = c.args.things.now in
    let old = c.args.cells.now in
    let time = ap (λ (h : Holding). h.time) c.hold.ensures in
    let right = subst (λ (h : Holding). ArePowers m h.cells c.resolve.new.powers) c.hold.ensures c.resolve.ensures.right in
    let first = subst (λ (h : Holding). Attends m h.time c.resolve.new.powers h.cells c.attend_near.new.cells.cells (IsNearby (spot m c.args.number))) c.hold.ensures c.attend_near.ensures.attends in
    let second = at_time m c.attend_near.new.cells.time old.time c.resolve.new.powers c.attend_near.new.cells.cells c.attend_near_noted.new.cells.cells (IsNearOne m (IsNoted c.resolve.new.waves)) (c.attend_near.ensures.time ∙ time) c.attend_near_noted.ensures.attends in
    record {
      holding = c.attend_near_noted.ensures.holding;
      powers_whole = c.resolve.auto.powers ∙ c.requires.playing.powers_whole;
      solved = settled_powers m c.count.ensures.numbered old c.args.powers.now c.args.waves.now.feeders c.args.number c.args.cell c.requires.playing c.requires.inside c.requires.bounded
          c.resolve.new.powers c.resolve.new.waves c.attend_near.new.cells.cells c.attend_near_noted.new.cells.cells c.requires.still right c.resolve.ensures.noted first second;
      made = c.resolve.ensures.made;
      idle = settled_idle m c.count.ensures.numbered old c.args.powers.now c.args.waves.now.feeders c.args.number c.args.cell c.requires.playing c.requires.inside c.requires.bounded
          c.resolve.new.powers c.resolve.new.waves c.attend_near.new.cells.cells c.attend_near_noted.new.cells.cells c.requires.still right c.resolve.ensures.noted first second c.requires.idle;
    }

pub returns-clause-still : goal.returns-clause-still
returns-clause-still c =
    let m = c.args.things.now in
    let old = c.args.cells.now in
    let time = ap (λ (h : Holding). h.time) c.hold.ensures in
    let right = subst (λ (h : Holding). ArePowers m h.cells c.resolve.new.powers) c.hold.ensures c.resolve.ensures.right in
    let first = subst (λ (h : Holding). Attends m h.time c.resolve.new.powers h.cells c.attend_near.new.cells.cells (IsNearby (spot m c.args.number))) c.hold.ensures c.attend_near.ensures.attends in
    let second = at_time m c.attend_near.new.cells.time old.time c.resolve.new.powers c.attend_near.new.cells.cells c.attend_near_noted.new.cells.cells (IsNearOne m (IsNoted c.resolve.new.waves)) (c.attend_near.ensures.time ∙ time) c.attend_near_noted.ensures.attends in
    settled_still m c.count.ensures.numbered old c.args.powers.now c.args.waves.now.feeders c.args.number c.args.cell c.requires.playing c.requires.inside c.requires.bounded
    c.resolve.new.powers c.resolve.new.waves c.attend_near.new.cells.cells c.attend_near_noted.new.cells.cells c.requires.still right c.resolve.ensures.noted first second

pub attend_near-requires-clause-small : goal.attend_near-requires-clause-small
attend_near-requires-clause-small c =
    powers-le (subst (IsHolding c.args.things.now) (sym c.hold.ensures)
    (putting_holds c.args.things.now c.count.ensures.numbered c.args.cells.now c.args.powers.now c.args.waves.now.feeders c.args.number c.args.cell c.requires.playing c.requires.inside c.requires.bounded))
    c.resolve.ensures.right

pub attend_near_noted-requires-clause-small : goal.attend_near_noted-requires-clause-small
attend_near_noted-requires-clause-small c =
    powers-le (subst (IsHolding c.args.things.now) (sym c.hold.ensures)
    (putting_holds c.args.things.now c.count.ensures.numbered c.args.cells.now c.args.powers.now c.args.waves.now.feeders c.args.number c.args.cell c.requires.playing c.requires.inside c.requires.bounded))
    c.resolve.ensures.right
