use Rattle.std.proofs.Common.{◌≡◌, None, Some, sym, ap, ◌∙◌, subst}
use Rattle.circuit.specs.declared.Pos.{Pos}
use Rattle.circuit.specs.Bounds.{BoundedAt}
use Rattle.circuit.specs.Circuit.{State, fired_in, attend, put}
use Rattle.build.specs.Roles.{role_at}
use Rattle.cell_counts.specs.Held.{Holding, CanFollow, cell_of}
use Rattle.replay_engine.specs.Running.{circuit_of, state_of, spot, ArePowers, IsHolding, IsPlaying, OthersStill}
use Rattle.replay_engine.proofs.Playing.{component, resting, resting_playing, resting_still, fired_can_follow, fires_one}
use Rattle.replay_engine.proofs.events.fire_now.Goals as goal

pub fired_from-cell-requires-clause-holding : goal.fired_from-cell-requires-clause-holding
fired_from-cell-requires-clause-holding c =
    let r = resting_playing c.args.things.now c.count.ensures.numbered c.args.cells.now c.args.powers.now c.args.waves.now.feeders c.args.number c.requires.playing c.requires.first in
    subst (IsHolding c.args.things.now) (sym c.take.ensures) r.holding

pub fired_from-cell-requires-clause-powers : goal.fired_from-cell-requires-clause-powers
fired_from-cell-requires-clause-powers c =
    let r = resting_playing c.args.things.now c.count.ensures.numbered c.args.cells.now c.args.powers.now c.args.waves.now.feeders c.args.number c.requires.playing c.requires.first in
    subst (λ (h : Holding). ArePowers c.args.things.now h.cells c.args.powers.now) (sym c.take.ensures) r.solved

pub settle-requires-clause-playing : goal.settle-requires-clause-playing
settle-requires-clause-playing c =
    subst (λ (h : Holding). IsPlaying c.args.things.now h c.args.powers.now c.args.waves.now.feeders) (sym c.take.ensures)
    (resting_playing c.args.things.now c.count.ensures.numbered c.args.cells.now c.args.powers.now c.args.waves.now.feeders c.args.number c.requires.playing c.requires.first)

pub settle-requires-clause-still : goal.settle-requires-clause-still
settle-requires-clause-still c =
    subst (λ (h : Holding). OthersStill c.args.things.now h.cells c.args.powers.now (spot c.args.things.now c.args.number)) (sym c.take.ensures)
    (resting_still c.args.things.now c.count.ensures.numbered c.args.cells.now c.args.powers.now c.args.waves.now.feeders c.args.number c.requires.playing c.requires.first c.requires.still)

pub settle-requires-clause-follows : goal.settle-requires-clause-follows
settle-requires-clause-follows c =
    let m = c.args.things.now in
    let fired = c.fired_from-cell.ensures.fired ∙ ap (λ (h : Holding). fired_in (circuit_of m) (state_of m h) c.spot.result) c.take.ensures
    ∙ ap (λ (p : Pos). fired_in (circuit_of m) (state_of m (resting m c.count.ensures.numbered c.args.cells.now c.args.powers.now c.args.waves.now.feeders c.args.number c.requires.playing c.requires.first)) p) c.spot.ensures in
    subst (λ (h : Holding). CanFollow h.time (cell_of h.cells c.args.number) c.fired_from-cell.result) (sym c.take.ensures)
    (fired_can_follow m c.count.ensures.numbered c.args.cells.now c.args.powers.now c.args.waves.now.feeders c.args.number c.requires.playing c.requires.first c.fired_from-cell.result fired)

pub settle-requires-clause-bounded : goal.settle-requires-clause-bounded
settle-requires-clause-bounded c =
    let m = c.args.things.now in
    subst (λ (p : Pos). BoundedAt (role_at m.plan m.marks p) c.fired_from-cell.result) c.spot.ensures c.fired_from-cell.ensures.bounded

pub settle-requires-clause-idle : goal.settle-requires-clause-idle
settle-requires-clause-idle c = λ none.
    let some = component c.args.things.now c.count.ensures.numbered c.args.cells.now c.args.powers.now c.args.waves.now.feeders c.args.number c.requires.playing c.requires.first in
    let clash : None ≡ Some some.0 = sym none ∙ some.1 in
    absurd (cc)

pub returns-clause-fired : goal.returns-clause-fired
returns-clause-fired c =
    let m = c.args.things.now in
    let w = c.count.ensures.numbered in
    let fired = c.fired_from-cell.ensures.fired ∙ ap (λ (h : Holding). fired_in (circuit_of m) (state_of m h) c.spot.result) c.take.ensures
    ∙ ap (λ (p : Pos). fired_in (circuit_of m) (state_of m (resting m w c.args.cells.now c.args.powers.now c.args.waves.now.feeders c.args.number c.requires.playing c.requires.first)) p) c.spot.ensures in
    let after = c.settle.ensures.settled ∙ ap (λ (h : Holding). attend (circuit_of m) (put (circuit_of m) (state_of m h) (spot m c.args.number) c.fired_from-cell.result)) c.take.ensures in
    fires_one m w c.args.cells.now c.args.powers.now c.args.waves.now.feeders c.args.number c.requires.playing c.requires.first c.fired_from-cell.result fired (state_of m c.settle.new.cells) after

pub returns-clause-time : goal.returns-clause-time
returns-clause-time c = ap (λ (s : State Pos). s.time) c.settle.ensures.settled ∙ ap (λ (h : Holding). h.time) c.take.ensures
