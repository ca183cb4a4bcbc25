use Rattle.std.proofs.Common.{◌≡◌, None, Some, sym, ap, ◌∙◌, subst}
use Rattle.circuit.specs.Circuit.{fired_in, attend, put}
use Rattle.cell_queue.specs.Held.{Holding, CanFollow, cell_of}
use Rattle.world_engine.specs.Running.{circuit_of, state_of, spot, IsHolding}
use Rattle.world_engine.specs.Levels.{AreLevels, IsPlaying, OthersQuiet}
use Rattle.world_engine.proofs.Playing.{inside, component, resting_playing, resting_quiet, fired_can_follow, fires_one, none_due}
use Rattle.world_engine.proofs.ScreenSteps.{faced_taken}
use Rattle.world_engine.proofs.events.fire_next.Goals as goal

pub returns-in_default-clause-state : goal.returns-in_default-clause-state
returns-in_default-clause-state c = record {
  none = none_due c.args.things.now c.count.ensures.numbered c.args.cells.now c.in_default.ensures.taken.1;
  same = ap (state_of c.args.things.now) c.in_default.ensures.taken.0;
}

pub returns-in_default-clause-playing : goal.returns-in_default-clause-playing
returns-in_default-clause-playing c = subst (λ (h : Holding). IsPlaying c.args.things.now c.args.wiring.now h c.args.bases.now c.args.levels.now c.args.waves.now.feeders) (sym c.in_default.ensures.taken.0) c.requires.playing

pub fired_from-cell-requires-clause-holding : goal.fired_from-cell-requires-clause-holding
fired_from-cell-requires-clause-holding c =
    let r = resting_playing c.args.things.now c.count.ensures.numbered c.args.wiring.now c.args.cells.now c.args.bases.now c.args.levels.now c.args.waves.now.feeders c.in-Some.number c.requires.playing c.in-Some.ensures.taken.0 in
    subst (IsHolding c.args.things.now) (sym c.in-Some.ensures.taken.1) r.holding

pub fired_from-cell-requires-clause-right : goal.fired_from-cell-requires-clause-right
fired_from-cell-requires-clause-right c =
    let r = resting_playing c.args.things.now c.count.ensures.numbered c.args.wiring.now c.args.cells.now c.args.bases.now c.args.levels.now c.args.waves.now.feeders c.in-Some.number c.requires.playing c.in-Some.ensures.taken.0 in
    subst (λ (h : Holding). AreLevels c.args.things.now h.cells c.args.levels.now) (sym c.in-Some.ensures.taken.1) r.solved

pub settle-requires-clause-playing : goal.settle-requires-clause-playing
settle-requires-clause-playing c =
    subst (λ (h : Holding). IsPlaying c.args.things.now c.args.wiring.now h c.args.bases.now c.args.levels.now c.args.waves.now.feeders) (sym c.in-Some.ensures.taken.1)
    (resting_playing c.args.things.now c.count.ensures.numbered c.args.wiring.now c.args.cells.now c.args.bases.now c.args.levels.now c.args.waves.now.feeders c.in-Some.number c.requires.playing c.in-Some.ensures.taken.0)

pub settle-requires-clause-quiet : goal.settle-requires-clause-quiet
settle-requires-clause-quiet c =
    subst (λ (h : Holding). OthersQuiet c.args.things.now h.cells c.args.levels.now (spot c.args.things.now c.in-Some.number)) (sym c.in-Some.ensures.taken.1)
    (resting_quiet c.args.things.now c.count.ensures.numbered c.args.wiring.now c.args.cells.now c.args.bases.now c.args.levels.now c.args.waves.now.feeders c.in-Some.number c.requires.playing c.in-Some.ensures.taken.0 c.requires.quiet)

pub settle-requires-clause-follows : goal.settle-requires-clause-follows
settle-requires-clause-follows c =
    let m = c.args.things.now in
    let fired = c.fired_from-cell.ensures.fired ∙ ap (λ (h : Holding). fired_in (circuit_of m) (state_of m h) (spot m c.in-Some.number)) c.in-Some.ensures.taken.1 in
    subst (λ (h : Holding). CanFollow h.time (cell_of h.cells c.in-Some.number) c.fired_from-cell.result) (sym c.in-Some.ensures.taken.1)
    (fired_can_follow m c.count.ensures.numbered c.args.wiring.now c.args.cells.now c.args.bases.now c.args.levels.now c.args.waves.now.feeders c.in-Some.number c.requires.playing c.in-Some.ensures.taken.0 c.fired_from-cell.result fired)

pub settle-requires-clause-bounded : goal.settle-requires-clause-bounded
settle-requires-clause-bounded c =
    let m = c.args.things.now in
    c.fired_from-cell.ensures.bounded

pub settle-requires-clause-idle : goal.settle-requires-clause-idle
settle-requires-clause-idle c = λ none.
    let some = component c.args.things.now c.count.ensures.numbered c.args.wiring.now c.args.cells.now c.args.bases.now c.args.levels.now c.args.waves.now.feeders c.in-Some.number c.requires.playing c.in-Some.ensures.taken.0 in
    let clash : None ≡ Some some.0 = sym none ∙ some.1 in
    absurd (cc)

pub returns-clause-state : goal.returns-clause-state
returns-clause-state c =
    let m = c.args.things.now in
    let w = c.count.ensures.numbered in
    let fired = c.fired_from-cell.ensures.fired ∙ ap (λ (h : Holding). fired_in (circuit_of m) (state_of m h) (spot m c.in-Some.number)) c.in-Some.ensures.taken.1 in
    let after = c.settle.ensures.settled ∙ ap (λ (h : Holding). attend (circuit_of m) (put (circuit_of m) (state_of m h) (spot m c.in-Some.number) c.fired_from-cell.result)) c.in-Some.ensures.taken.1 in (
      inside m w c.args.wiring.now c.args.cells.now c.args.bases.now c.args.levels.now c.args.waves.now.feeders c.in-Some.number c.requires.playing c.in-Some.ensures.taken.0,
      fires_one m w c.args.wiring.now c.args.cells.now c.args.bases.now c.args.levels.now c.args.waves.now.feeders c.in-Some.number c.requires.playing c.in-Some.ensures.taken.0 c.fired_from-cell.result fired (state_of m c.settle.new.cells) after,
    )

pub settle-requires-clause-faced : goal.settle-requires-clause-faced
settle-requires-clause-faced c = faced_taken c.args.levels.now c.args.cells.now c.take_due.new.self c.take_due.result c.args.screen.now c.take_due.ensures.taken c.requires.faced

pub returns-in_default-clause-faced : goal.returns-in_default-clause-faced
returns-in_default-clause-faced c = faced_taken c.args.levels.now c.args.cells.now c.take_due.new.self c.take_due.result c.args.screen.now c.take_due.ensures.taken c.requires.faced
