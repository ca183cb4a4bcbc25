use Rattle.std.proofs.Common.{ap, ◌∙◌, subst, ◌<◌, arith}
use Rattle.circuit.specs.declared.Pos.{Pos}
use Rattle.circuit.specs.Circuit.{State, IsDue}
use Rattle.world_engine.specs.Running.{circuit_of, state_of, spot}
use Rattle.world_engine.proofs.Due.{fires_next, fires_end, firing_lowers}
use Rattle.world_engine.proofs.Playing.{none_now}
use Rattle.world_engine.proofs.events.fire_due.Goals as goal

pub loop-number-smaller : goal.loop-number-smaller
loop-number-smaller c =
    let late : 0 < c.loop-number.cells.time = omega (arith, c.requires.late, c.loop-number.invariant.time) in
    firing_lowers c.args.things.now c.count.ensures.numbered c.loop-number.cells c.fire_next.new.cells c.in-Some._number late c.in-Some.ensures.state.0 c.in-Some.ensures.state.1

pub loop-number-preserved : goal.loop-number-preserved
loop-number-preserved c =
    let m = c.args.things.now in
    record {
      fired = fires_next m (state_of m c.args.cells.now) (state_of m c.loop-number.cells) (state_of m c.fire_next.new.cells) (spot m c.in-Some._number) c.loop-number.invariant.fired c.in-Some.ensures.state.1;
      time = ap (λ (s : State Pos). s.time) c.in-Some.ensures.state.1.after ∙ c.loop-number.invariant.time;
      playing = c.in-Some.ensures.playing;
      quiet = c.in-Some.ensures.quiet;
      faced = c.in-Some.ensures.faced;
      outlets = c.in-Some.ensures.outlets ∙ c.loop-number.invariant.outlets;
      count = c.in-Some.ensures.count ∙ c.loop-number.invariant.count;
    }

pub returns-clause-fired : goal.returns-clause-fired
returns-clause-fired c =
    let m = c.args.things.now in
    fires_end m (state_of m c.args.cells.now) (state_of m c.loop-number.cells) (state_of m c.fire_next.new.cells) c.loop-number.invariant.fired c.in_default.ensures.state

pub returns-clause-time : goal.returns-clause-time
returns-clause-time c = ap (λ (s : State Pos). s.time) c.in_default.ensures.state.same ∙ c.loop-number.invariant.time

pub returns-clause-none : goal.returns-clause-none
returns-clause-none c =
    let m = c.args.things.now in
    none_now m c.count.ensures.numbered c.fire_next.new.cells c.in_default.ensures.playing.holding.whole c.in_default.ensures.playing.idle
    (λ p d. c.in_default.ensures.state.none p (subst (λ (s : State Pos). IsDue (circuit_of m) s p) c.in_default.ensures.state.same d))
