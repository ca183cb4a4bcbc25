use Rattle.std.proofs.Common.{◌≡◌, ℕ, refl, subst, length, ap, ◌∙◌, arith}
use Rattle.circuit.specs.declared.Pos.{Pos}
use Rattle.replay_engine.specs.Things.{state_by}
use Rattle.replay_engine.specs.Running.{Attends}
use Rattle.replay_engine.proofs.NearSteps.{at_time}
use Rattle.replay_engine.proofs.Steps.{Below, attends-start, attends-more, attends_all, still_all, powers-attends}
use Rattle.replay_engine.specs.Given.{powers-le}
use Rattle.replay_engine.proofs.attend.attend_all.Goals as goal

pub loop-number-init : goal.loop-number-init
loop-number-init c = record {
  attends = attends-start c.args.things.now c.args.cells.now.time c.args.powers.now c.args.cells.now.cells;
  holding = c.requires.holding;
  time = refl;
}

pub loop-number-preserved : goal.loop-number-preserved
loop-number-preserved c =
    let m = c.args.things.now in
    record {
      attends = attends-more m c.args.cells.now.time c.args.powers.now c.args.cells.now.cells c.loop-number.cells.cells c.attend_at.new.cells.cells c.loop-number.number c.loop-number.invariant.attends
          (subst (λ (p : Pos). Attends m c.args.cells.now.time c.args.powers.now c.loop-number.cells.cells c.attend_at.new.cells.cells (λ q. q ≡ p)) c.spot.ensures
          (at_time m c.loop-number.cells.time c.args.cells.now.time c.args.powers.now c.loop-number.cells.cells c.attend_at.new.cells.cells _ c.loop-number.invariant.time c.attend_at.ensures.attends));
      holding = c.attend_at.ensures.holding;
      time = c.attend_at.ensures.time ∙ c.loop-number.invariant.time;
    }

pub returns-clause-attended : goal.returns-clause-attended
returns-clause-attended c =
    let m = c.args.things.now in
    let all : c.loop-number.number ≡ length m.spots = omega arith in
    ap (λ (t : ℕ). state_by m t c.loop-number.cells.cells) c.loop-number.invariant.time
    ∙ attends_all m c.count-number-end.ensures.numbered c.args.cells.now.time c.args.powers.now c.args.cells.now.cells c.loop-number.cells.cells c.requires.holding.within c.requires.powers
    (subst (λ (i : ℕ). Attends m c.args.cells.now.time c.args.powers.now c.args.cells.now.cells c.loop-number.cells.cells (Below m i)) all c.loop-number.invariant.attends)

pub returns-clause-powers : goal.returns-clause-powers
returns-clause-powers c =
    let m = c.args.things.now in
    powers-attends m c.args.cells.now.time c.args.powers.now c.args.cells.now.cells c.loop-number.cells.cells (Below m c.loop-number.number) c.loop-number.invariant.attends c.requires.powers

pub returns-clause-still : goal.returns-clause-still
returns-clause-still c =
    let m = c.args.things.now in
    let all : c.loop-number.number ≡ length m.spots = omega arith in
    still_all m c.count-number-end.ensures.numbered c.args.cells.now.time c.args.powers.now c.args.cells.now.cells c.loop-number.cells.cells
    (subst (λ (i : ℕ). Attends m c.args.cells.now.time c.args.powers.now c.args.cells.now.cells c.loop-number.cells.cells (Below m i)) all c.loop-number.invariant.attends)

pub attend_at-requires-clause-small : goal.attend_at-requires-clause-small
attend_at-requires-clause-small c = powers-le c.requires.holding c.requires.powers
