use Rattle.std.proofs.Common.{refl, ◌∙◌}
use Rattle.replay_engine.proofs.NearSteps.{at_time, first_start, first_next, first_all}
use Rattle.replay_engine.proofs.attend.attend_near_each.Goals as goal

pub loop-number-init : goal.loop-number-init
loop-number-init c = record {
  attends = first_start c.args.things.now c.args.cells.now.time c.args.powers.now c.args.cells.now.cells c.args.numbers.now;
  holding = c.requires.holding;
  time = refl;
}

pub loop-number-preserved : goal.loop-number-preserved
loop-number-preserved c = record {
  attends = first_next c.args.things.now c.args.cells.now.time c.args.powers.now c.args.cells.now.cells c.loop-number.cells.cells c.attend_near.new.cells.cells c.args.numbers.now c.loop-number.number-index c.loop-number.invariant.attends
      (at_time c.args.things.now c.loop-number.cells.time c.args.cells.now.time c.args.powers.now c.loop-number.cells.cells c.attend_near.new.cells.cells _ c.loop-number.invariant.time c.attend_near.ensures.attends);
  holding = c.attend_near.ensures.holding;
  time = c.attend_near.ensures.time ∙ c.loop-number.invariant.time;
}

pub returns-clause-attends : goal.returns-clause-attends
returns-clause-attends c = first_all c.args.things.now c.args.cells.now.time c.args.powers.now c.args.cells.now.cells c.loop-number.cells.cells c.args.numbers.now c.loop-number.number-index c.loop-number-test.false c.loop-number.invariant.attends
