use Rattle.std.proofs.Common.{List, ℕ, subst, refl, ◌∙◌}
use Rattle.wire_net.specs.WaveSteps.{Has}
use Rattle.replay_engine.specs.Running.{Attends, IsNearOne}
use Rattle.replay_engine.proofs.NearSteps.{at_time, lists_start, lists_next, noted_all}
use Rattle.replay_engine.proofs.attend.attend_near_noted.Goals as goal

pub loop-power-init : goal.loop-power-init
loop-power-init c = record {
  attends = lists_start c.args.things.now c.attend_near_each.new.cells.time c.args.powers.now c.attend_near_each.new.cells.cells c.args.waves.now.levels;
  holding = c.attend_near_each.ensures.holding;
  time = refl;
}

pub loop-power-preserved : goal.loop-power-preserved
loop-power-preserved c = record {
  attends = lists_next c.args.things.now c.attend_near_each.new.cells.time c.args.powers.now c.attend_near_each.new.cells.cells c.loop-power.cells.cells c.attend_near_each-in-loop-power.new.cells.cells c.args.waves.now.levels c.loop-power.power c.loop-power.invariant.attends
      (at_time c.args.things.now c.loop-power.cells.time c.attend_near_each.new.cells.time c.args.powers.now c.loop-power.cells.cells c.attend_near_each-in-loop-power.new.cells.cells _ c.loop-power.invariant.time
      (subst (λ (ns : List ℕ). Attends c.args.things.now c.loop-power.cells.time c.args.powers.now c.loop-power.cells.cells c.attend_near_each-in-loop-power.new.cells.cells (IsNearOne c.args.things.now (Has ns))) c.risen.ensures c.attend_near_each-in-loop-power.ensures.attends));
  holding = c.attend_near_each-in-loop-power.ensures.holding;
  time = c.attend_near_each-in-loop-power.ensures.time ∙ c.loop-power.invariant.time;
}

pub returns-clause-attends : goal.returns-clause-attends
returns-clause-attends c =
    noted_all c.args.things.now c.args.cells.now.time c.args.powers.now c.args.cells.now.cells c.attend_near_each.new.cells.cells c.loop-power.cells.cells c.args.waves.now c.loop-power.power c.requires.inside.powers c.loop-power-test.false
    (subst (λ (ns : List ℕ). Attends c.args.things.now c.args.cells.now.time c.args.powers.now c.args.cells.now.cells c.attend_near_each.new.cells.cells (IsNearOne c.args.things.now (Has ns))) c.fallen.ensures c.attend_near_each.ensures.attends)
    (at_time c.args.things.now c.attend_near_each.new.cells.time c.args.cells.now.time c.args.powers.now c.attend_near_each.new.cells.cells c.loop-power.cells.cells _ c.attend_near_each.ensures.time c.loop-power.invariant.attends)
