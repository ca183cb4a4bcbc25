use Rattle.std.proofs.Common.{arith}
use Rattle.power_rules.specs.World.{world_circuit}
use Rattle.world_engine.specs.Running.{state_in}
use Rattle.player.proofs.Going.{nothing_noted}
use Rattle.player.proofs.world_play.WorldPlayPlaysUnit.step.Goals as goal

pub returns-clause-step : goal.returns-clause-step
returns-clause-step c =
    let old = c.args.self.now.world in
    let new = c.take_step.new.world in
    record {
      to = c.take_step.ensures.step;
      events = λ count right. tt;
      reads = omega arith;
      notes = nothing_noted (world_circuit old.plan old.marks) c.args.step (state_in old) (state_in new) c.take_step.ensures.step;
    }
