use Rattle.std.proofs.Common.{◌≡◌, ◌-◌, length}
use Rattle.power_rules.specs.World.{world_circuit}
use Rattle.replay_engine.specs.Running.{state_in}
use Rattle.world_order.specs.Reading.{HasBegun}
use Rattle.world_order.proofs.tick.take_firings.Given as goal

abbrev pub invariant-loop-front : goal.invariant-loop-front
invariant-loop-front l = record {
  begun : HasBegun (world_circuit l.fn.replay.plan l.fn.replay.marks) (state_in l.fn.replay) l.replay l.text l.fn.front l.front;
  plan : l.replay.plan ≡ l.fn.replay.plan;
  marks : l.replay.marks ≡ l.fn.replay.marks;
  time : l.replay.time ≡ l.fn.replay.time;
}

abbrev pub decreases-loop-front : goal.decreases-loop-front
decreases-loop-front l = length l.text - l.front.at
