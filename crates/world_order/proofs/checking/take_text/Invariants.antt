use Rattle.std.proofs.Common.{◌≡◌, ◌≤◌, ◌+◌, length}
use Rattle.circuit.specs.declared.Pos.{Pos}
use Rattle.circuit.specs.Circuit.{IsDue}
use Rattle.circuit.specs.Taken.{EachTaken}
use Rattle.power_rules.specs.World.{world_circuit}
use Rattle.replay_engine.specs.Running.{state_in}
use Rattle.script.specs.StepsLeft.{steps_left}
use Rattle.world_order.specs.Reading.{IsFront, IsReading}
use Rattle.world_order.proofs.checking.take_text.Given as goal

abbrev pub invariant-loop-step : goal.invariant-loop-step
invariant-loop-step l = record {
  plan : l.replay.plan ≡ l.fn.replay.plan;
  marks : l.replay.marks ≡ l.fn.replay.marks;
  front : IsFront l.text l.front;
  reading : IsReading l.fn.replay.plan l.script l.text (state_in l.replay) (steps_left l.step-iterator) l.front;
  none : (key : Pos) → IsDue (world_circuit l.fn.replay.plan l.fn.replay.marks) (state_in l.replay) key → ⊥;
  taken : EachTaken (world_circuit l.fn.replay.plan l.fn.replay.marks) (steps_left l.step-iterator);
  early : l.replay.time + length (steps_left l.step-iterator) ≤ 1073741824;
  room : l.line.room ≡ l.fn.line.room;
}
