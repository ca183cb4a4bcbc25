use Rattle.std.proofs.Common.{◌≡◌, ◌≤◌, ◌-◌, ℕ, List, length}
use Rattle.circuit.specs.Circuit.{Each}
use Rattle.world_order.specs.Reading.{HasHeader, IsFront, IsLine, joined}
use Rattle.world_order.proofs.take.take_header.Given as goal

abbrev pub invariant-loop-front : goal.invariant-loop-front
invariant-loop-front l = record {
  front : IsFront l.text l.front;
  tick : l.front.tick ≡ 0;
  fires : l.front.fires ≡ 0;
  within : l.front.at ≤ length l.header;
  lines : (lines : List (List ℕ)) → Each IsLine lines → l.header ≡ joined lines → HasHeader l.header l.text l.front lines;
}

abbrev pub decreases-loop-front : goal.decreases-loop-front
decreases-loop-front l = length l.header - l.front.at
