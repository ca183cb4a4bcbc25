-- The lists of a Work are turned round rightly, and have all the room that the waves need.
use Rattle.std.specs.Prelude.{◌≡◌, ℕ, ◌≤◌, List, length}
use Rattle.wire_net.specs.Listed.{Listed}
use Rattle.wire_net.specs.WaveSteps.{IsTurned}

pub record IsReady (feeders fed : List (List ℕ)) (levels : Listed) (fallen_room : ℕ) : Type 0 where
  pub turned : IsTurned feeders fed
  pub level_count : length levels.lists ≡ 16
  pub level_room : length feeders ≤ levels.room
  pub fallen_list : length feeders ≤ fallen_room
