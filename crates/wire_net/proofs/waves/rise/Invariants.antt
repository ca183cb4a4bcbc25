use Rattle.std.proofs.Common.{◌≡◌, ◌<◌}
use Rattle.wire_net.specs.WaveSteps.{Rising, Nothing}
use Rattle.wire_net.specs.Noted.{InSome, Notes}
use Rattle.wire_net.proofs.waves.rise.Given as goal

abbrev pub invariant-loop-level : goal.invariant-loop-level
invariant-loop-level g l = record {
  rising : Rising (g.N.Net.net l.net) l.powers l.levels.lists l.level 0 Nothing;
  noted : Notes l.initial.powers (InSome l.initial.levels.lists) l.powers (InSome l.levels.lists);
  low : l.level < 16;
  room : l.levels.room ≡ l.initial.levels.room;
}

abbrev pub decreases-loop-level : goal.decreases-loop-level
decreases-loop-level g l = l.level
