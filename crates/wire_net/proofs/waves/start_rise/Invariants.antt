use Rattle.std.proofs.Common.{◌≡◌, length}
use Rattle.wire_net.specs.WaveSteps.{Rising}
use Rattle.wire_net.specs.Noted.{InSome, Notes}
use Rattle.wire_net.proofs.Rises.{IsTodo}
use Rattle.wire_net.proofs.waves.start_rise.Given as goal

abbrev pub invariant-loop-cell : goal.invariant-loop-cell
invariant-loop-cell g l = record {
  rising : Rising (g.N.Net.net l.net) l.powers l.levels.lists 16 0 (IsTodo l.changed l.cell-index l.fallen 0);
  noted : Notes l.initial.powers (InSome l.initial.levels.lists) l.powers (InSome l.levels.lists);
  room : l.levels.room ≡ l.initial.levels.room;
}

abbrev pub invariant-loop-cell-2 : goal.invariant-loop-cell-2
invariant-loop-cell-2 g l = record {
  rising : Rising (g.N.Net.net l.net) l.powers l.levels.lists 16 0 (IsTodo l.changed (length l.changed) l.fallen l.cell-index);
  noted : Notes l.initial.powers (InSome l.initial.levels.lists) l.powers (InSome l.levels.lists);
  room : l.levels.room ≡ l.initial.levels.room;
}
