use Rattle.std.proofs.Common.{◌≡◌, ◌-◌, length}
use Rattle.wire_net.specs.WaveSteps.{Rising, Nothing, Later}
use Rattle.wire_net.specs.Noted.{InSome, Notes}
use Rattle.wire_net.proofs.waves.rise_from.Given as goal

abbrev pub invariant-loop-next : goal.invariant-loop-next
invariant-loop-next g l = record {
  rising : Rising (g.N.Net.net l.net) l.powers l.levels.lists l.level l.next Nothing;
  noted : Notes l.initial.powers (InSome l.initial.levels.lists) l.powers (InSome l.levels.lists);
  room : l.levels.room ≡ l.initial.levels.room;
}

abbrev pub decreases-loop-next : goal.decreases-loop-next
decreases-loop-next g l = length (g.N.Net.net l.net) - l.next

abbrev pub invariant-loop-cell : goal.invariant-loop-cell
invariant-loop-cell g l = record {
  rising : Rising (g.N.Net.net l.net) l.powers l.levels.lists l.level l.next (λ e. Later l.cell-items l.cell-index e);
  noted : Notes l.initial.powers (InSome l.initial.levels.lists) l.powers (InSome l.levels.lists);
  room : l.levels.room ≡ l.initial.levels.room;
}
