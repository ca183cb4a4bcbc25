use Rattle.std.proofs.Common.{◌≤◌, ◌-◌, [], length, vec_capacity}
use Rattle.wire_net.specs.WaveSteps.{Falling, Has}
use Rattle.wire_net.specs.Noted.{Notes}
use Rattle.wire_net.proofs.waves.fall.Given as goal

abbrev pub invariant-loop-cell : goal.invariant-loop-cell
invariant-loop-cell g l = record {
  falling : Falling (g.N.Net.net l.net) l.changed l.powers l.fallen.items 0 l.changed l.cell-index;
  noted : Notes l.initial.powers (Has l.initial.fallen.items) l.powers (Has l.fallen.items);
  room : length (g.N.Net.net l.net) ≤ vec_capacity l.fallen;
}

abbrev pub invariant-loop-next : goal.invariant-loop-next
invariant-loop-next g l = record {
  falling : Falling (g.N.Net.net l.net) l.changed l.powers l.fallen.items l.next [] 0;
  noted : Notes l.initial.powers (Has l.initial.fallen.items) l.powers (Has l.fallen.items);
  short : l.next ≤ length l.fallen.items;
  room : length (g.N.Net.net l.net) ≤ vec_capacity l.fallen;
}

abbrev pub decreases-loop-next : goal.decreases-loop-next
decreases-loop-next g l = length (g.N.Net.net l.net) - l.next

abbrev pub invariant-loop-cell-2 : goal.invariant-loop-cell-2
invariant-loop-cell-2 g l = record {
  falling : Falling (g.N.Net.net l.net) l.changed l.powers l.fallen.items l.next l.cell-items l.cell-index;
  noted : Notes l.initial.powers (Has l.initial.fallen.items) l.powers (Has l.fallen.items);
  short : l.next ≤ length l.fallen.items;
  room : length (g.N.Net.net l.net) ≤ vec_capacity l.fallen;
}
