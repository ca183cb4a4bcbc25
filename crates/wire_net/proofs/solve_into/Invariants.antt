use Rattle.wire_net.specs.Sweeps.{IsBetween}
use Rattle.wire_net.proofs.solve_into.Given as goal

abbrev pub invariant-loop-round : goal.invariant-loop-round
invariant-loop-round g l = IsBetween (g.N.Net.net l.net) l._round 0 l.powers
