use Rattle.std.proofs.Common.{arith}
use Rattle.wire_net.proofs.Counts.{count-short, power-low}
use Rattle.wire_net.proofs.waves.lift.Goals as goal

pub put-requires-clause-number : goal.put-requires-clause-number
put-requires-clause-number g c =
    omega (arith, power-low (g.N.Net.net c.args.net.now) c.args.powers.now (g.met.N.Net.bounded c.args.net.now) c.requires.low c.args.cell)

pub put-requires-clause-room : goal.put-requires-clause-room
put-requires-clause-room g c =
    omega (arith, count-short c.needed-power.result c.args.powers.now c.args.cell (omega arith) (omega arith), c.requires.listed c.needed-power.result)
