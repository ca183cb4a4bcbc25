use Rattle.std.proofs.Common.{arith, ◌<◌, slice_index}
use Rattle.wire_net.proofs.Counts.{count-some}
use Rattle.wire_net.proofs.waves.let_fall.Goals as goal

pub append-requires : goal.append-requires
append-requires g c =
    let some : 0 < slice_index c.args.powers.now c.args.cell = omega arith in
    omega (arith, count-some 1 c.args.powers.now c.args.cell (omega arith) (omega arith), c.args.fallen.now.ok.0)
