use Rattle.std.proofs.Common.{sym, subst, arith}
use Rattle.rp_io.specs.Causes.{PartWay}
use Rattle.rp_io.proofs.Written.{part_take}
use Rattle.rp_io.proofs.whole.put_all.Goals as goal

pub pieces-preserved : goal.pieces-preserved
pieces-preserved g c =
    let step = part_take c.in-Ok.count (g.S.Sink.written c.args.sink.now) (g.S.Sink.written c.pieces.sink) (g.S.Sink.written c.put.new.self) c.args.bytes.now c.pieces.rest.now c.pieces.invariant.part c.in-Ok.ensures.took in
    record {
      part = subst (PartWay (g.S.Sink.written c.args.sink.now) (g.S.Sink.written c.put.new.self) c.args.bytes.now) (sym c.split_at.ensures.back) step;
      later = omega (arith, c.pieces.invariant.later, c.in-Ok.ensures.cause.later);
      stays = λ fits. c.in-Ok.ensures.stays (c.pieces.invariant.stays fits);
    }
