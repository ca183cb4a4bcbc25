use Rattle.std.proofs.Common.{ℕ, ◌++◌, ◌/◌, List, ap, ◌∙◌, arith}
use Rattle.schem_write.specs.Varint.{varint}
use Rattle.schem_write.proofs.Shortest.{varint-next, varint-end}
use Rattle.schem_write.proofs.varint.push_varint.Goals as goal

pub loop-rest-preserved : goal.loop-rest-preserved
loop-rest-preserved c =
    ap (λ (bs : List ℕ). bs ++ varint (c.loop-rest.rest / 128)) c.in_ok-push.ensures.items
    ∙ varint-next c.loop-rest.out.items (c.args.out.now.items ++ varint c.args.number) c.loop-rest.rest (omega (arith, c.loop-rest-test.true)) c.loop-rest.invariant

pub returns : goal.returns
returns c =
    c.in_ok-push-2.ensures.items
    ∙ varint-end c.loop-rest.out.items (c.args.out.now.items ++ varint c.args.number) c.loop-rest.rest (omega (arith, c.loop-rest-test.false)) c.loop-rest.invariant
