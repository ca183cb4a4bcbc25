use Rattle.std.proofs.Common.{arith, subst}
use Rattle.nbt.proofs.Fronts.{bytes-front, front-number, unsigned-16, IsBytes}
use Rattle.nbt.proofs.front.cut_u16.Goals as goal

pub returns-clause-some : goal.returns-clause-some
returns-clause-some c =
    let head = c.in_ok-head.head.now in
    let rest = c.in_ok-head.rest.now in
    let all : IsBytes c.args.bytes.now = λ i. omega (arith, c.type_inv.bytes i) in
    let fits : IsBytes head = bytes-front head rest (subst IsBytes c.in_ok-head.ensures.some all) in
    front-number c.args.bytes.now head rest _ c.in_ok-head.ensures.some (rw c.read_u16.ensures (unsigned-16 head c.in_ok-head.ensures.count fits))
