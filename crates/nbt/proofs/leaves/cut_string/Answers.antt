use Rattle.std.proofs.Common.{refl, inl}
use Rattle.nbt.proofs.Elements.{string-cut}
use Rattle.nbt.proofs.leaves.cut_string.Goals as goal

pub returns-in_default-clause-err : goal.returns-in_default-clause-err
returns-in_default-clause-err c =
    rw c.cut_short.ensures (refl, inl (string-cut c.args.bytes.now c.in_default.ensures.none))
