use Rattle.std.proofs.Common.{◌≡◌, ◌++◌}
use Rattle.schem_write.specs.Varint.{varint}
use Rattle.schem_write.proofs.varint.push_varint.Given as goal

abbrev pub invariant-loop-rest : goal.invariant-loop-rest
invariant-loop-rest l = l.out.items ++ varint l.rest ≡ l.fn.out.items ++ varint l.number

abbrev pub decreases-loop-rest : goal.decreases-loop-rest
decreases-loop-rest l = l.rest
