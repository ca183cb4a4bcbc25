use Rattle.schem_write.proofs.Shortest.{varint-shortest}
use Rattle.schem_write.proofs.laws.varints_are_shortest.Goals as goal

pub returns : goal.returns
returns c = varint-shortest
