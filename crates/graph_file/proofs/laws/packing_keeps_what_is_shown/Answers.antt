use Rattle.graph_file.proofs.PackedLaw.{packed_refines}
use Rattle.graph_file.proofs.laws.packing_keeps_what_is_shown.Goals as goal

pub returns : goal.returns
returns c = λ g sound. packed_refines g sound
