use Rattle.nbt.proofs.OneOfTwo.{one-of-two}
use Rattle.nbt.proofs.laws.a_root_or_a_fault.Goals as goal

pub returns : goal.returns
returns c bytes all = one-of-two bytes all
