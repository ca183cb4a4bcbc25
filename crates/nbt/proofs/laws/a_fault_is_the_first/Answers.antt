use Rattle.nbt.proofs.Places.{fault-first}
use Rattle.nbt.proofs.laws.a_fault_is_the_first.Goals as goal

pub returns : goal.returns
returns c bytes place kind fault = fault-first bytes place kind fault
