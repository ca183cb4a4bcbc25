use Rattle.nbt.proofs.OneFault.{one-fault}
use Rattle.nbt.proofs.laws.one_first_fault.Goals as goal

pub returns : goal.returns
returns c bytes place other kind also fault more = one-fault bytes place other kind also fault more
