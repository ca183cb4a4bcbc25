use Rattle.nbt.proofs.Excludes.{fault-excludes}
use Rattle.nbt.proofs.laws.a_fault_excludes.Goals as goal

pub returns : goal.returns
returns c bytes place kind root fault spells = fault-excludes bytes place kind root fault spells.0 spells.1
