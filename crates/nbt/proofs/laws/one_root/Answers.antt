use Rattle.nbt.proofs.Unique.{one-root}
use Rattle.nbt.proofs.laws.one_root.Goals as goal

pub returns : goal.returns
returns c bytes a b ha hb = one-root bytes a b ha hb
