use Rattle.nbt.proofs.SpelledBytes.{spelled-bytes}
use Rattle.nbt.proofs.laws.a_spelling_is_bytes.Goals as goal

pub returns : goal.returns
returns c bytes root spells = spelled-bytes bytes root spells
