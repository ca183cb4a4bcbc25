use Rattle.schematic.proofs.WholeFile.{file_whole}
use Rattle.schematic.proofs.laws.what_is_read_is_whole.Goals as goal

pub returns : goal.returns
returns c = file_whole
