use Rattle.std.proofs.Common.{◌≡◌, drop}
use Rattle.rp_io.specs.Memory.{found}
use Rattle.rp_io.proofs.memory.find_file.Given as goal

abbrev pub invariant-loop-title : goal.invariant-loop-title
invariant-loop-title l = found (drop l.title-index l.files) l.name ≡ found l.files l.name
