-- Exit statuses.
use Rattle.std.specs.Prelude.{ℕ}
use Rattle.redpile_top.specs.declared.status.Status.{Status}
use Rattle.redpile_top.specs.declared.status.Status.TheVariants.{Done, Usage, ReadFault, WriteFault, BadBuild, BadBlock, BadScript, BadOrder, NoMemory, BadGraph}

abbrev pub code_of : Status → ℕ
code_of Done = 0
code_of Usage = 2
code_of ReadFault = 3
code_of WriteFault = 4
code_of BadBuild = 5
code_of BadBlock = 6
code_of BadScript = 7
code_of BadOrder = 8
code_of NoMemory = 9
code_of BadGraph = 10
