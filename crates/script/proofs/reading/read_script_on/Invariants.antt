use Rattle.std.proofs.Common.{length}
use Rattle.script.proofs.ReadLines.{HasRead}
use Rattle.script.proofs.reading.read_script_on.Given as goal

abbrev pub invariant-loop-bytes : goal.invariant-loop-bytes
invariant-loop-bytes g l = HasRead (g.T.Targets.takes l.targets) (g.T.Targets.wire l.targets) l.fn.text l.rest l.line l.ticks l.script

abbrev pub decreases-loop-bytes : goal.decreases-loop-bytes
decreases-loop-bytes g l = length l.rest
