use Rattle.std.proofs.Common.{◌≡◌, max, drop}
use Rattle.graph.specs.Readings.{reading}
use Rattle.graph.specs.Steps.{fixed}
use Rattle.constant_fold.proofs.rests.fixed_reading.Given as goal

abbrev pub invariant-loop-link : goal.invariant-loop-link
invariant-loop-link l = max l.most (reading (fixed l.graph.nodes) l.group (drop l.link-index l.links)) ≡ reading (fixed l.graph.nodes) l.group l.links
