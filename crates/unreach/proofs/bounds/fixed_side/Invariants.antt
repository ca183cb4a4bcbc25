use Rattle.std.proofs.Common.{◌≡◌, max, drop}
use Rattle.graph.specs.declared.Group.TheVariants.{Side}
use Rattle.graph.specs.Readings.{reading}
use Rattle.graph.specs.Steps.{fixed}
use Rattle.unreach.proofs.bounds.fixed_side.Given as goal

abbrev pub invariant-loop-link : goal.invariant-loop-link
invariant-loop-link l = max l.most (reading (fixed l.graph.nodes) Side (drop l.link-index l.links)) ≡ reading (fixed l.graph.nodes) Side l.links
