use Rattle.std.proofs.Common.{◌-◌, length}
use Rattle.graph.specs.Graph.{node_at}
use Rattle.graph.specs.LinkAt.{links_of}
use Rattle.constant_fold.specs.Tended.{HasPassed}
use Rattle.constant_fold.proofs.looks.next_open_link.Given as goal

abbrev pub invariant-loop-link : goal.invariant-loop-link
invariant-loop-link l = HasPassed l.graph.nodes (record { node = l.key; index = l.index })

abbrev pub decreases-loop-link : goal.decreases-loop-link
decreases-loop-link l = length (links_of (node_at l.graph.nodes l.key)) - l.index
