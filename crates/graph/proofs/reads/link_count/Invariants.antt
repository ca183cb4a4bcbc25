use Rattle.std.proofs.Common.{◌≡◌, ◌*◌, ◌≤◌, ◌^◌, take}
use Rattle.std.specs.Prelude.{sum_by}
use Rattle.graph.specs.Graph.{links_into}
use Rattle.graph.specs.Stored.{plain_nodes}
use Rattle.graph.proofs.reads.link_count.Given as goal

abbrev pub invariant-loop-number : goal.invariant-loop-number
invariant-loop-number l = (l.links ≡ sum_by links_into (take l.number (plain_nodes l.nodes.entries))) × (l.links ≤ l.number * 2 ^ 32)
