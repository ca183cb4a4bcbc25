use Rattle.std.proofs.Common.{◌≡◌, ◌+◌, ◌≤◌, length, take}
use Rattle.graph.specs.Graph.{spare_of, KeepsOtherRoom}
use Rattle.graph.specs.Edits.{change}
use Rattle.input_search.specs.Added.{with_links}
use Rattle.input_search.proofs.add.add_all.Given as goal

abbrev pub invariant-loop-link : goal.invariant-loop-link
invariant-loop-link l = record {
  nodes : l.graph.nodes ≡ change (with_links (take l.link-index l.links)) l.fn.graph.nodes l.to;
  room : length l.links ≤ spare_of l.graph l.to + l.link-index;
  others : KeepsOtherRoom l.fn.graph l.graph l.to;
}
