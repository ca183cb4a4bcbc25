use Rattle.std.proofs.Common.{◌≡◌, ◌++◌, take, map}
use Rattle.input_search.specs.Links.{at_weight}
use Rattle.input_search.specs.CellLists.{places_of}
use Rattle.input_search.proofs.search.push_links.Given as goal

abbrev pub invariant-loop-cell : goal.invariant-loop-cell
invariant-loop-cell l = l.links.items ≡ l.fn.links.items ++ map (at_weight l.weight) (places_of l.build (take l.cell-index l.cells))
