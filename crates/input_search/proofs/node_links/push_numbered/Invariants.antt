use Rattle.std.proofs.Common.{◌≡◌, ◌++◌, take, map}
use Rattle.input_search.specs.Numbers.{numbered}
use Rattle.input_search.proofs.node_links.push_numbered.Given as goal

abbrev pub invariant-loop-origin : goal.invariant-loop-origin
invariant-loop-origin l = l.links.items ≡ l.fn.links.items ++ map (numbered l.build l.numbers l.group) (take l.origin-index l.origins)
