use Rattle.std.proofs.Common.{◌≡◌, Vec, Global, length, map}
use Rattle.graph.specs.declared.Link.{Link}
use Rattle.input_search.specs.Numbers.{AreLists}
use Rattle.input_search.specs.Wiring.{IsWiring}
use Rattle.input_search.proofs.node_links.lists_of.Given as goal

abbrev pub invariant-loop-number : goal.invariant-loop-number
invariant-loop-number l = record {
  wiring : IsWiring l.build l.wiring;
  whole : length l.lists.items ≡ l.number;
  links : AreLists l.build l.graph.nodes l.numbers l.number (map (λ (list : Vec Link Global). list.items) l.lists.items);
}
