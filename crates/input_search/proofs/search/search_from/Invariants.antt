use Rattle.std.proofs.Common.{◌≡◌}
use Rattle.input_search.specs.Wiring.{IsSearch, IsWiring}
use Rattle.input_search.proofs.search.search_from.Given as goal

abbrev pub invariant-loop-distance : goal.invariant-loop-distance
invariant-loop-distance l = record {
  wiring : IsWiring l.build l.wiring;
  at : IsSearch l.build l.distance l.search;
  start : l.search.start ≡ l.fn.number;
}
