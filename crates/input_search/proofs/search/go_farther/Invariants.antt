use Rattle.std.proofs.Common.{◌≡◌, ◌+◌, []}
use Rattle.input_search.specs.Wiring.{IsSearch, IsWiring}
use Rattle.input_search.proofs.search.go_farther.Given as goal

abbrev pub invariant-loop-steps : goal.invariant-loop-steps
invariant-loop-steps l = record {
  wiring : IsWiring l.build l.wiring;
  at : IsSearch l.build (16 + l.steps) l.search;
  none : l.search.links.items ≡ [];
  start : l.search.start ≡ l.fn.search.start;
}
