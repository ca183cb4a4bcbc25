use Rattle.std.proofs.Common.{◌≡◌, ◌++◌, take}
use Rattle.input_search.specs.Links.{through}
use Rattle.input_search.specs.Wiring.{IsWiring}
use Rattle.input_search.proofs.readers.push_through.Given as goal

abbrev pub invariant-loop-tap : goal.invariant-loop-tap
invariant-loop-tap l = record {
  wiring : IsWiring l.build l.wiring;
  links : l.links.items ≡ l.fn.links.items ++ through l.build (take l.tap-index l.taps);
}
