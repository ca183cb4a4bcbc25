use Rattle.std.proofs.Common.{◌≡◌, ◌<◌, ℕ, length, slice_index}
use Rattle.graph_machine.proofs.screen.put_places.Given as goal

abbrev pub invariant-loop-index : goal.invariant-loop-index
invariant-loop-index l = record {
  below : (j : ℕ) → j < l.index → slice_index l.places (slice_index l.keys j) ≡ j;
  whole : length l.places ≡ length l.fn.places;
}
