use Rattle.std.proofs.Common.{◌≡◌, length}
use Rattle.world_engine.specs.Screens.{ArePlacedBelow}
use Rattle.world_engine.proofs.screen.put_places.Given as goal

abbrev pub invariant-loop-index : goal.invariant-loop-index
invariant-loop-index l = record {
  below : ArePlacedBelow l.outlets l.index l.places;
  whole : length l.places ≡ length l.fn.places;
}
