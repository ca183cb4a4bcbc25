use Rattle.std.proofs.Common.{◌≡◌, map, take}
use Rattle.world_engine.specs.Outlets.{outlet_under}
use Rattle.world_engine.proofs.outlets.outlets.Given as goal

abbrev pub invariant-loop-place : goal.invariant-loop-place
invariant-loop-place l = l.outlets.items ≡ map (outlet_under l.things) (take l.place-index l.place-items)
