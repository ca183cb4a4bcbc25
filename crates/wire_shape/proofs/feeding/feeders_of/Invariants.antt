use Rattle.std.proofs.Common.{◌≡◌, ◌≤◌, ◌+◌, ◌++◌, length, take}
use Rattle.std.specs.List.{filter_map}
use Rattle.wire_shape.specs.Shape.{around}
use Rattle.wire_shape.specs.Feeders.{fed_from_below, fed_from_beside, fed_from_above}
use Rattle.wire_shape.proofs.feeding.feeders_of.Given as goal

abbrev pub invariant-below : goal.invariant-below
invariant-below l = (l.feeders ≡ l.initial.feeders ++ filter_map (fed_from_below l.build l.pos) (take l.side-index around)) × (length l.feeders ≤ l.side-index)

abbrev pub invariant-beside : goal.invariant-beside
invariant-beside l = (l.feeders ≡ l.initial.feeders ++ filter_map (fed_from_beside l.build l.pos) (take l.side-index around)) × (length l.feeders ≤ 4 + l.side-index)

abbrev pub invariant-above : goal.invariant-above
invariant-above l = (l.feeders ≡ l.initial.feeders ++ filter_map (fed_from_above l.build l.pos) (take l.side-index around)) × (length l.feeders ≤ 8 + l.side-index)
