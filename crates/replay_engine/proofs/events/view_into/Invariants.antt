use Rattle.std.proofs.Common.{◌≡◌, ◌<◌, ℕ, get_or, map}
use Rattle.replay_engine.specs.Running.{shown_of}
use Rattle.replay_engine.proofs.events.view_into.Given as goal

abbrev pub invariant-loop-index : goal.invariant-loop-index
invariant-loop-index l = (k : ℕ) → k < l.index → get_or l.into k 0 ≡ get_or (map (shown_of l.things l.cells.cells) l.places) k 0
