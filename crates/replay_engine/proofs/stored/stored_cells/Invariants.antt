use Rattle.std.proofs.Common.{◌≡◌, ◌<◌, ℕ, [], length, get_or}
use Rattle.replay_engine.specs.Stores.{stored_with}
use Rattle.replay_engine.specs.Things.{nothing}
use Rattle.replay_engine.specs.Running.{spot}
use Rattle.replay_engine.proofs.stored.stored_cells.Given as goal

abbrev pub invariant-loop-number : goal.invariant-loop-number
invariant-loop-number l = record {
  whole : length l.cells.items ≡ l.number;
  stored : (k : ℕ) → k < l.number → get_or l.cells.items k nothing ≡ stored_with l.things [] (spot l.things k);
}
