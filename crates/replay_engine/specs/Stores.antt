-- What the things store before the start, with some of the pending ticks.
use Rattle.std.specs.Prelude.{◌≡◌, ℕ, ◌<◌, List, length, slice_index_or}
use Rattle.circuit.specs.declared.Pos.{Pos}
use Rattle.circuit.specs.declared.Cell.{Cell}
use Rattle.build.specs.declared.Pending.{Pending}
use Rattle.build.specs.Plan.{block_at, entry}
use Rattle.build.specs.Roles.{role_at, stored_of, stored_value, waiting_at}
use Rattle.replay_engine.specs.Things.{Numbered, nothing}
use Rattle.replay_engine.specs.Running.{spot}

unfoldable pub stored_with : Numbered → List Pending → Pos → Cell
stored_with m ticks p = stored_of (role_at m.plan m.marks p) (stored_value (block_at m.plan p) (entry m.plan m.plan.levels 0 p)) (waiting_at ticks p)

-- each thing stores this
abbrev pub AreStored : Numbered → List Pending → List Cell → Type 0
AreStored m ticks cells = (n : ℕ) → n < length m.spots → slice_index_or cells n nothing ≡ stored_with m ticks (spot m n)
