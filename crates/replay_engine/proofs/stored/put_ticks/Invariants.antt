use Rattle.std.proofs.Common.{drop}
use Rattle.replay_engine.specs.Stores.{AreStored}
use Rattle.replay_engine.proofs.stored.put_ticks.Given as goal

abbrev pub invariant-loop-index : goal.invariant-loop-index
invariant-loop-index l = AreStored l.things (drop l.index l.pending) l.cells
