use Rattle.std.proofs.Common.{◌≡◌}
use Rattle.world_engine.specs.Running.{state_of}
use Rattle.world_engine.specs.Levels.{AreQuiet, IsPlaying}
use Rattle.world_engine.specs.Screens.{AreFaced}
use Rattle.world_engine.proofs.Due.{FiresFrom, due_count}
use Rattle.world_engine.proofs.events.fire_due.Given as goal

abbrev pub invariant-loop-number : goal.invariant-loop-number
invariant-loop-number l = record {
  fired : FiresFrom l.things (state_of l.things l.initial.cells) (state_of l.things l.cells);
  time : l.cells.time ≡ l.initial.cells.time;
  playing : IsPlaying l.things l.wiring l.cells l.bases l.levels l.waves.feeders;
  quiet : AreQuiet l.things l.cells.cells l.levels;
  faced : AreFaced l.levels l.cells.cells l.screen;
  outlets : l.screen.outlets ≡ l.initial.screen.outlets;
  count : l.screen.count ≡ l.initial.screen.count;
}

abbrev pub decreases-loop-number : goal.decreases-loop-number
decreases-loop-number l = due_count l.things l.cells
