use Rattle.std.proofs.Common.{◌≡◌, ◌≤◌, length}
use Rattle.circuit.specs.Circuit.{view}
use Rattle.circuit.specs.Taken.{EachTaken}
use Rattle.script.specs.StepsLeft.{steps_left}
use Rattle.player.proofs.AnyRuns.{GoingOn}
use Rattle.player.proofs.plays.play_on.Given as goal

abbrev pub invariant-loop-step : goal.invariant-loop-step
invariant-loop-step g l = record {
  circuit : g.P.Plays.circuit l.player ≡ g.P.Plays.circuit l.fn.player;
  cost : g.P.Plays.cost l.player ≡ g.P.Plays.cost l.fn.player;
  going : GoingOn (g.P.Plays.circuit l.fn.player) (g.P.Plays.cost l.fn.player) l.script.acts (g.P.Plays.spent l.fn.costs)
      (g.P.Plays.counted l.player) (g.P.Plays.spent l.costs) (g.P.Plays.state l.player) (steps_left l.step-iterator);
  taken : EachTaken (g.P.Plays.circuit l.fn.player) (steps_left l.step-iterator);
  ahead : length (steps_left l.step-iterator) ≤ g.P.Plays.ahead l.player;
  shown : l.shown ≡ view (g.P.Plays.circuit l.fn.player) (g.P.Plays.state l.player);
}
