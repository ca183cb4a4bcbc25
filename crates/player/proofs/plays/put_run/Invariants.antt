use Rattle.std.proofs.Common.{◌≡◌, ◌≤◌, length}
use Rattle.circuit.specs.Circuit.{view}
use Rattle.circuit.specs.Taken.{EachTaken}
use Rattle.script.specs.StepsLeft.{steps_left}
use Rattle.player.proofs.AnyRuns.{GoingText}
use Rattle.player.proofs.plays.put_run.Given as goal

abbrev pub invariant-loop-step : goal.invariant-loop-step
invariant-loop-step g l = record {
  circuit : g.P.Plays.circuit l.player ≡ g.P.Plays.circuit l.fn.player;
  cost : g.P.Plays.cost l.player ≡ g.P.Plays.cost l.fn.player;
  note : g.P.Plays.note l.player ≡ g.P.Plays.note l.fn.player;
  trailer : g.P.Plays.trailer l.player ≡ g.P.Plays.trailer l.fn.player;
  going : GoingText (g.P.Plays.circuit l.fn.player) (g.P.Plays.cost l.fn.player) (g.P.Plays.note l.fn.player) l.header l.script.acts (g.P.Plays.trailer l.fn.player) (g.O.Sink.written l.fn.out) (g.P.Plays.spent l.fn.costs)
      (g.P.Plays.counted l.player) (g.O.Sink.written l.out) (g.P.Plays.spent l.costs) (g.P.Plays.state l.player) (steps_left l.step-iterator);
  taken : EachTaken (g.P.Plays.circuit l.fn.player) (steps_left l.step-iterator);
  later : g.O.Sink.faults l.fn.out ≤ g.O.Sink.faults l.out;
  ahead : length (steps_left l.step-iterator) ≤ g.P.Plays.ahead l.player;
  shown : l.shown ≡ view (g.P.Plays.circuit l.fn.player) (g.P.Plays.state l.player);
  room : 96 ≤ l.line.room;
}
