use Rattle.std.proofs.Common.{◌<◌, length, arith, ◌∙◌}
use Rattle.report.specs.FireLine.{fire_line}
use Rattle.player.proofs.FirePieces.{lines_more, lines_stopped}
use Rattle.player.proofs.Going.{on_err_holds}
use Rattle.player.proofs.graph_play.put_fires.Goals as goal

pub returns-in_err-put_fire-clause-front : goal.returns-in_err-put_fire-clause-front
returns-in_err-put_fire-clause-front g c =
    on_err_holds c.from_residual.result _
    (lines_stopped fire_line c.args.places.now c.loop-pos.pos-index _ (omega arith) (g.O.Sink.written c.args.out.now) (g.O.Sink.written c.loop-pos.out) (g.O.Sink.written c.put_fire.new.out) c.loop-pos.invariant.part c.in_err-put_fire.ensures.front)

pub loop-pos-preserved : goal.loop-pos-preserved
loop-pos-preserved g c = record {
  part = lines_more fire_line c.args.places.now c.loop-pos.pos-index _ (omega arith) (g.O.Sink.written c.args.out.now) (g.O.Sink.written c.loop-pos.out) (g.O.Sink.written c.put_fire.new.out) c.loop-pos.invariant.part c.in_ok-put_fire.ensures.all;
  room = c.in_ok-put_fire.ensures.room ∙ c.loop-pos.invariant.room;
  later = omega (arith, c.loop-pos.invariant.later, c.in_ok-put_fire.ensures.cause.later);
}
