use Rattle.rp_io.proofs.Written.{wrote_both, prefix_after}
use Rattle.player.specs.Played.{graph_run_text}
use Rattle.player.proofs.Going.{on_err_holds}
use Rattle.redpile_top.proofs.Compiling.{began_front}
use Rattle.redpile_top.proofs.commands.put_ready.Goals as goal

pub returns-in_err-put_all-clause-front : goal.returns-in_err-put_all-clause-front
returns-in_err-put_all-clause-front g c =
    on_err_holds c.from_residual.result _
    (began_front c.args.front.now c.args.ready.is_ordered c.args.ready.nodes c.args.ready.header c.args.script.now.acts (g.O.Sink.written c.args.out.now) (g.O.Sink.written c.put_all.new.sink) c.requires c.in_err-put_all.ensures.front)

pub returns-in_err-put-clause-front : goal.returns-in_err-put-clause-front
returns-in_err-put-clause-front g c =
    let part = c.in_err-put.ensures.front in
    on_err_holds c.from_residual-in_err-put.result _
    (record {
      views = part.views;
      counts = part.counts;
      run = part.run;
      wrote = prefix_after (g.O.Sink.written c.args.out.now) (g.O.Sink.written c.put_all.new.sink) (g.O.Sink.written c.put.new.out) c.args.front.now
          (graph_run_text c.args.ready.is_ordered c.args.ready.nodes c.args.ready.header c.args.script.now.acts part.run.shown.order part.views part.counts) c.in_ok-put_all.ensures.all part.wrote;
    })

pub returns-clause-done : goal.returns-clause-done
returns-clause-done g c =
    let done = c.in_ok-put.ensures.done in
    record {
      views = done.views;
      counts = c.in_ok-put.field-0;
      run = done.run;
      wrote = wrote_both (g.O.Sink.written c.args.out.now) (g.O.Sink.written c.put_all.new.sink) (g.O.Sink.written c.put.new.out) c.args.front.now
          (graph_run_text c.args.ready.is_ordered c.args.ready.nodes c.args.ready.header c.args.script.now.acts done.run.shown.order done.views c.in_ok-put.field-0) c.in_ok-put_all.ensures.all done.wrote;
    }
