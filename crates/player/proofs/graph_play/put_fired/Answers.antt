use Rattle.std.proofs.Common.{◌≡◌, ◌<◌, ℕ, length, arith, subst, ◌∙◌}
use Rattle.rp_io.specs.Causes.{appended, WrotePrefix}
use Rattle.player.specs.Noted.{node_lines}
use Rattle.player.proofs.FirePieces.{lines_more, lines_stopped}
use Rattle.player.proofs.Going.{on_err_holds}
use Rattle.player.proofs.graph_play.put_fired.Goals as goal

pub returns-in_err-put_node-clause-front : goal.returns-in_err-put_node-clause-front
returns-in_err-put_node-clause-front g c =
    let nodes = c.args.graph.now.nodes in
    let key = c.key-item.result in
    let mid = g.O.Sink.written c.loop-key.out in
    let now = g.O.Sink.written c.put_node.new.out in
    on_err_holds c.from_residual.result _
    (lines_stopped (node_lines nodes) c.args.keys.now c.loop-key.key-index key (omega arith) (g.O.Sink.written c.args.out.now) mid now c.loop-key.invariant.part
    (subst (λ (k : ℕ). WrotePrefix mid now (node_lines nodes k)) c.key-item.is c.in_err-put_node.ensures.front))

pub loop-key-preserved : goal.loop-key-preserved
loop-key-preserved g c =
    let nodes = c.args.graph.now.nodes in
    let key = c.key-item.result in
    let mid = g.O.Sink.written c.loop-key.out in
    let now = g.O.Sink.written c.put_node.new.out in
    record {
      part = lines_more (node_lines nodes) c.args.keys.now c.loop-key.key-index key (omega arith) (g.O.Sink.written c.args.out.now) mid now c.loop-key.invariant.part
          (subst (λ (k : ℕ). now ≡ appended mid (node_lines nodes k)) c.key-item.is c.in_ok-put_node.ensures.all);
      room = c.in_ok-put_node.ensures.room ∙ c.loop-key.invariant.room;
      later = omega (arith, c.loop-key.invariant.later, c.in_ok-put_node.ensures.cause.later);
    }
