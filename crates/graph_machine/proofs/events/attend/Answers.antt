use Rattle.std.proofs.Common.{◌≡◌, ap, sym, subst, ◌∙◌}
use Rattle.graph.specs.Graph.{node_at}
use Rattle.graph.specs.GraphCircuit.{role_at, first_at}
use Rattle.cell_queue.specs.Held.{CanFollow, cell_of}
use Rattle.graph_machine.specs.Playing.{attended_in, reads_in}
use Rattle.graph_machine.proofs.PlaySteps.{delays_small, attended_follows}
use Rattle.graph_machine.proofs.events.attend.Goals as goal

pub hold-requires-clause-follows : goal.hold-requires-clause-follows
hold-requires-clause-follows c =
    let net = c.args.net.now in
    let held = cell_of c.args.cells.now.cells c.args.key in
    let is : c.attended-cell.result ≡ attended_in net c.args.cells.now.time c.args.key held =
    c.attended-cell.ensures ∙ ap (λ t. attended_in net t c.args.key c.cell.result) c.now.ensures ∙ ap (attended_in net c.args.cells.now.time c.args.key) c.cell.ensures in
    subst (CanFollow c.args.cells.now.time held) (sym is)
    (attended_follows c.args.cells.now.time (role_at (node_at net.nodes c.args.key)) (first_at (node_at net.nodes c.args.key)) (reads_in net) c.args.key held (delays_small net.nodes c.requires.sound c.args.key))
