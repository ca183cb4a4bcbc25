use Rattle.graph_file.proofs.TargetSteps.{any_wire, wire_any, same_test}
use Rattle.graph_file.proofs.targets.wire.Goals as goal

pub returns : goal.returns
returns c =
    let g = c.args.graph.now.nodes in
    same_test c.has_wire.result _ (λ t. any_wire g c.args.pos (c.has_wire.ensures.0 t)) (λ t. c.has_wire.ensures.1 (wire_any g c.args.pos t))
