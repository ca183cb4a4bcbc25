use Rattle.std.proofs.Common.{add-one}
use Rattle.graph_file.specs.Steps.{has_place}
use Rattle.graph_file.proofs.Rounds.{node_round, node_stop}
use Rattle.graph_file.proofs.reading.read_nodes.Goals as goal

pub returns-in-Err-clause-err : goal.returns-in-Err-clause-err
returns-in-Err-clause-err c = node_stop c.args.nodes.now c.loop-index.index c.index-nodes-index.result (has_place c.loop-index.places.keys) _ c.in-Err.refusal c.loop-index-test.true c.index-nodes-index.is c.in-Err.ensures.err c.loop-index.invariant.1

pub loop-index-preserved : goal.loop-index-preserved
loop-index-preserved c =
    node_round c.args.nodes.now c.loop-index.index _ c.index-nodes-index.result c.loop-index.graph.nodes c.add_node.new.graph.nodes (has_place c.loop-index.places.keys) (has_place c.add_node.new.places.keys) _ (add-one c.loop-index.index)
    c.loop-index-test.true c.index-nodes-index.is c.in_default.ensures.ok c.in_default.ensures.nodes c.in_default.ensures.places c.loop-index.invariant.0 c.loop-index.invariant.1
