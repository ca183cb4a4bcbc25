use Rattle.std.proofs.Common.{sym, subst, add-one}
use Rattle.graph.specs.Graph.{Nodes, Lives}
use Rattle.graph_file.proofs.Rounds.{link_round, link_stop}
use Rattle.graph_file.proofs.SoundFile.{linked_lives}
use Rattle.graph_file.proofs.reading.read_links.Goals as goal

pub add_link-requires-clause-live : goal.add_link-requires-clause-live
add_link-requires-clause-live c key less = subst (λ (g : Nodes). Lives g key) (sym c.loop-index.invariant.0) (linked_lives _ c.args.graph.now.nodes key (c.requires.live key less))

pub returns-in-Err-clause-err : goal.returns-in-Err-clause-err
returns-in-Err-clause-err c = link_stop c.args.links.now c.loop-index.index c.args.count c.index-links-index.result _ c.in-Err.refusal c.loop-index-test.true c.index-links-index.is c.in-Err.ensures.err c.loop-index.invariant.1

pub loop-index-preserved : goal.loop-index-preserved
loop-index-preserved c =
    link_round c.args.links.now c.loop-index.index _ c.args.count c.index-links-index.result c.args.graph.now.nodes c.loop-index.graph.nodes c.add_link.new.graph.nodes _ (add-one c.loop-index.index) c.loop-index-test.true
    c.index-links-index.is c.in_default.ensures.ok c.in_default.ensures.nodes c.loop-index.invariant.0 c.loop-index.invariant.1
