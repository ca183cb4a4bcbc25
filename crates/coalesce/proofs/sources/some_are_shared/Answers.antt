-- One node more was met, in the end all.
use Rattle.coalesce.proofs.SourceSteps.{met_first, met_next, none_twins}
use Rattle.coalesce.proofs.sources.some_are_shared.Goals as goal

pub loop-key-init : goal.loop-key-init
loop-key-init c = met_first c.args.graph.now.nodes c.args.keys.now c.in_ok-met.met.marks.items

pub loop-key-preserved : goal.loop-key-preserved
loop-key-preserved c = met_next c.args.graph.now.nodes c.args.keys.now c.loop-key.key-index c.key-item.result c.loop-key.met.marks.items c.is_met_again.new.self.marks.items c.loop-key-test.true c.key-item.is
    c.is_met_again.ensures.keeps (c.is_met_again.ensures.new c.if-is_met_again.false) (c.is_met_again.ensures.met c.if-is_met_again.false) c.loop-key.invariant

pub returns : goal.returns
returns c = λ none. none_twins c.args.graph.now.nodes c.args.keys.now c.loop-key.key-index c.loop-key.met.marks.items c.requires c.loop-key-test.false c.loop-key.invariant
