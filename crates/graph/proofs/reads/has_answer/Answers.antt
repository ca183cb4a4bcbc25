-- The test of an entry tells of the node under the key.
use Rattle.std.proofs.Common.{◌≡◌, ◌∙◌, sym, ap, true, refl, below_more, Option}
use Rattle.graph.specs.Graph.{Node, node_at}
use Rattle.graph.specs.Stored.{plain_nodes}
use Rattle.graph.specs.Clicks.{answers_at}
use Rattle.graph.proofs.NodeSteps.{entry_is}
use Rattle.graph.proofs.ClickSteps.{answer_here}
use Rattle.graph.proofs.reads.has_answer.Goals as goal

pub returns-then-answers_at : goal.returns-then-answers_at
returns-then-answers_at c =
    let here : answers_at (node_at (plain_nodes c.args.nodes.now.entries) c.loop-number.number) c.args.pos c.args.click ≡ true =
    ap (λ (entry : Option Node). answers_at entry c.args.pos c.args.click) (sym (entry_is c.args.nodes.now.entries c.loop-number.number c.new.result _ c.get.ensures c.new.ensures))
    ∙ sym c.answers_at.ensures ∙ c.if-answers_at.true in
    ((λ t. answer_here (plain_nodes c.args.nodes.now.entries) c.loop-number.number c.args.pos c.args.click (node_at (plain_nodes c.args.nodes.now.entries) c.loop-number.number) refl here), (λ h. refl))

pub loop-number-preserved : goal.loop-number-preserved
loop-number-preserved c = below_more _ _ c.loop-number.invariant
    (ap (λ (entry : Option Node). answers_at entry c.args.pos c.args.click) (sym (entry_is c.args.nodes.now.entries c.loop-number.number c.new.result _ c.get.ensures c.new.ensures))
    ∙ sym c.answers_at.ensures ∙ c.if-answers_at.false)
