-- The test of an entry tells of the node under the key.
use Rattle.std.proofs.Common.{◌≡◌, ◌∙◌, sym, ap, true, refl, below_more, Option}
use Rattle.graph.specs.Graph.{Node, node_at}
use Rattle.graph.specs.Stored.{plain_nodes}
use Rattle.graph.specs.Clicks.{is_wire_at}
use Rattle.graph.proofs.NodeSteps.{entry_is}
use Rattle.graph.proofs.ClickSteps.{wire_here}
use Rattle.graph.proofs.reads.has_wire.Goals as goal

pub returns-then-is_wire_at : goal.returns-then-is_wire_at
returns-then-is_wire_at c =
    let here : is_wire_at (node_at (plain_nodes c.args.nodes.now.entries) c.loop-number.number) c.args.pos ≡ true =
    ap (λ (entry : Option Node). is_wire_at entry c.args.pos) (sym (entry_is c.args.nodes.now.entries c.loop-number.number c.new.result _ c.get.ensures c.new.ensures))
    ∙ sym c.is_wire_at.ensures ∙ c.if-is_wire_at.true in
    ((λ t. wire_here (plain_nodes c.args.nodes.now.entries) c.loop-number.number c.args.pos (node_at (plain_nodes c.args.nodes.now.entries) c.loop-number.number) refl here), (λ h. refl))

pub loop-number-preserved : goal.loop-number-preserved
loop-number-preserved c = below_more _ _ c.loop-number.invariant
    (ap (λ (entry : Option Node). is_wire_at entry c.args.pos) (sym (entry_is c.args.nodes.now.entries c.loop-number.number c.new.result _ c.get.ensures c.new.ensures))
    ∙ sym c.is_wire_at.ensures ∙ c.if-is_wire_at.false)
