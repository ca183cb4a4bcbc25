-- The keys of the arena are those of its nodes.
use Rattle.std.proofs.Common.{◌∙◌, sym, ap}
use Rattle.std.proofs.lemmas.Result.{IfOk-weaker}
use Rattle.node_arena.specs.Items.{keys_of}
use Rattle.graph.specs.Graph.{Graph}
use Rattle.graph.specs.Stored.{plain}
use Rattle.graph.proofs.NodeSteps.{keys-map}
use Rattle.graph.proofs.Graph.keys.Goals as goal

pub returns : goal.returns
returns c = IfOk-weaker c.keys.result _ _
    (λ keys e. e ∙ sym (keys-map plain 0 c.self.inside.nodes.entries) ∙ ap (λ (graph : Graph). keys_of graph.nodes) c.self.view_is) c.keys.ensures
