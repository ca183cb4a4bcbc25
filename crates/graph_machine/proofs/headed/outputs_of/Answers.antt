use Rattle.std.proofs.Common.{List, ℕ, ◌≡◌, ◌∙◌, subst}
use Rattle.std.specs.Prelude.{IfOk}
use Rattle.std.specs.List.{filter_map}
use Rattle.graph_machine.specs.Headed.{output_at}
use Rattle.graph_machine.proofs.HeadedSteps.{as_long}
use Rattle.graph_machine.proofs.headed.outputs_of.Goals as goal

pub returns-clause-count : goal.returns-clause-count
returns-clause-count c =
    let nodes = c.args.graph.now.nodes in
    as_long (λ places. places.items) c.outputs_under.result nodes
    (subst (λ (keys : List ℕ). IfOk c.outputs_under.result (λ places. places.items ≡ filter_map (output_at nodes) keys)) (c.deref.ensures.value ∙ c.in_ok-keys.ensures) c.outputs_under.ensures)
