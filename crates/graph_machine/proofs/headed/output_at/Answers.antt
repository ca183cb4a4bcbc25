use Rattle.std.proofs.Common.{ap, ◌∙◌}
use Rattle.graph.specs.Graph.{node_at}
use Rattle.graph_machine.specs.Headed.{part_place}
use Rattle.graph_machine.proofs.HeadedSteps.{part_place-at}
use Rattle.graph_machine.proofs.headed.output_at.Goals as goal

pub returns : goal.returns
returns c = c.part_place.ensures ∙ ap part_place c.part_under.ensures ∙ part_place-at (node_at c.args.graph.now.nodes c.args.key)
