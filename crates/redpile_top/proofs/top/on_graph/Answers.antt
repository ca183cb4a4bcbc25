use Rattle.graph_file.proofs.TargetSteps.{acts_taken}
use Rattle.redpile_top.proofs.top.on_graph.Goals as goal

pub play_graph-requires-clause-taken : goal.play_graph-requires-clause-taken
play_graph-requires-clause-taken g c = acts_taken c.in-Ok.found.0.nodes c.in-Ok.found.1.acts c.in-Ok.ensures.script.clicks
