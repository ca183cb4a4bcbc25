use Rattle.std.specs.HashMap.{get}
use Rattle.graph.specs.Clicks.{is_same_place}
use Rattle.graph_file.proofs.PlacedSteps.{takes_placed, wire_placed}
use Rattle.graph_file.proofs.placed.PlacedTargets.new.Goals as goal

pub returns-clause-takes : goal.returns-clause-takes
returns-clause-takes c = takes_placed c.args.graph.now.nodes c.requires (λ place. get is_same_place c.in_ok-kinds.kinds place) c.in_ok-kinds.ensures

pub returns-clause-wire : goal.returns-clause-wire
returns-clause-wire c = wire_placed c.args.graph.now.nodes c.requires (λ place. get is_same_place c.in_ok-kinds.kinds place) c.in_ok-kinds.ensures
