use Rattle.std.proofs.Common.{ap, ◌∙◌}
use Rattle.build.specs.Plan.{in_box}
use Rattle.build.specs.Places.{place_inside}
use Rattle.node_finder.proofs.bare_node.Goals as goal

pub kind_of-requires : goal.kind_of-requires
kind_of-requires c = ap (in_box c.args.build.now) c.place-pos.ensures ∙ place_inside c.args.build.now c.args.cell c.requires.inside
