use Rattle.coalesce.proofs.TriedSteps.{known_first}
use Rattle.coalesce.proofs.sweep.Known.of.Goals as goal

pub returns : goal.returns
returns c = known_first c.args.graph.now.nodes c.args.keys.now c.in_ok-fans.fans.lists.items c.add_all.new.self.lists c.requires c.in_ok-fans.ensures c.in_ok-add_all.ensures.all
