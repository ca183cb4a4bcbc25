use Rattle.std.proofs.Common.{sym}
use Rattle.input_search.proofs.node_links.links_of_node.Goals as goal

pub links_at-requires-clause-inside : goal.links_at-requires-clause-inside
links_at-requires-clause-inside c = c.requires.spread.inside _ c.in-Some.pos (sym c.in-Some.ensures)
