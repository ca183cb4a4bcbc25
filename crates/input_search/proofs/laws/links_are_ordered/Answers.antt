use Rattle.input_search.proofs.Order.{wire_links-ordered}
use Rattle.input_search.proofs.laws.links_are_ordered.Goals as goal

pub returns : goal.returns
returns c = wire_links-ordered
