use Rattle.input_search.proofs.WhichLinks.{wire_links-exact}
use Rattle.input_search.proofs.laws.links_are_distances.Goals as goal

pub returns : goal.returns
returns c = wire_links-exact
