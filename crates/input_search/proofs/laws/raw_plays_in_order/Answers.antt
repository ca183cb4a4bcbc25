use Rattle.input_search.proofs.RawWorld.{raw_in_order}
use Rattle.input_search.proofs.laws.raw_plays_in_order.Goals as goal

pub returns : goal.returns
returns c = raw_in_order
