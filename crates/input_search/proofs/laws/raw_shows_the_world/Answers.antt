use Rattle.input_search.proofs.RawWorld.{raw_refines}
use Rattle.input_search.proofs.laws.raw_shows_the_world.Goals as goal

pub returns : goal.returns
returns c = raw_refines
