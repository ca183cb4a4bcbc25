use Rattle.input_search.proofs.SoundRaw.{raw_sound}
use Rattle.input_search.proofs.laws.raw_is_sound.Goals as goal

pub returns : goal.returns
returns c = raw_sound
