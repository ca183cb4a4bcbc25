use Rattle.compiled_files.proofs.OneMeaning.{played_shows}
use Rattle.compiled_files.proofs.laws.a_played_file_shows_its_build.Goals as goal

pub returns : goal.returns
returns c = played_shows
