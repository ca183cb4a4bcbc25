use Rattle.compiled_files.proofs.OneMeaning.{one_meaning}
use Rattle.compiled_files.proofs.laws.a_script_has_one_meaning.Goals as goal

pub returns : goal.returns
returns c = one_meaning
