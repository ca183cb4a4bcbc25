use Rattle.compiler.proofs.CompiledLaws.{compiled_takes}
use Rattle.compiler.proofs.laws.compiled_takes_clicks.Goals as goal

pub returns : goal.returns
returns c = compiled_takes
