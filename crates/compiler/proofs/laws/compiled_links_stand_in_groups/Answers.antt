use Rattle.compiler.proofs.LinkGroups.{compiled_grouped}
use Rattle.compiler.proofs.laws.compiled_links_stand_in_groups.Goals as goal

pub returns : goal.returns
returns c = λ b marks keep g compiled. compiled_grouped b marks keep g compiled
