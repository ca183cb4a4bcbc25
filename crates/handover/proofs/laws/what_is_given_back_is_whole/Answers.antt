use Rattle.std.proofs.Common.{refl}
use Rattle.compiler.proofs.BuildPlaces.{compiled_blocks}
use Rattle.compiler.proofs.CompiledLaws.{compiled_sound}
use Rattle.handover.specs.GivenBack.{given_back}
use Rattle.handover.proofs.WholeAgain.{given_is_whole}
use Rattle.handover.proofs.laws.what_is_given_back_is_whole.Goals as goal

pub returns-clause-whole : goal.returns-clause-whole
returns-clause-whole c = λ b whole marks keep g compiled s played.
    given_is_whole b whole g (compiled_sound b whole marks keep g compiled) (record { blocks = compiled_blocks b marks keep g compiled }) s played

pub returns-clause-version : goal.returns-clause-version
unfolding given_back
returns-clause-version c = λ b g s. refl
