use Rattle.compiler.proofs.SavedLaws.{saved_run}
use Rattle.handover.specs.GivenBack.{given_back}
use Rattle.handover.proofs.Saved.{given_saved}
use Rattle.handover.proofs.laws.what_is_given_back_stands_for_the_world.Goals as goal

pub returns : goal.returns
returns c = λ b whole marks g compiled acts order views last plays.
    saved_run b (given_back b g last) whole marks g compiled acts order views last plays
    (given_saved b whole marks g compiled last (record { acts = acts; order = order; views = views; plays = plays }))
