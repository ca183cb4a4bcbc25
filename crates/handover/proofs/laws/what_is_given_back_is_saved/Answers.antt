use Rattle.handover.proofs.Saved.{given_saved}
use Rattle.handover.proofs.laws.what_is_given_back_is_saved.Goals as goal

pub returns : goal.returns
returns c = λ b whole marks g compiled s played. given_saved b whole marks g compiled s played
