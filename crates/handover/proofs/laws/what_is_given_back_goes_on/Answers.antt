use Rattle.std.proofs.Common.{map}
use Rattle.power_rules.proofs.Joining.{shows_joined}
use Rattle.compiler.specs.PlaceOrder.{expand}
use Rattle.compiler.proofs.SavedLaws.{saved_run}
use Rattle.handover.specs.GivenBack.{given_back}
use Rattle.handover.proofs.Saved.{given_saved}
use Rattle.handover.proofs.laws.what_is_given_back_goes_on.Goals as goal

pub returns : goal.returns
returns c = λ b whole marks g compiled acts order views last plays more_acts more_views shown.
    (let by_world = saved_run b (given_back b g last) whole marks g compiled acts order views last plays
    (given_saved b whole marks g compiled last (record { acts = acts; order = order; views = views; plays = plays })) in
    shows_joined b (given_back b g last) marks acts (map (expand g) order) views by_world.0 by_world.1 by_world.2 more_acts more_views shown)
