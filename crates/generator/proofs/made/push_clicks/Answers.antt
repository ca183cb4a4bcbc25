use Rattle.generator.specs.Made.{unit_acts}
use Rattle.generator.proofs.Clicks.{with_acts-three}
use Rattle.generator.proofs.made.push_clicks.Goals as goal

pub returns : goal.returns
unfolding unit_acts
returns c = with_acts-three _ _ _ _ _ _ _ c.in_ok-push_use_if.ensures c.in_ok-push_use_if-2.ensures c.in_ok-push_use_if-3.ensures
