use Rattle.world_order.proofs.Fronts.{click_on, fire_on, tick_on, order_of, ticks_told}
use Rattle.world_order.proofs.laws.a_front_goes_on.Goals as goal

pub returns-clause-click : goal.returns-clause-click
returns-clause-click c = click_on

pub returns-clause-fire : goal.returns-clause-fire
returns-clause-fire c = fire_on

pub returns-clause-tick : goal.returns-clause-tick
returns-clause-tick c = tick_on

pub returns-clause-end : goal.returns-clause-end
returns-clause-end c = order_of

pub returns-clause-ticks : goal.returns-clause-ticks
returns-clause-ticks c = ticks_told
