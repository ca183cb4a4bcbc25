use Rattle.world_order.proofs.Begun.{due_before, whole_from, firing_list_begins, begins_front, amiss_no_list}
use Rattle.world_order.proofs.laws.a_tick_is_whole.Goals as goal

pub returns-clause-whole : goal.returns-clause-whole
returns-clause-whole g c = λ C t s fired b. (λ f key l. l.fresh (f.all key l.due), λ none. whole_from C t s fired b (λ key d. none key (due_before C t s fired b key d)))

pub returns-clause-fronts : goal.returns-clause-fronts
returns-clause-fronts g c = λ C t s fired more f. (begins_front C s fired more (firing_list_begins C t s _ f)).0

pub returns-clause-refused : goal.returns-clause-refused
returns-clause-refused g c = λ C t s fired key un more f. amiss_no_list C t s fired key more un f
