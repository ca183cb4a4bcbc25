use Rattle.std.proofs.Common.{◌∷◌, []}
use Rattle.world_order.proofs.Begun.{due_before, due_after, next_lawful, lawful_next, begins_more, begins_front}
use Rattle.world_order.proofs.laws.a_firing_is_lawful.Goals as goal

pub returns-clause-due : goal.returns-clause-due
returns-clause-due g c = λ C t s fired b key. (due_before C t s fired b key, λ l. (due_after C t s fired key l).0)

pub returns-clause-now : goal.returns-clause-now
returns-clause-now g c = λ C t s fired b key. (next_lawful C t s fired b key, lawful_next C t s fired b key)

pub returns-clause-more : goal.returns-clause-more
returns-clause-more g c = λ C t s fired b key.
    (λ m. next_lawful C t s fired b key (begins_front C s fired (key ∷ []) m).1.0, λ l. begins_more C s fired key b (lawful_next C t s fired b key l))
