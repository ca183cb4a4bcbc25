use Rattle.std.proofs.Common.{◌<◌, ◌≤◌, length, [], arith, ⊎_elim, rules}
use Rattle.std.proofs.lemmas.Bool.{cases_lt}
use Rattle.std.proofs.lemmas.List.{get_or_past}
use Rattle.tick_queue.proofs.ring_queue.empty_slots.Goals as goal

pub returns : goal.returns
returns g c = λ i. ⊎_elim (λ (h : i < 64). let called = c.from_fn.ensures.items.at i [] h in search rules) (λ (h : 64 ≤ i). let long : length c.from_fn.result ≤ i = omega (arith, c.from_fn.ensures.items.long) in get_or_past c.from_fn.result i [] long) (cases_lt i 64)
