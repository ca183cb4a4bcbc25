-- What the events of a run cost in all.
use Rattle.std.specs.Prelude.{ℕ, ◌+◌, List, sum_by}
use Rattle.circuit.specs.declared.Step.{Step}
use Rattle.circuit.specs.Circuit.{Circuit, State}
use Rattle.circuit.specs.Shows.{Run, Ended, Clicked, Ticked}

-- where an event of a key costs so much: a click one of the key that takes it, a tick one of each key that fires
abbrev pub cost_of_run : {K : Type 0} {C : Circuit K} (cost : K → ℕ) {s last : State K} {steps : List Step} {order : List (List K)} {views : List (List ℕ)} → Run C s steps order views last → ℕ
cost_of_run cost Ended = 0
cost_of_run cost (Clicked clicks run) = cost clicks.key + cost_of_run cost run
cost_of_run cost (Ticked {fires} ticks run) = sum_by cost fires + cost_of_run cost run
