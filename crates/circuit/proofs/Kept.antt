-- What the start has and every event keeps, the end of a run has.
use Rattle.std.proofs.Common.{ℕ, List, [], ◌∷◌, sym, subst}
use Rattle.circuit.specs.declared.Act.{Act}
use Rattle.circuit.specs.declared.Step.{Step}
use Rattle.circuit.specs.Circuit.{Circuit, State, put, fired_in, fire, fire_all, with_value, later}
use Rattle.circuit.specs.Shows.{Run, Ended, Clicked, Ticked, Plays}
use Rattle.circuit.proofs.Matches.{IsInvariant}

kept_by_fires : {K : Type 0} {C : Circuit K} {I : State K → Type 0} → IsInvariant C I → (keys : List K) (s : State K) → I s → I (fire_all C s keys)
kept_by_fires keeps [] s h = h
kept_by_fires {C} keeps (key ∷ keys) s h = kept_by_fires keeps keys (fire C s key) (keeps.attends (put C s key (fired_in C s key)) (keeps.fires s key h))

pub kept_by_run : {K : Type 0} {C : Circuit K} {I : State K → Type 0} → IsInvariant C I →
    {s last : State K} {steps : List Step} {order : List (List K)} {views : List (List ℕ)} → Run C s steps order views last → I s → I last
kept_by_run keeps Ended h = h
kept_by_run {C} {I} keeps {s} (Clicked c run) h = kept_by_run keeps run
    (subst I (sym c.after) (keeps.attends (put C s c.key (with_value (s.cells c.key) c.value)) (keeps.clicks s c.key c.component _ c.value h c.there c.takes)))
kept_by_run {I} keeps {s} (Ticked {fires} tick run) h = kept_by_run keeps run (subst I (sym tick.after) (kept_by_fires keeps fires (later s) (keeps.passes s h)))

-- from the start to the last state
pub kept_by_plays : {K : Type 0} {C : Circuit K} {I : State K → Type 0} → IsInvariant C I →
    {acts : List Act} {order : List (List K)} {views : List (List ℕ)} {last : State K} → Plays C acts order views last → I last
kept_by_plays {C} keeps plays = kept_by_run keeps plays.run (keeps.attends (record { time = 0; cells = C.begin }) keeps.begins)
