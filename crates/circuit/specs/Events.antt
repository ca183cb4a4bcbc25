-- What two circuits with the same keys do at each firing.
use Rattle.std.specs.Prelude.{◌≡◌, ℕ, List, ◌++◌}
use Rattle.circuit.specs.declared.Act.{Act}
use Rattle.circuit.specs.Circuit.{Circuit, State, later, fire_all, IsFiringList}
use Rattle.circuit.specs.Shows.{Plays}
use Rattle.circuit.specs.Rest.{AgreeBut}

-- Where a run of the new circuit has come, firings of the next tick lead both circuits to the same state, however many there were so far.
pub record SameEvents {K : Type 0} (old new : Circuit K) : Type 0 where
  pub fires : (acts : List Act) (order : List (List K)) (views : List (List ℕ)) (last : State K) → Plays new acts order views last → (keys : List K) → fire_all new (later last) keys ≡ fire_all old (later last) keys

-- Where states agree but at a key, they agree so after each firing of the next tick.
pub record EventsAgreeBut {K : Type 0} (key : K) (value : ℕ) (old new : Circuit K) : Type 0 where
  pub fires : (s2 s1 : State K) → AgreeBut key value s2 s1 → (done left : List K) → IsFiringList new (later s2) (done ++ left) → AgreeBut key value (fire_all new (later s2) done) (fire_all old (later s1) done)
