-- The moments of a run, also between two firings of one tick, and what is right in each.
use Rattle.std.specs.Prelude.{◌≡◌, ◌≤◌, ℕ, true, List, [], ◌∷◌, ◌++◌}
use Rattle.circuit.specs.declared.Pos.{Pos}
use Rattle.circuit.specs.declared.Readings.{Readings}
use Rattle.circuit.specs.declared.Step.{Step}
use Rattle.circuit.specs.Bounds.{Bounded}
use Rattle.circuit.specs.Circuit.{Circuit, State, outs, later, fire}
use Rattle.circuit.specs.Shows.{Run, Ended, Clicked, Ticked}
use Rattle.build.specs.Plan.{Plan}
use Rattle.wire_shape.specs.Shape.{wire_at}
use Rattle.power_rules.specs.Readings.{readings_at}
use Rattle.power_rules.specs.RightWires.{AreRight, level_with}
use Rattle.power_rules.specs.World.{world_circuit}

-- the states after each of these firings
abbrev pub after_each : {K : Type 0} → Circuit K → State K → List K → List (State K)
after_each C s [] = []
after_each C s (key ∷ keys) = fire C s key ∷ after_each C (fire C s key) keys

-- The states of a run, in order: the first, the one after each click, and in each tick the one before anything has fired, the one after each firing, and the one at its end.
abbrev pub moments : {K : Type 0} {C : Circuit K} {s last : State K} {steps : List Step} {order : List (List K)} {views : List (List ℕ)} → Run C s steps order views last → List (State K)
moments {s} Ended = s ∷ []
moments {s} (Clicked clicks run) = s ∷ moments run
moments {C} {s} (Ticked {fires} tick run) = s ∷ later s ∷ (after_each C (later s) fires ++ moments run)

-- what each place gives in a state of the world
abbrev pub given_in : Plan → List Pos → State Pos → Pos → ℕ
given_in b marks s = outs (world_circuit b marks) s

-- what each place reads in it
abbrev pub read_in : Plan → List Pos → State Pos → Pos → Readings
read_in b marks s = (world_circuit b marks).readings (given_in b marks s)

-- All is right in a state: the wires have the powers that are right for what the components give then, there are no other such powers,
-- and each place reads under them. No level and no power that is read is above 15, and no value above the top of its component.
pub record IsRightIn (b : Plan) (marks : List Pos) (s : State Pos) : Type 0 where
  pub power : Pos → ℕ
  pub right : AreRight b (given_in b marks s) power
  pub one : (other : Pos → ℕ) → AreRight b (given_in b marks s) other → (p : Pos) → wire_at b p ≡ true → other p ≡ power p
  pub reads : (p : Pos) → read_in b marks s p ≡ readings_at b (level_with b (given_in b marks s) power) p
  pub small : (p : Pos) → level_with b (given_in b marks s) power p ≤ 15
  pub read_small : (p : Pos) → ((read_in b marks s p).back ≤ 15) × ((read_in b marks s p).side ≤ 15)
  pub values : Bounded (world_circuit b marks) s
