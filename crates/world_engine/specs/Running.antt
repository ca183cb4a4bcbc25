-- What a running world is, and what it is seen as.
use Rattle.std.specs.Prelude.{◌≡◌, ◌≤◌, ◌<◌, ◌^◌, ℕ, length, map, List, Option, Some, None}
use Rattle.circuit.specs.declared.Pos.{Pos}
use Rattle.circuit.specs.declared.Component.{Component}
use Rattle.circuit.specs.declared.Readings.{Readings}
use Rattle.circuit.specs.declared.Cell.{Cell}
use Rattle.circuit.specs.Component.{top}
use Rattle.circuit.specs.Circuit.{Circuit, State, IsDue, IsFiringList, fire, fire_all, outs, seen, attended_at}
use Rattle.cell_queue.specs.Held.{Holding}
use Rattle.build.specs.declared.OutPlace.{OutPlace}
use Rattle.build.specs.Plan.{Plan, entry, places}
use Rattle.build.specs.Roles.{role_at, first_at}
use Rattle.power_rules.specs.World.{world_circuit}
pub use Rattle.wiring.specs.Things.{spot}
use Rattle.wiring.specs.Things.{Numbered, held, nothing, state_by}

-- the build that runs, its marks, the time, and what each cell of the box holds
pub record Running : Type 0 where
  pub plan : Plan
  pub marks : List Pos
  pub time : ℕ
  pub cells : List Cell

-- the state of a running world; a place outside of the box holds nothing
abbrev pub state_in : Running → State Pos
state_in w = record { time = w.time; cells = entry w.plan w.cells nothing }

-- what it is seen as where its things hold these cells
abbrev pub seen_as : Numbered → ℕ → List Cell → Running
seen_as m time cells = record { plan = m.plan; marks = m.marks; time = time; cells = map (held m cells nothing) (places m.plan) }

-- the state where the things hold these cells
abbrev pub state_of : Numbered → Holding → State Pos
state_of m h = state_by m h.time h.cells

-- the world as a circuit
abbrev pub circuit_of : Numbered → Circuit Pos
circuit_of m = world_circuit m.plan m.marks

-- what each place gives where the things hold these cells, whatever the time
abbrev pub given_by : Numbered → List Cell → Pos → ℕ
given_by m cells = outs (circuit_of m) (state_by m 0 cells)

-- no value is above the greatest of its component
abbrev pub AreWithin : Numbered → List Cell → Type 0
AreWithin m cells = (p : Pos) (component : Component) → role_at m.plan m.marks p ≡ Some component → (held m cells nothing p).value ≤ top component

abbrev pub value_of : Cell → ℕ
value_of cell = cell.value

-- ---- attending

-- what a place holds after it has attended to this
abbrev pub after_attending : Numbered → ℕ → (Pos → Readings) → Pos → Cell → Cell
after_attending m time reads p cell = attended_at time (role_at m.plan m.marks p) (first_at m.plan p) reads p cell

-- ---- what fires next

-- the next firing of a tick
pub record FiresOne (C : Circuit Pos) (old new : State Pos) (key : Pos) : Type 0 where
  pub due : IsDue C old key
  pub least : (other : Pos) → IsDue C old other → (old.cells key).priority ≤ (old.cells other).priority
  pub after : new ≡ fire C old key

-- nothing is due, and nothing fires
pub record FiresNone (C : Circuit Pos) (old new : State Pos) : Type 0 where
  pub none : (key : Pos) → IsDue C old key → ⊥
  pub same : new ≡ old

-- the thing of a number fires, if there is one
abbrev pub MayFire : Numbered → State Pos → State Pos → Option ℕ → Type 0
MayFire m old new None = FiresNone (circuit_of m) old new
MayFire m old new (Some n) = (n < length m.spots) × FiresOne (circuit_of m) old new (spot m n)

-- from the old state all that is due fires, in the order of a firing list, and the new state is that after it
pub record FiresAll (C : Circuit Pos) (old new : State Pos) : Type 0 where
  pub keys : List Pos
  pub order : IsFiringList C old keys
  pub after : new ≡ fire_all C old keys

-- what an output shows, at whatever time
abbrev pub shown_of : Numbered → List Cell → OutPlace → ℕ
shown_of m cells o = seen (circuit_of m) (state_by m 0 cells) o.pos

-- ---- a world that runs

-- no tick is pending where no component stands
abbrev pub AreIdle : Numbered → List Cell → Type 0
AreIdle m cells = (p : Pos) → role_at m.plan m.marks p ≡ None → (held m cells nothing p).due ≡ 0

-- There is a cell for each thing, and no value is above its bound.
pub record IsHolding (m : Numbered) (h : Holding) : Type 0 where
  pub whole : length h.cells ≡ length m.spots
  pub within : AreWithin m h.cells
  pub early : h.time < 2 ^ 63
