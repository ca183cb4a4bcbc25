-- What a running world is, and what it is seen as.
use Rattle.std.specs.Prelude.{◌≡◌, ◌≢◌, ◌≤◌, ◌<◌, ◌^◌, ◌⊎◌, slice_index, slice_index_or, ℕ, length, map, List, Some, None}
use Rattle.circuit.specs.declared.Pos.{Pos}
use Rattle.circuit.specs.declared.Component.{Component}
use Rattle.circuit.specs.declared.Readings.{Readings}
use Rattle.circuit.specs.declared.Cell.{Cell}
use Rattle.circuit.specs.Component.{top}
use Rattle.circuit.specs.Circuit.{Circuit, State, IsDue, fire, outs, seen, attended_at}
use Rattle.cell_counts.specs.Held.{Holding}
use Rattle.build.specs.declared.OutPlace.{OutPlace}
use Rattle.build.specs.Plan.{Plan, entry, places}
use Rattle.build.specs.Outputs.{outputs}
use Rattle.build.specs.Roles.{role_at, first_at}
use Rattle.wire_net.specs.Net.{IsRight}
use Rattle.wire_net.specs.Noted.{Waved, IsNoted}
use Rattle.power_rules.specs.Readings.{readings_at}
use Rattle.power_rules.specs.RightWires.{level_with}
use Rattle.power_rules.specs.World.{world_circuit}
use Rattle.replay_engine.specs.Things.{Numbered, IsNumbered, held, nothing, state_by}
use Rattle.replay_engine.specs.WireThings.{thing_cells, feeders_in}
use Rattle.replay_engine.specs.Near.{IsNearby, origin}
use Rattle.replay_engine.specs.declared.events.Unlawful.{Unlawful}
use Rattle.replay_engine.specs.declared.events.Unlawful.TheVariants.{Twice, NotDue, Priority}

abbrev pub spot : Numbered → ℕ → Pos
spot m n = slice_index_or m.spots n origin

-- the build that runs, its marks, the time, and for each cell of the box what it holds and when it fired last, 0 where it never has
pub record Running : Type 0 where
  pub plan : Plan
  pub marks : List Pos
  pub time : ℕ
  pub cells : List Cell
  pub latest : List ℕ

-- the state of a running world; a place outside of the box holds nothing
abbrev pub state_in : Running → State Pos
state_in w = record { time = w.time; cells = entry w.plan w.cells nothing }

-- the place has fired at this time
abbrev pub HasFired : Running → Pos → Type 0
HasFired w p = entry w.plan w.latest 0 p ≡ w.time

-- what it is seen as where its things hold these cells and fired last at these times
abbrev pub seen_as : Numbered → ℕ → List Cell → List ℕ → Running
seen_as m time cells latest = record { plan = m.plan; marks = m.marks; time = time; cells = map (held m cells nothing) (places m.plan); latest = map (held m latest 0) (places m.plan) }

-- the state where the things hold these cells
abbrev pub state_of : Numbered → Holding → State Pos
state_of m h = state_by m h.time h.cells

-- the world as a circuit
abbrev pub circuit_of : Numbered → Circuit Pos
circuit_of m = world_circuit m.plan m.marks

-- what each place gives where the things hold these cells, whatever the time
abbrev pub given_by : Numbered → List Cell → Pos → ℕ
given_by m cells = outs (circuit_of m) (state_by m 0 cells)

-- what each place reads, where the things have these powers
abbrev pub reads_of : Numbered → List Cell → List ℕ → Pos → Readings
reads_of m cells powers = readings_at m.plan (level_with m.plan (given_by m cells) (held m powers 0))

-- the powers are right for what the cells give
abbrev pub ArePowers : Numbered → List Cell → List ℕ → Type 0
ArePowers m cells powers = IsRight (thing_cells m (given_by m cells)) powers

-- no power is above 15
abbrev pub AreSmall : List ℕ → Type 0
AreSmall powers = (n : ℕ) → slice_index powers n ≤ 15

-- no value is above the greatest of its component
abbrev pub AreWithin : Numbered → List Cell → Type 0
AreWithin m cells = (p : Pos) (component : Component) → role_at m.plan m.marks p ≡ Some component → (held m cells nothing p).value ≤ top component

-- ---- attending

-- what a place holds after it has attended to this
abbrev pub after_attending : Numbered → ℕ → (Pos → Readings) → Pos → Cell → Cell
after_attending m time reads p cell = attended_at time (role_at m.plan m.marks p) (first_at m.plan p) reads p cell

-- The places that are done have attended, to what was read from the old cells, and of all others each has or has not.
pub record Attends (m : Numbered) (time : ℕ) (powers : List ℕ) (old new : List Cell) (Done : Pos → Type 0) : Type 0 where
  pub each : (p : Pos) → (held m new nothing p ≡ held m old nothing p)
      ⊎ (held m new nothing p ≡ after_attending m time (reads_of m old powers) p (held m old nothing p))
  pub done : (p : Pos) → Done p → held m new nothing p ≡ after_attending m time (reads_of m old powers) p (held m old nothing p)

-- attending changes nothing at a place, at whatever time
abbrev pub IsStill : Numbered → List Cell → List ℕ → Pos → Type 0
IsStill m cells powers p = (time : ℕ) → after_attending m time (reads_of m cells powers) p (held m cells nothing p) ≡ held m cells nothing p

pub record AreStill (m : Numbered) (cells : List Cell) (powers : List ℕ) : Type 0 where
  pub each : (p : Pos) → IsStill m cells powers p

-- at each place but one
pub record OthersStill (m : Numbered) (cells : List Cell) (powers : List ℕ) (there : Pos) : Type 0 where
  pub each : (p : Pos) → p ≢ there → IsStill m cells powers p

-- a place within two steps of one of these things
abbrev pub IsNearOne : Numbered → (ℕ → Type 0) → Pos → Type 0
IsNearOne m Listed p = (n : ℕ) × Listed n × IsNearby (spot m n) p

-- what may read something else than before: a place near the one that changed, or near a wire whose power changed
abbrev pub IsReached : Numbered → Pos → Waved → Pos → Type 0
IsReached m there waves p = IsNearby there p ⊎ IsNearOne m (IsNoted waves) p

-- ---- what fires next

-- the next firing of a tick
pub record FiresOne (C : Circuit Pos) (old new : State Pos) (key : Pos) : Type 0 where
  pub due : IsDue C old key
  pub least : (other : Pos) → IsDue C old other → (old.cells key).priority ≤ (old.cells other).priority
  pub after : new ≡ fire C old key

-- why a place may not fire: it has fired at this time, it isn't due, or something that is due has a lesser priority
abbrev pub IsUnlawful : Circuit Pos → State Pos → Type 0 → Pos → Unlawful → Type 0
IsUnlawful C s Fired key Twice = Fired
IsUnlawful C s Fired key NotDue = (Fired → ⊥) × (IsDue C s key → ⊥)
IsUnlawful C s Fired key Priority = (Fired → ⊥) × IsDue C s key × ((other : Pos) × IsDue C s other × ((s.cells other).priority < (s.cells key).priority))

-- what an output shows, at whatever time
abbrev pub shown_of : Numbered → List Cell → OutPlace → ℕ
shown_of m cells o = seen (circuit_of m) (state_by m 0 cells) o.pos

-- ---- a world that runs

-- no tick is pending where no component stands
abbrev pub AreIdle : Numbered → List Cell → Type 0
AreIdle m cells = (p : Pos) → role_at m.plan m.marks p ≡ None → (held m cells nothing p).due ≡ 0

-- There is a cell for each thing, and no value is above its bound.
pub record IsHolding (m : Numbered) (h : Holding) : Type 0 where
  pub whole : length h.cells ≡ length m.spots
  pub within : AreWithin m h.cells
  pub early : h.time < 2 ^ 63

-- There is a power for each thing, and the powers are right.
pub record IsPlaying (m : Numbered) (h : Holding) (powers : List ℕ) (feeders : List (List ℕ)) : Type 0 where
  pub holding : IsHolding m h
  pub powers_whole : length powers ≡ length m.spots
  pub solved : ArePowers m h.cells powers
  pub made : feeders ≡ feeders_in m
  pub idle : AreIdle m h.cells

-- All have attended, what is shown is that of the build, and nothing has fired later than now.
pub record IsRunning (m : Numbered) (outs : List OutPlace) (h : Holding) (powers : List ℕ) (feeders : List (List ℕ)) (latest : List ℕ) : Type 0 where
  pub numbered : IsNumbered m
  pub shown : outs ≡ outputs m.plan m.marks
  pub playing : IsPlaying m h powers feeders
  pub still : AreStill m h.cells powers
  pub latest_whole : length latest ≡ length m.spots
  pub past : (n : ℕ) → slice_index latest n ≤ h.time
  pub early : h.time ≤ 2 ^ 62
