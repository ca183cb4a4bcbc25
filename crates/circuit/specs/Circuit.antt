-- Circuits: components under keys, each of which reads what the others give. How they change in time.
use Rattle.std.specs.Prelude.{◌≡◌, ◌≢◌, ℕ, ◌+◌, ◌≤◌, Bool, List, [], ◌∷◌, map, Option, Some, None, ◌⊎◌, if◌then◌else◌}
use Rattle.circuit.specs.declared.Component.{Component}
use Rattle.circuit.specs.declared.Component.TheVariants.{Wire}
use Rattle.circuit.specs.declared.Click.{Click}
use Rattle.circuit.specs.declared.Readings.{Readings}
use Rattle.circuit.specs.declared.Cell.{Cell}
use Rattle.circuit.specs.declared.Pos.{Pos}
use Rattle.circuit.specs.Component.{out, attended, fired, clicked}

-- A circuit, by its keys: the places of a build, or the numbers of a graph's nodes.
pub record Circuit (K : Type 0) : Type 0 where
  -- whether two keys are one
  pub same : K → K → Bool
  -- the component under a key, if there is one
  pub role : K → Option Component
  -- whether it is a diode that faces a diode, which fires before others of its tick
  pub first : K → Bool
  -- the power that a key without a component gives, always
  pub base : K → ℕ
  -- what a key holds before the start
  pub begin : K → Cell
  -- where a key stands, for clicks
  pub place : K → Pos
  -- what a key reads, where each key gives so much
  pub readings : (K → ℕ) → K → Readings
  -- the keys that a view shows, in order
  pub shown : List K

-- A time, and what each key holds then. A key without a component carries its cell along unchanged.
pub record State (K : Type 0) : Type 0 where
  pub time : ℕ
  pub cells : K → Cell

abbrev pub out_at : Option Component → ℕ → Cell → ℕ
out_at None base cell = base
out_at (Some component) base cell = out component cell.value

-- what each key gives in a state
abbrev pub outs : {K : Type 0} → Circuit K → State K → K → ℕ
outs C s k = out_at (C.role k) (C.base k) (s.cells k)

-- the state with another cell under one key
abbrev pub put : {K : Type 0} → Circuit K → State K → K → Cell → State K
put C s key cell = record { time = s.time; cells = λ k. if C.same k key then cell else s.cells k }

abbrev pub attended_at : {K : Type 0} → ℕ → Option Component → Bool → (K → Readings) → K → Cell → Cell
attended_at time None first reads k cell = cell
attended_at time (Some component) first reads k cell = attended time component first (reads k) cell

-- All components attend at once, to what they read in this state.
abbrev pub attend : {K : Type 0} → Circuit K → State K → State K
attend C s = record { time = s.time; cells = λ k. attended_at s.time (C.role k) (C.first k) (C.readings (outs C s)) k (s.cells k) }

abbrev pub fired_at : {K : Type 0} → ℕ → Option Component → Bool → (K → Readings) → K → Cell → Cell
fired_at time None first reads k cell = cell
fired_at time (Some component) first reads k cell = fired time component first (reads k) cell

-- what a key holds when it has fired, by what it reads before
abbrev pub fired_in : {K : Type 0} → Circuit K → State K → K → Cell
fired_in C s key = fired_at s.time (C.role key) (C.first key) (C.readings (outs C s)) key (s.cells key)

-- One component fires, and then all attend.
abbrev pub fire : {K : Type 0} → Circuit K → State K → K → State K
fire C s key = attend C (put C s key (fired_in C s key))

-- they fire one after another
abbrev pub fire_all : {K : Type 0} → Circuit K → State K → List K → State K
fire_all C s [] = s
fire_all C s (key ∷ keys) = fire_all C (fire C s key) keys

abbrev pub with_value : Cell → ℕ → Cell
with_value cell value = record { value = value; due = cell.due; priority = cell.priority }

-- one component takes a value, keeping its tick, and then all attend
abbrev pub set_value : {K : Type 0} → Circuit K → State K → K → ℕ → State K
set_value C s key value = attend C (put C s key (with_value (s.cells key) value))

-- The click leads from the old state to the new one: a component of that place takes it.
pub record Clicks {K : Type 0} (C : Circuit K) (pos : Pos) (click : Click) (old new : State K) : Type 0 where
  pub key : K
  pub component : Component
  pub value : ℕ
  pub there : C.role key ≡ Some component
  pub place : C.place key ≡ pos
  pub takes : clicked component click (old.cells key).value ≡ Some value
  pub after : new ≡ set_value C old key value

-- one tick of time later, with nothing fired yet
abbrev pub later : {K : Type 0} → State K → State K
later s = record { time = s.time + 1; cells = s.cells }

-- the key has a component, and a tick pending for this time
pub record IsDue {K : Type 0} (C : Circuit K) (s : State K) (key : K) : Type 0 where
  pub component : Component
  pub there : C.role key ≡ Some component
  pub waits : (s.cells key).due ≢ 0
  pub now : (s.cells key).due ≡ s.time

-- each key of the list is so
abbrev pub Each : {K : Type 0} → (K → Type 0) → List K → Type 0
Each P [] = Unit {0}
Each P (key ∷ keys) = P key × Each P keys

-- each key of the list stands so to every later one
abbrev pub EachBefore : {K : Type 0} → (K → K → Type 0) → List K → Type 0
EachBefore R [] = Unit {0}
EachBefore R (key ∷ keys) = Each (R key) keys × EachBefore R keys

-- the key is in the list
abbrev pub Among : {K : Type 0} → List K → K → Type 0
Among [] key = ⊥
Among (first ∷ keys) key = (key ≡ first) ⊎ Among keys key

-- The list has each key that is due exactly once, and the priority numbers never fall along it.
pub record IsFiringList {K : Type 0} (C : Circuit K) (s : State K) (keys : List K) : Type 0 where
  pub due : Each (IsDue C s) keys
  pub all : (key : K) → IsDue C s key → Among keys key
  pub once : EachBefore (λ a b. a ≢ b) keys
  pub rising : EachBefore (λ a b. (s.cells a).priority ≤ (s.cells b).priority) keys

-- A tick leads from the old state to the new one: the time rises by one, and what is due then fires in the order of a firing list.
pub record Ticks {K : Type 0} (C : Circuit K) (keys : List K) (old new : State K) : Type 0 where
  pub order : IsFiringList C (later old) keys
  pub after : new ≡ fire_all C (later old) keys

-- At time 0 all attend once.
abbrev pub start : {K : Type 0} → Circuit K → State K
start C = attend C (record { time = 0; cells = C.begin })

abbrev pub seen_at : {K : Type 0} → Option Component → (K → Readings) → K → Cell → ℕ
seen_at None reads k cell = 0
seen_at (Some Wire) reads k cell = (reads k).back
seen_at (Some component) reads k cell = cell.value

-- what a key shows: a wire its power, every other component its value
abbrev pub seen : {K : Type 0} → Circuit K → State K → K → ℕ
seen C s k = seen_at (C.role k) (C.readings (outs C s)) k (s.cells k)

-- what is shown of a state
abbrev pub view : {K : Type 0} → Circuit K → State K → List ℕ
view C s = map (seen C s) C.shown
