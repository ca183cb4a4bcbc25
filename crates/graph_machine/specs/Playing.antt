-- A graph that plays: what its nodes hold, as a state of its circuit.
use Rattle.std.specs.Prelude.{◌≡◌, ◌≢◌, ◌⊎◌, ℕ, zero, suc, Bool, ◌+◌, ◌<◌, ◌≤◌, List, ◌++◌, Option, Some, None, length, sum_by}
use Rattle.circuit.specs.declared.Cell.{Cell}
use Rattle.circuit.specs.declared.Readings.{Readings}
use Rattle.circuit.specs.declared.Pos.{Pos}
use Rattle.circuit.specs.declared.Click.{Click}
use Rattle.circuit.specs.Bounds.{Bounded}
use Rattle.circuit.specs.Circuit.{State, outs, fire, fire_all, attended_at, fired_at, Clicks, Ticks, IsDue, IsFiringList}
use Rattle.circuit.specs.Firing.{due_at}
use Rattle.graph.specs.Graph.{Nodes, node_at}
use Rattle.graph.specs.GraphCircuit.{graph_circuit, role_at, first_at, readings_at}
use Rattle.graph.specs.Sound.{IsSound}
use Rattle.cell_queue.specs.Held.{Holding, cell_of}
use Rattle.graph_machine.specs.Wired.{Wired, given, IsTarget}
use Rattle.graph_machine.specs.Outgoing.{reads_of}
use Rattle.link_counts.specs.Counted.{one_if}

-- The nodes of the graph that was started, the time, what each key holds then, and how many events there were.
pub record Playing : Type 0 where
  pub nodes : Nodes
  pub time : ℕ
  pub cells : List Cell
  pub events : ℕ

abbrev pub state_of : ℕ → List Cell → State ℕ
state_of time cells = record { time = time; cells = cell_of cells }

-- the state of a graph that plays
abbrev pub state_in : Playing → State ℕ
state_in m = state_of m.time m.cells

abbrev pub held_state : Holding → State ℕ
held_state h = state_of h.time h.cells

-- A click was taken by a node, and so many links at most were read.
pub record TakesClick (g : Nodes) (pos : Pos) (click : Click) (old new : State ℕ) (before after : ℕ) : Type 0 where
  pub clicks : Clicks (graph_circuit g) pos click old new
  pub reads : after ≤ before + reads_of g clicks.key

-- In a tick these keys fired, each an event, and so many links at most were read.
pub record TakesTick (g : Nodes) (keys : List ℕ) (old new : State ℕ) (events_before events_after before after : ℕ) : Type 0 where
  pub ticks : Ticks (graph_circuit g) keys old new
  pub events : events_after ≡ events_before + length keys
  pub reads : after ≤ before + sum_by (reads_of g) keys

-- ---- inside of the machine

-- what a key reads, by what each key gives
abbrev pub reads_in : Wired → ℕ → Readings
reads_in w key = readings_at (given w.outs) (node_at w.nodes key)

-- what a cell is after its key attended
abbrev pub attended_in : Wired → ℕ → ℕ → Cell → Cell
attended_in w time key cell = attended_at time (role_at (node_at w.nodes key)) (first_at (node_at w.nodes key)) (reads_in w) key cell

-- and after it fired
abbrev pub fired_by : Wired → ℕ → ℕ → Cell → Cell
fired_by w time key cell = fired_at time (role_at (node_at w.nodes key)) (first_at (node_at w.nodes key)) (reads_in w) key cell

-- What is held is a state of the graph, and what is given is what that state gives.
pub record IsPlaying (w : Wired) (h : Holding) : Type 0 where
  pub sound : IsSound w.nodes
  pub whole : length h.cells ≡ length w.outs
  pub past : (key : ℕ) → length w.outs ≤ key → node_at w.nodes key ≡ None
  pub gives : (key : ℕ) → given w.outs key ≡ outs (graph_circuit w.nodes) (held_state h) key
  pub bounded : Bounded (graph_circuit w.nodes) (held_state h)
  pub idle : (key : ℕ) → role_at (node_at w.nodes key) ≡ None → (cell_of h.cells key).due ≡ 0

-- attending changes nothing under these keys, at whatever time
abbrev pub Still : Wired → Holding → (ℕ → Type 0) → Type 0
Still w h P = (time key : ℕ) → P key → attended_in w time key (cell_of h.cells key) ≡ cell_of h.cells key

abbrev pub AllStill : Wired → Holding → Type 0
AllStill w h = Still w h (λ key. Unit {0})

abbrev pub OthersStill : ℕ → Wired → Holding → Type 0
OthersStill key w h = Still w h (λ other. other ≢ key)

-- These keys attended, and no other did anything else.
pub record Attends (w : Wired) (time : ℕ) (P : ℕ → Type 0) (old new : List Cell) : Type 0 where
  pub whole : length new ≡ length old
  pub each : (key : ℕ) → (cell_of new key ≡ attended_in w time key (cell_of old key)) ⊎ (cell_of new key ≡ cell_of old key)
  pub done : (key : ℕ) → P key → cell_of new key ≡ attended_in w time key (cell_of old key)

-- the key is one of the first so many targets
pub record IsEarly (targets : List ℕ) (count key : ℕ) : Type 0 where
  pub target : IsTarget targets key
  pub early : target.index < count

-- the next firing of a tick, if something is due
pub record FiresOne (g : Nodes) (old new : State ℕ) (key : ℕ) : Type 0 where
  pub due : IsDue (graph_circuit g) old key
  pub least : (other : ℕ) → IsDue (graph_circuit g) old other → (old.cells key).priority ≤ (old.cells other).priority
  pub after : new ≡ fire (graph_circuit g) old key

pub record FiresNone (g : Nodes) (old new : State ℕ) : Type 0 where
  pub none : (key : ℕ) → IsDue (graph_circuit g) old key → ⊥
  pub same : new ≡ old

abbrev pub MayFire : Nodes → State ℕ → State ℕ → Option ℕ → Type 0
MayFire g old new None = FiresNone g old new
MayFire g old new (Some key) = FiresOne g old new key

-- how many links the next firing reads at most
abbrev pub reads_by : Nodes → Option ℕ → ℕ
reads_by g None = 0
reads_by g (Some key) = reads_of g key

-- All that is due fires in the order of a firing list, and is noted behind what was noted before. So many links at most are read.
pub record FiresDue (g : Nodes) (old new : State ℕ) (noted_before noted_after : List ℕ) (before after : ℕ) : Type 0 where
  pub fires : List ℕ
  pub noted : noted_after ≡ noted_before ++ fires
  pub order : IsFiringList (graph_circuit g) old fires
  pub state : new ≡ fire_all (graph_circuit g) old fires
  pub reads : after ≤ before + sum_by (reads_of g) fires

-- whether the node under a key is due
abbrev pub due_key : Nodes → State ℕ → ℕ → Bool
due_key g s key = due_at (role_at (node_at g key)) (s.cells key) s.time

-- how many of so many numbers from this one on pass a test
abbrev pub count_from : (ℕ → Bool) → ℕ → ℕ → ℕ
count_from test from zero = 0
count_from test from (suc count) = one_if (test from) + count_from test (suc from) count

-- how many nodes are due
abbrev pub due_count : Nodes → State ℕ → ℕ
due_count g s = count_from (due_key g s) 0 (length g)
