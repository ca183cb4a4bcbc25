-- What the outputs show, and how it is kept right.
use Rattle.std.specs.Prelude.{◌≡◌, ℕ, ◌<◌, ◌⊎◌, List, length, slice_index}
use Rattle.circuit.specs.declared.Cell.{Cell}
use Rattle.circuit.specs.Circuit.{seen_at}
use Rattle.graph.specs.Graph.{node_at}
use Rattle.graph.specs.GraphCircuit.{role_at}
use Rattle.cell_queue.specs.Held.{cell_of}
use Rattle.graph_machine.specs.Wired.{Wired}
use Rattle.graph_machine.specs.Playing.{reads_in}

-- for so many keys: those of the outputs, and what each output shows
pub record Screened : Type 0 where
  pub count : ℕ
  pub keys : List ℕ
  pub shown : List ℕ

-- what a key must show
abbrev pub face : Wired → List Cell → ℕ → ℕ
face w cells key = seen_at (role_at (node_at w.nodes key)) (reads_in w) key (cell_of cells key)

-- No key stands twice.
pub record AreOnce (keys : List ℕ) : Type 0 where
  pub each : (i j : ℕ) → i < length keys → j < length keys → slice_index keys i ≡ slice_index keys j → i ≡ j

-- Each key of an output has the output's index.
pub record ArePlaced (keys places : List ℕ) : Type 0 where
  pub inside : (i : ℕ) → i < length keys → slice_index keys i < length places
  pub each : (i : ℕ) → i < length keys → slice_index places (slice_index keys i) ≡ i

-- and there is a value for each output
pub record IsScreen (keys places shown : List ℕ) : Type 0 where
  pub placed : ArePlaced keys places
  pub whole : length shown ≡ length keys

abbrev pub screen_of : List ℕ → List ℕ → List ℕ → Screened
screen_of keys places shown = record { count = length places; keys = keys; shown = shown }

-- Each output shows what it must.
pub record AreFaced (w : Wired) (cells : List Cell) (s : Screened) : Type 0 where
  pub each : (i : ℕ) → i < length s.keys → slice_index s.shown i ≡ face w cells (slice_index s.keys i)

-- Each output shows what it must, or what it showed and must show the same; and each whose key is
-- one of those that are done shows what it must.
pub record Refaced (w : Wired) (old new : List Cell) (s t : Screened) (Done : ℕ → Type 0) : Type 0 where
  pub count : t.count ≡ s.count
  pub keys : t.keys ≡ s.keys
  pub each : (i : ℕ) → i < length s.keys → (slice_index t.shown i ≡ face w new (slice_index s.keys i))
      ⊎ ((slice_index t.shown i ≡ slice_index s.shown i) × (face w new (slice_index s.keys i) ≡ face w old (slice_index s.keys i)))
  pub done : (i : ℕ) → i < length s.keys → Done (slice_index s.keys i) → slice_index t.shown i ≡ face w new (slice_index s.keys i)
