-- How the parts, the outputs and the links of a graph are laid out.
use Rattle.std.specs.Prelude.{◌≡◌, ℕ, Bool, nat_lt, take, ◌^◌, ◌+◌, ◌<◌, ◌≤◌, ◌==◌, List, Option, Some, None, length, All, count_by, slice_index_or, if◌then◌else◌}
use Rattle.circuit.specs.declared.Component.{Component}
use Rattle.circuit.specs.Component.{out}
use Rattle.graph.specs.declared.Group.{Group}
use Rattle.graph.specs.declared.Link.{Link}
use Rattle.graph.specs.Graph.{Node, Nodes, node_at}
use Rattle.graph.specs.GraphCircuit.{role_of}
use Rattle.graph.specs.Sound.{top_of}
use Rattle.link_counts.specs.declared.counts.Counts.{Counts}
use Rattle.graph_machine.specs.declared.links.OutLink.{OutLink}
use Rattle.graph_machine.specs.declared.net.Part.{Part}
use Rattle.link_counts.specs.Counted.{count_at, tally}
use Rattle.graph_machine.specs.Counted.{brings, IsCounted, row, hits, comes, IsTurned}
use Rattle.graph_machine.specs.Outgoing.{links_at, outgoing}
use Rattle.graph_machine.specs.Wired.{part_at}

-- the state is in the range of its component
abbrev pub IsSmall : Option Part → Type 0
IsSmall None = Unit {0}
IsSmall (Some part) = part.state ≤ top_of (role_of part.kind)

-- what a node gives at the beginning: a component by its state, a Constant its state
abbrev pub role_out : Option Component → ℕ → ℕ
role_out None state = state
role_out (Some component) state = out component state

abbrev pub part_out : Option Part → ℕ
part_out None = 0
part_out (Some part) = role_out (role_of part.kind) part.state

abbrev pub IsKept : Nodes → List (Option Part) → Type 0
IsKept g parts = (key : ℕ) → slice_index_or parts key None ≡ part_at (node_at g key)

-- The links into a key were counted, by the strengths that they bring, and added to the links out of where they come from.
pub record WiresLinks (given : ℕ → ℕ) (key : ℕ) (links : List Link) (counts : Counts) (before after : List (List OutLink)) : Type 0 where
  pub counted : (group : Group) (strength : ℕ) → strength < 16 → count_at counts group strength ≡ count_by (brings given group strength) links
  pub same : (test : Group → ℕ → Bool) (from to : ℕ) → hits test to (row after from) ≡ hits test to (row before from) + (if key == to then comes test from links else 0)
  pub count : (from : ℕ) → length (row after from) ≡ length (row before from) + count_by (λ (link : Link). link.from == from) links
  pub inside : (from : ℕ) → All (λ (link : OutLink). link.to < length before) (row before from) → All (λ (link : OutLink). link.to < length before) (row after from)
  pub whole : length after ≡ length before

-- the entry under a key below this one
abbrev pub entry_below : ℕ → Nodes → ℕ → Option Node
entry_below count g key = if nat_lt key count then node_at g key else None

-- The links into the nodes of the first so many keys were counted and added.
pub record WiredBelow (g : Nodes) (count size : ℕ) (given : ℕ → ℕ) (counts : List Counts) (rows : List (List OutLink)) : Type 0 where
  pub counted : (key : ℕ) (group : Group) (strength : ℕ) → strength < 16 → tally counts key group strength ≡ count_by (brings given group strength) (links_at (entry_below count g key))
  pub same : (test : Group → ℕ → Bool) (from to : ℕ) → hits test to (row rows from) ≡ comes test from (links_at (entry_below count g to))
  pub out : (from : ℕ) → length (row rows from) ≡ outgoing (take count g) from
  pub inside : (from : ℕ) → All (λ (link : OutLink). link.to < length rows) (row rows from)
  pub few : (key : ℕ) → length (links_at (entry_below count g key)) < 2 ^ 31
  pub whole : length rows ≡ size

-- and so those into all
pub record WiredUp (g : Nodes) (size : ℕ) (given : ℕ → ℕ) (counts : List Counts) (rows : List (List OutLink)) : Type 0 where
  pub counted : IsCounted g given counts
  pub turned : IsTurned g rows
  pub few : (key : ℕ) → length (links_at (node_at g key)) < 2 ^ 31
  pub whole : length rows ≡ size
