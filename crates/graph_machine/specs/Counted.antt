-- How many links bring each strength to a node, and the same links by where they come from.
use Rattle.std.specs.Prelude.{◌≡◌, ℕ, ◌-◌, ◌<◌, ◌==◌, ◌&&◌, Bool, List, [], count_by, length, All, slice_index_or}
use Rattle.graph.specs.declared.Group.{Group}
use Rattle.graph.specs.declared.Link.{Link}
use Rattle.graph.specs.Links.{is_group}
use Rattle.graph.specs.Graph.{Nodes, node_at}
use Rattle.link_counts.specs.declared.counts.Counts.{Counts}
use Rattle.link_counts.specs.Counted.{tally}
use Rattle.graph_machine.specs.declared.links.OutLink.{OutLink}
use Rattle.graph_machine.specs.Outgoing.{links_at, outgoing}

-- whether a link of this group and this weight brings the strength to the group, where what it comes from gives so much
abbrev pub is_strength : ℕ → Group → ℕ → Group → ℕ → Bool
is_strength out to_group strength group weight = is_group to_group group && ((out - weight) == strength)

abbrev pub brings : (ℕ → ℕ) → Group → ℕ → Link → Bool
brings given group strength link = is_strength (given link.from) group strength link.group link.weight

-- Each count is the number of those links.
pub record IsCounted (g : Nodes) (given : ℕ → ℕ) (counts : List Counts) : Type 0 where
  pub each : (key : ℕ) (group : Group) (strength : ℕ) → strength < 16 → tally counts key group strength ≡ count_by (brings given group strength) (links_at (node_at g key))

abbrev pub row : List (List OutLink) → ℕ → List OutLink
row rows from = slice_index_or rows from []

-- how many of the links go to a key and pass a test of their group and weight
abbrev pub hits : (Group → ℕ → Bool) → ℕ → List OutLink → ℕ
hits test to links = count_by (λ (link : OutLink). (link.to == to) && test link.group link.weight) links

-- how many of the links come from a key and pass it
abbrev pub comes : (Group → ℕ → Bool) → ℕ → List Link → ℕ
comes test from links = count_by (λ (link : Link). (link.from == from) && test link.group link.weight) links

-- The rows have the links of the graph by the keys that they come from.
pub record IsTurned (g : Nodes) (rows : List (List OutLink)) : Type 0 where
  pub same : (test : Group → ℕ → Bool) (from to : ℕ) → hits test to (row rows from) ≡ comes test from (links_at (node_at g to))
  pub count : (from : ℕ) → length (row rows from) ≡ outgoing g from
  pub inside : (from : ℕ) → All (λ (link : OutLink). link.to < length rows) (row rows from)
