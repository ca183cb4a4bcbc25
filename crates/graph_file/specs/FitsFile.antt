-- Which graphs a file can hold.
use Rattle.std.specs.Prelude.{◌<◌, ℤ, pos, ◌≤ℤ◌}
use Rattle.circuit.specs.declared.Pos.{Pos}
use Rattle.circuit.specs.Circuit.{Each}
use Rattle.graph.specs.Graph.{Nodes, node_count, link_count}
use Rattle.graph.specs.Links.{IsInGroups}
use Rattle.graph.specs.Sound.{IsSound, places_of}

abbrev pub IsCoordinate : ℤ → Type 0
IsCoordinate n = (pos 0 ≤ℤ n) × (n ≤ℤ pos 65535)

abbrev pub IsFilePlace : Pos → Type 0
IsFilePlace place = IsCoordinate place.x × (IsCoordinate place.y × IsCoordinate place.z)

-- A sound graph of few nodes and links, whose places have numbers from 0 to 65,535. Each graph has its links in groups.
pub record FitsFile (g : Nodes) : Type 0 where
  pub sound : IsSound g
  pub groups : IsInGroups g
  pub few_nodes : node_count g < 4294967295
  pub few_links : link_count g < 4294967295
  pub places : Each IsFilePlace (places_of g)
