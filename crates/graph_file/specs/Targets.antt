-- Which clicks a graph takes, and where it has wires that are looked at.
use Rattle.std.specs.Prelude.{Bool, true, ◌&&◌}
use Rattle.std.specs.List.{list_any}
use Rattle.circuit.specs.declared.Click.{Click}
use Rattle.circuit.specs.declared.Click.TheVariants.{Weigh}
use Rattle.circuit.specs.declared.Pos.{Pos}
use Rattle.graph.specs.Clicks.{answers_at, is_wire_at as is_wire_entry}
use Rattle.graph.specs.Graph.{Nodes}
use Rattle.script.specs.Acts.{is_weight}

abbrev pub is_weighable : Click → Bool
is_weighable (Weigh weight) = is_weight weight
is_weighable _ = true

-- some node of the place answers to the click
abbrev pub takes_click : Nodes → Pos → Click → Bool
takes_click g place click = is_weighable click && list_any (λ entry. answers_at entry place click) g

abbrev pub is_wire_at : Nodes → Pos → Bool
is_wire_at g place = list_any (λ entry. is_wire_entry entry place) g
