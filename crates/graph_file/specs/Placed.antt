-- What stands at a place, by the first node of the place.
use Rattle.std.specs.Prelude.{Bool, false, ◌&&◌, cond, [], ◌∷◌, Option, Some, None}
use Rattle.circuit.specs.declared.Click.{Click}
use Rattle.circuit.specs.declared.Pos.{Pos}
use Rattle.graph.specs.Clicks.{answers, is_same_place, is_wire}
use Rattle.graph.specs.declared.Kind.{Kind}
use Rattle.graph.specs.Graph.{Node, Nodes}
use Rattle.graph_file.specs.Targets.{is_weighable}

-- the kind at a place: that of the node if it stands there, and else the one found without it
abbrev pub with_kind : Option Node → Pos → Option Kind → Option Kind
with_kind None place found = found
with_kind (Some node) place found = cond (is_same_place node.pos place) (Some node.kind) found

abbrev pub kind_at : Nodes → Pos → Option Kind
kind_at [] place = None
kind_at (entry ∷ g) place = with_kind entry place (kind_at g place)

abbrev pub kind_answers : Option Kind → Click → Bool
kind_answers None click = false
kind_answers (Some kind) click = answers kind click

abbrev pub kind_takes : Option Kind → Click → Bool
kind_takes found click = is_weighable click && kind_answers found click

abbrev pub is_wire_kind : Option Kind → Bool
is_wire_kind None = false
is_wire_kind (Some kind) = is_wire kind
