-- The outputs of a graph, as the header of a run names them.
use Rattle.std.specs.Prelude.{ℕ, List, Option, Some, None}
use Rattle.std.specs.List.{filter_map}
use Rattle.build.specs.declared.OutKind.{OutKind}
use Rattle.build.specs.declared.OutKind.TheVariants.{Lamp as LampOut, Trapdoor as TrapdoorOut, Note as NoteOut, Wire as WireOut}
use Rattle.build.specs.declared.OutPlace.{OutPlace}
use Rattle.build.specs.Outputs.{out_place}
use Rattle.graph.specs.declared.Kind.{Kind}
use Rattle.graph.specs.declared.Kind.TheVariants.{Lever, Button, Plate, Weighted, Torch, Repeater, Comparator, Lamp, Trapdoor, Note, Wire, Constant}
use Rattle.graph.specs.Graph.{Node, Nodes, node_at}
use Rattle.graph.specs.GraphCircuit.{graph_circuit}
use Rattle.graph_machine.specs.declared.net.Part.{Part}

-- what a header calls a node of this kind, if a view shows it
abbrev pub out_kind : Kind → Option OutKind
out_kind Lamp = Some LampOut
out_kind Trapdoor = Some TrapdoorOut
out_kind Note = Some NoteOut
out_kind Wire = Some WireOut
out_kind Lever = None
out_kind (Button delay) = None
out_kind Plate = None
out_kind Weighted = None
out_kind Torch = None
out_kind (Repeater delay) = None
out_kind (Comparator subtract direct far) = None
out_kind Constant = None

abbrev pub node_output : Option Node → Option OutPlace
node_output None = None
node_output (Some node) = out_place node.pos (out_kind node.kind)

abbrev pub output_at : Nodes → ℕ → Option OutPlace
output_at g key = node_output (node_at g key)

-- a place and a kind for each value of a view, in the order of the view
abbrev pub graph_outputs : Nodes → List OutPlace
graph_outputs g = filter_map (output_at g) (graph_circuit g).shown

-- ---- inside of the machine

abbrev pub part_place : Option Part → Option OutPlace
part_place None = None
part_place (Some part) = out_place part.pos (out_kind part.kind)
