-- What the values of a circuit's views belong to.
use Rattle.std.specs.Prelude.{List, Option, Some, None}
use Rattle.std.specs.List.{filter_map}
use Rattle.circuit.specs.declared.Component.{Component}
use Rattle.circuit.specs.declared.Component.TheVariants.{Lever, Button, Plate, Weighted, Torch, Repeater, Comparator, Lamp, Trapdoor, Note, Wire}
use Rattle.circuit.specs.Circuit.{Circuit}
use Rattle.build.specs.declared.OutKind.{OutKind}
use Rattle.build.specs.declared.OutKind.TheVariants.{Lamp as LampOut, Trapdoor as TrapdoorOut, Note as NoteOut, Wire as WireOut}
use Rattle.build.specs.declared.OutPlace.{OutPlace}
use Rattle.build.specs.Outputs.{out_place}

abbrev pub out_of : Component → Option OutKind
out_of Lever = None
out_of (Button delay) = None
out_of Plate = None
out_of Weighted = None
out_of Torch = None
out_of (Repeater delay) = None
out_of (Comparator subtract) = None
out_of Lamp = Some LampOut
out_of Trapdoor = Some TrapdoorOut
out_of Note = Some NoteOut
out_of Wire = Some WireOut

abbrev pub out_of_role : Option Component → Option OutKind
out_of_role None = None
out_of_role (Some component) = out_of component

abbrev pub output_under : {K : Type 0} → Circuit K → K → Option OutPlace
output_under C key = out_place (C.place key) (out_of_role (C.role key))

-- the place and the kind of each key that is shown, in order
abbrev pub circuit_outputs : {K : Type 0} → Circuit K → List OutPlace
circuit_outputs C = filter_map (output_under C) C.shown
