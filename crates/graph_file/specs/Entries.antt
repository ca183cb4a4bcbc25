-- What the code reads first, as places, kinds and nodes. No public clause cites this module.
use Rattle.std.specs.Prelude.{pos, List, [], map}
use Rattle.circuit.specs.declared.Pos.{Pos}
use Rattle.graph.specs.declared.Kind.{Kind}
use Rattle.graph.specs.declared.Kind.TheVariants.{Lever, Button, Plate, Weighted, Torch, Repeater, Comparator, Lamp, Trapdoor, Note, Wire, Constant}
use Rattle.graph.specs.Graph.{Node}
use Rattle.graph_file.specs.declared.entries.KindEntry.{KindEntry}
use Rattle.graph_file.specs.declared.entries.NodeEntry.{NodeEntry}
use Rattle.graph_file.specs.declared.entries.Spot.{Spot}

abbrev pub plain_place : Spot → Pos
plain_place spot = record { x = pos spot.x; y = pos spot.y; z = pos spot.z }

abbrev pub plain_kind : KindEntry → Kind
plain_kind KindEntry.Lever = Lever
plain_kind (KindEntry.Button delay) = Button delay
plain_kind KindEntry.Plate = Plate
plain_kind KindEntry.Weighted = Weighted
plain_kind KindEntry.Torch = Torch
plain_kind (KindEntry.Repeater delay) = Repeater delay
plain_kind (KindEntry.Comparator subtract direct far) = Comparator subtract direct far
plain_kind KindEntry.Lamp = Lamp
plain_kind KindEntry.Trapdoor = Trapdoor
plain_kind KindEntry.Note = Note
plain_kind KindEntry.Wire = Wire
plain_kind KindEntry.Constant = Constant

abbrev pub plain_entry : NodeEntry → Node
plain_entry e = record { pos = plain_place e.spot; kind = plain_kind e.kind; state = e.state; first = e.first; due = e.due; priority = e.priority; links = []; also = [] }

abbrev pub with_also : NodeEntry → List Spot → Node
with_also e also = record (plain_entry e) { also = map plain_place also }
