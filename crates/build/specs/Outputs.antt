-- What a view shows of a build, and where its components stand.
use Rattle.std.specs.Prelude.{Bool, true, false, if◌then◌else◌, List, filter, Option, Some, None, is_some}
use Rattle.std.specs.List.{filter_map}
use Rattle.block_table.specs.declared.Block.{Block}
use Rattle.block_table.specs.declared.Block.TheVariants.{Air, Inert, Slab, Wire, Torch, WallTorch, Repeater, Comparator, Lever, Button, Plate, RedstoneBlock, Lamp, Trapdoor, Container, Composter, Cauldron, Cake, Weighted, Note}
use Rattle.circuit.specs.declared.Pos.{Pos}
use Rattle.build.specs.declared.OutKind.{OutKind}
use Rattle.build.specs.declared.OutKind.TheVariants.{Lamp as LampOut, Trapdoor as TrapdoorOut, Note as NoteOut, Wire as WireOut}
use Rattle.build.specs.declared.OutPlace.{OutPlace}
use Rattle.build.specs.Plan.{Plan, places, block_at}
use Rattle.build.specs.Marks.{is_marked}

abbrev pub is_component : Block → Bool
is_component (Lever face facing powered) = true
is_component (Button name face facing powered) = true
is_component (Plate name powered) = true
is_component (Weighted name power) = true
is_component (Torch lit) = true
is_component (WallTorch facing lit) = true
is_component (Repeater delay facing powered) = true
is_component (Comparator facing subtract) = true
is_component (Lamp lit) = true
is_component (Trapdoor facing top powered) = true
is_component (Note powered) = true
is_component RedstoneBlock = true
is_component Air = false
is_component (Inert name) = false
is_component (Slab name half) = false
is_component (Wire north east south west power) = false
is_component (Container name) = false
is_component (Composter level) = false
is_component (Cauldron water level) = false
is_component (Cake bites) = false

-- the places of the components, in order
unfoldable pub components : Plan → List Pos
components b = filter (λ p. is_component (block_at b p)) (places b)

-- what a view shows of a block: a wire only where it is marked
abbrev pub out_kind : Bool → Block → Option OutKind
out_kind marked (Lamp lit) = Some LampOut
out_kind marked (Trapdoor facing top powered) = Some TrapdoorOut
out_kind marked (Note powered) = Some NoteOut
out_kind marked (Wire north east south west power) = if marked then Some WireOut else None
out_kind marked Air = None
out_kind marked (Inert name) = None
out_kind marked (Slab name half) = None
out_kind marked (Torch lit) = None
out_kind marked (WallTorch facing lit) = None
out_kind marked (Repeater delay facing powered) = None
out_kind marked (Comparator facing subtract) = None
out_kind marked (Lever face facing powered) = None
out_kind marked (Button name face facing powered) = None
out_kind marked (Plate name powered) = None
out_kind marked RedstoneBlock = None
out_kind marked (Container name) = None
out_kind marked (Composter level) = None
out_kind marked (Cauldron water level) = None
out_kind marked (Cake bites) = None
out_kind marked (Weighted name power) = None

-- what is shown where it is marked
abbrev pub may_be_shown : Block → Bool
may_be_shown block = is_some (out_kind true block)

abbrev pub out_place : Pos → Option OutKind → Option OutPlace
out_place p None = None
out_place p (Some kind) = Some (record { pos = p; kind = kind })

abbrev pub shown_at : Plan → List Pos → Pos → Option OutPlace
shown_at b marks p = out_place p (out_kind (is_marked marks p) (block_at b p))

-- the lamps, trapdoors, note blocks and marked wires, in order of places
unfoldable pub outputs : Plan → List Pos → List OutPlace
outputs b marks = filter_map (shown_at b marks) (places b)
