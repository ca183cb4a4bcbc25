-- The nodes that a build is compiled to, before they are linked: one for each component, block of redstone and marked wire.
use Rattle.std.specs.Prelude.{ℕ, Bool, true, false, ◌||◌, ◌&&◌, List, [], map, filter, Option, Some, None}
use Rattle.block_table.specs.declared.Block.{Block}
use Rattle.block_table.specs.declared.Block.TheVariants.{Air, Inert, Slab, Wire as WireBlock, Torch as TorchBlock, WallTorch as WallTorchBlock, Repeater as RepeaterBlock, Comparator as ComparatorBlock, Lever as LeverBlock, Button as ButtonBlock, Plate as PlateBlock, RedstoneBlock, Lamp as LampBlock, Trapdoor as TrapdoorBlock, Container, Composter, Cauldron, Cake, Weighted as WeightedBlock, Note as NoteBlock}
use Rattle.circuit.specs.declared.Pos.{Pos}
use Rattle.build.specs.Plan.{Plan, entry, places, block_at}
use Rattle.build.specs.Marks.{is_marked}
use Rattle.build.specs.Outputs.{is_component}
use Rattle.build.specs.Roles.{button_delay, stored_value, stored, first_at, direct_at, far_at}
use Rattle.graph.specs.declared.Kind.{Kind}
use Rattle.graph.specs.declared.Kind.TheVariants.{Lever, Button, Plate, Weighted, Torch, Repeater, Comparator, Lamp, Trapdoor, Note, Wire, Constant}
use Rattle.graph.specs.Graph.{Node, Nodes}

abbrev pub is_wire_block : Block → Bool
is_wire_block (WireBlock north east south west power) = true
is_wire_block Air = false
is_wire_block (Inert name) = false
is_wire_block (Slab name half) = false
is_wire_block (TorchBlock lit) = false
is_wire_block (WallTorchBlock facing lit) = false
is_wire_block (RepeaterBlock delay facing powered) = false
is_wire_block (ComparatorBlock facing subtract) = false
is_wire_block (LeverBlock face facing powered) = false
is_wire_block (ButtonBlock name face facing powered) = false
is_wire_block (PlateBlock name powered) = false
is_wire_block RedstoneBlock = false
is_wire_block (LampBlock lit) = false
is_wire_block (TrapdoorBlock facing top powered) = false
is_wire_block (Container name) = false
is_wire_block (Composter level) = false
is_wire_block (Cauldron water level) = false
is_wire_block (Cake bites) = false
is_wire_block (WeightedBlock name power) = false
is_wire_block (NoteBlock powered) = false

-- whether a place has a node
unfoldable pub has_node : Plan → List Pos → Pos → Bool
has_node b marks p = is_component (block_at b p) || (is_wire_block (block_at b p) && is_marked marks p)

-- the strength beyond counts only where the input block has none
abbrev pub unless_direct : Option ℕ → Option ℕ → Option ℕ
unless_direct None far = far
unless_direct (Some direct) far = None

-- what the node of a block is; of the blocks that are no component only a marked wire has one
abbrev pub kind_of : Plan → Pos → Block → Kind
kind_of b p (LeverBlock face facing powered) = Lever
kind_of b p (ButtonBlock name face facing powered) = Button (button_delay name)
kind_of b p (PlateBlock name powered) = Plate
kind_of b p (WeightedBlock name power) = Weighted
kind_of b p (TorchBlock lit) = Torch
kind_of b p (WallTorchBlock facing lit) = Torch
kind_of b p (RepeaterBlock delay facing powered) = Repeater delay
kind_of b p (ComparatorBlock facing subtract) = Comparator subtract (direct_at b p facing) (unless_direct (direct_at b p facing) (far_at b p facing))
kind_of b p (LampBlock lit) = Lamp
kind_of b p (TrapdoorBlock facing top powered) = Trapdoor
kind_of b p (NoteBlock powered) = Note
kind_of b p RedstoneBlock = Constant
kind_of b p Air = Wire
kind_of b p (Inert name) = Wire
kind_of b p (Slab name half) = Wire
kind_of b p (WireBlock north east south west power) = Wire
kind_of b p (Container name) = Wire
kind_of b p (Composter level) = Wire
kind_of b p (Cauldron water level) = Wire
kind_of b p (Cake bites) = Wire

-- a block of redstone gives 15 always, and every other node begins with what its block stores
abbrev pub state_of : Block → ℕ → ℕ
state_of RedstoneBlock level = 15
state_of Air level = stored_value Air level
state_of (Inert name) level = stored_value (Inert name) level
state_of (Slab name half) level = stored_value (Slab name half) level
state_of (WireBlock north east south west power) level = stored_value (WireBlock north east south west power) level
state_of (TorchBlock lit) level = stored_value (TorchBlock lit) level
state_of (WallTorchBlock facing lit) level = stored_value (WallTorchBlock facing lit) level
state_of (RepeaterBlock delay facing powered) level = stored_value (RepeaterBlock delay facing powered) level
state_of (ComparatorBlock facing subtract) level = stored_value (ComparatorBlock facing subtract) level
state_of (LeverBlock face facing powered) level = stored_value (LeverBlock face facing powered) level
state_of (ButtonBlock name face facing powered) level = stored_value (ButtonBlock name face facing powered) level
state_of (PlateBlock name powered) level = stored_value (PlateBlock name powered) level
state_of (LampBlock lit) level = stored_value (LampBlock lit) level
state_of (TrapdoorBlock facing top powered) level = stored_value (TrapdoorBlock facing top powered) level
state_of (Container name) level = stored_value (Container name) level
state_of (Composter of_level) level = stored_value (Composter of_level) level
state_of (Cauldron water of_level) level = stored_value (Cauldron water of_level) level
state_of (Cake bites) level = stored_value (Cake bites) level
state_of (WeightedBlock name power) level = stored_value (WeightedBlock name power) level
state_of (NoteBlock powered) level = stored_value (NoteBlock powered) level

-- the node of a place, without links
unfoldable pub bare_node : Plan → List Pos → Pos → Node
bare_node b marks p = record {
  pos = p;
  kind = kind_of b p (block_at b p);
  state = state_of (block_at b p) (entry b b.levels 0 p);
  first = first_at b p;
  due = (stored b marks p).due;
  priority = (stored b marks p).priority;
  links = [];
  also = [];
}

-- the places that have a node, in order: their ranks, counted from 0, are the numbers of the nodes
unfoldable pub node_places : Plan → List Pos → List Pos
node_places b marks = filter (has_node b marks) (places b)

unfoldable pub bare_nodes : Plan → List Pos → Nodes
bare_nodes b marks = map (λ p. Some (bare_node b marks p)) (node_places b marks)
