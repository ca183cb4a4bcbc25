-- A build to which the end of a run of a graph is handed back.
use Rattle.std.specs.Prelude.{ℕ, Bool, true, false, ◌&&◌, nat_lt, map, find, ◌∷◌, Option, Some, None, option_map}
use Rattle.std.specs.List.{list_any, filter_map}
use Rattle.block_table.specs.declared.Block.{Block}
use Rattle.block_table.specs.declared.Block.TheVariants.{Air, Inert, Slab, Wire as WireBlock, Torch as TorchBlock, WallTorch, Repeater as RepeaterBlock, Comparator as ComparatorBlock, Lever as LeverBlock, Button as ButtonBlock, Plate as PlateBlock, RedstoneBlock, Lamp as LampBlock, Trapdoor as TrapdoorBlock, Container, Composter, Cauldron, Cake, Weighted as WeightedBlock, Note as NoteBlock}
use Rattle.circuit.specs.declared.Pos.{Pos}
use Rattle.circuit.specs.Circuit.{State}
use Rattle.build.specs.declared.Pending.{Pending}
use Rattle.build.specs.Place.{same_place}
use Rattle.build.specs.Plan.{Plan, entry, block_at, places}
use Rattle.cell_queue.specs.Held.{wait_of}
use Rattle.cell_queue.specs.declared.cells.Wait.{Wait}
use Rattle.graph.specs.declared.Kind.{Kind}
use Rattle.graph.specs.declared.Kind.TheVariants.{Lever, Button, Plate, Weighted, Torch, Repeater, Comparator, Lamp, Trapdoor, Note, Wire, Constant}
use Rattle.node_arena.specs.Items.{keys_of}
use Rattle.graph.specs.Graph.{Node, Nodes, node_at}
use Rattle.handover.specs.declared.held.Held.{Held}

-- Which nodes have a state to give back. A Constant has folded, so its places keep what they store, and a wire's power isn't stored.
abbrev pub has_state : Kind → Bool
has_state Lever = true
has_state (Button delay) = true
has_state Plate = true
has_state Weighted = true
has_state Torch = true
has_state (Repeater delay) = true
has_state (Comparator subtract direct far) = true
has_state Lamp = true
has_state Trapdoor = true
has_state Note = true
has_state Wire = false
has_state Constant = false

-- whether the node gives its state to the place: it has one, and stands for the place
abbrev pub keeps : Pos → Option Node → Bool
keeps p None = false
keeps p (Some node) = has_state node.kind && list_any (λ (own : Pos). same_place own p) (node.pos ∷ node.also)

-- the key of the node that gives its state to the place, if there is one
abbrev pub keeper : Nodes → Pos → Option ℕ
keeper g p = find (λ (key : ℕ). keeps p (node_at g key)) (keys_of g)

-- what is held under a key: the value, and the pending tick by the ticks of time that are left
abbrev pub held_under : State ℕ → ℕ → Held
held_under s key = record { value = (s.cells key).value; wait = wait_of s.time (s.cells key) }

-- what a place is given
abbrev pub held_at : Nodes → State ℕ → Pos → Option Held
held_at g s p = option_map (held_under s) (keeper g p)

-- the block with this value in place of the one that it stores
abbrev pub with_value : ℕ → Block → Block
with_value value (TorchBlock lit) = TorchBlock (nat_lt 0 value)
with_value value (WallTorch facing lit) = WallTorch facing (nat_lt 0 value)
with_value value (RepeaterBlock delay facing powered) = RepeaterBlock delay facing (nat_lt 0 value)
with_value value (LeverBlock face facing powered) = LeverBlock face facing (nat_lt 0 value)
with_value value (ButtonBlock name face facing powered) = ButtonBlock name face facing (nat_lt 0 value)
with_value value (PlateBlock name powered) = PlateBlock name (nat_lt 0 value)
with_value value (WeightedBlock name power) = WeightedBlock name value
with_value value (LampBlock lit) = LampBlock (nat_lt 0 value)
with_value value (TrapdoorBlock facing top powered) = TrapdoorBlock facing top (nat_lt 0 value)
with_value value (NoteBlock powered) = NoteBlock (nat_lt 0 value)
with_value value Air = Air
with_value value (Inert name) = Inert name
with_value value (Slab name half) = Slab name half
with_value value (WireBlock north east south west power) = WireBlock north east south west power
with_value value (ComparatorBlock facing subtract) = ComparatorBlock facing subtract
with_value value RedstoneBlock = RedstoneBlock
with_value value (Container name) = Container name
with_value value (Composter level) = Composter level
with_value value (Cauldron water level) = Cauldron water level
with_value value (Cake bites) = Cake bites

abbrev pub given_block : Option Held → Block → Block
given_block None block = block
given_block (Some held) block = with_value held.value block

-- A comparator's value stands beside it, as its level.
abbrev pub given_output : Option Held → ℕ → ℕ
given_output None level = level
given_output (Some held) level = held.value

abbrev pub given_level : Option Held → Block → ℕ → ℕ
given_level held (ComparatorBlock facing subtract) level = given_output held level
given_level held _ level = level

abbrev pub waiting_for : Pos → Option Wait → Option Pending
waiting_for p None = None
waiting_for p (Some wait) = Some (record { pos = p; due = wait.left; priority = wait.priority })

abbrev pub given_tick : Pos → Option Held → Option Pending
given_tick p None = None
given_tick p (Some held) = waiting_for p held.wait

-- Each node with a state gives it to its places, and its pending tick to each of them. All else is as in the build, and no other tick is pending.
unfoldable pub given_back : Plan → Nodes → State ℕ → Plan
given_back b g s = record {
  width = b.width;
  height = b.height;
  depth = b.depth;
  blocks = map (λ (p : Pos). given_block (held_at g s p) (block_at b p)) (places b);
  levels = map (λ (p : Pos). given_level (held_at g s p) (block_at b p) (entry b b.levels 0 p)) (places b);
  pending = filter_map (λ (p : Pos). given_tick p (held_at g s p)) (places b);
  data_version = b.data_version;
}
