-- When a build stands for a state of the world of another build: so a run that was cut in two goes on.
use Rattle.std.specs.Prelude.{◌≡◌, false, [], Some}
use Rattle.block_table.specs.declared.Block.{Block}
use Rattle.block_table.specs.declared.Block.TheVariants.{Torch, WallTorch, Repeater, Lever, Button, Plate, Lamp, Trapdoor, Weighted, Note}
use Rattle.circuit.specs.declared.Pos.{Pos}
use Rattle.circuit.specs.declared.Component.{Component}
use Rattle.circuit.specs.Circuit.{State}
use Rattle.circuit.specs.Joining.{remaining}
use Rattle.build.specs.Plan.{Plan, block_at, strength_at}
use Rattle.build.specs.Roles.{role_at, stored}

-- a block apart from the value that it stores
abbrev pub unset : Block → Block
unset (Lever face facing powered) = Lever face facing false
unset (Button name face facing powered) = Button name face facing false
unset (Plate name powered) = Plate name false
unset (Weighted name power) = Weighted name 0
unset (Torch lit) = Torch false
unset (WallTorch facing lit) = WallTorch facing false
unset (Repeater delay facing powered) = Repeater delay facing false
unset (Lamp lit) = Lamp false
unset (Trapdoor facing top powered) = Trapdoor facing top false
unset (Note powered) = Note false
unset block = block

-- The build `after` stands for the state of the world of `before`: it has its box, strengths and blocks, but for the values that blocks store.
-- These, and the pending ticks, are those of the state, with due times less the time.
pub record StandsFor (before : Plan) (s : State Pos) (after : Plan) : Type 0 where
  pub width : after.width ≡ before.width
  pub height : after.height ≡ before.height
  pub depth : after.depth ≡ before.depth
  pub blocks : (p : Pos) → unset (block_at after p) ≡ unset (block_at before p)
  pub strengths : (p : Pos) → strength_at after p ≡ strength_at before p
  pub cells : (p : Pos) (component : Component) → role_at before [] p ≡ Some component → stored after [] p ≡ remaining s.time (s.cells p)
