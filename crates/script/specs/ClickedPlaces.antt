-- What is clicked or marked stands in the box of the build.
use Rattle.std.specs.Prelude.{◌≡◌, true, refl}
use Rattle.block_table.specs.declared.Block.{Block}
use Rattle.block_table.specs.declared.Block.TheVariants.{Air}
use Rattle.build.specs.Places.{in_box-not_outside}
use Rattle.build.specs.Plan.{Plan, in_box}
use Rattle.circuit.specs.declared.Click.{Click}
use Rattle.circuit.specs.declared.Pos.{Pos}
use Rattle.script.specs.Clickable.{block_takes, is_wire, takes_click, is_wire_at}

pub in_box-clicked : (b : Plan) (place : Pos) (click : Click) → takes_click b place click ≡ true → in_box b place ≡ true
in_box-clicked b place click h = in_box-not_outside b b.blocks Air (λ (block : Block). block_takes block click) place refl h

pub in_box-wire : (b : Plan) (place : Pos) → is_wire_at b place ≡ true → in_box b place ≡ true
in_box-wire b place h = in_box-not_outside b b.blocks Air is_wire place refl h
