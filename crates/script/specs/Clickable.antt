-- Which clicks a build takes, and where it has wires. Outside of its box is air, which takes none.
use Rattle.std.specs.Prelude.{Bool, true, false}
use Rattle.block_table.specs.declared.Block.{Block}
use Rattle.block_table.specs.declared.Block.TheVariants.{Wire, Lever, Button, Plate, Weighted}
use Rattle.build.specs.Plan.{Plan, block_at}
use Rattle.circuit.specs.declared.Click.{Click}
use Rattle.circuit.specs.declared.Click.TheVariants.{Use, Press, Leave, Weigh}
use Rattle.circuit.specs.declared.Pos.{Pos}
use Rattle.script.specs.Acts.{is_weight}

abbrev pub block_takes : Block → Click → Bool
block_takes (Lever face facing powered) Use = true
block_takes (Button name face facing powered) Use = true
block_takes (Plate name powered) Press = true
block_takes (Plate name powered) Leave = true
block_takes (Weighted name power) Leave = true
block_takes (Weighted name power) (Weigh weight) = is_weight weight
block_takes _ _ = false

abbrev pub is_wire : Block → Bool
is_wire (Wire north east south west power) = true
is_wire _ = false

abbrev pub takes_click : Plan → Pos → Click → Bool
takes_click b place click = block_takes (block_at b place) click

abbrev pub is_wire_at : Plan → Pos → Bool
is_wire_at b place = is_wire (block_at b place)
