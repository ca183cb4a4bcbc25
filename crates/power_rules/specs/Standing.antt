-- Where something reads, it stands in the box.
use Rattle.std.proofs.Common.{◌≡◌, Bool, true, false, refl, sym, ◌∙◌, ap}
use Rattle.block_table.specs.declared.Block.{Block}
use Rattle.block_table.specs.declared.Block.TheVariants.{Air}
use Rattle.circuit.specs.declared.Pos.{Pos}
use Rattle.build.specs.Plan.{Plan, block_at, in_box}
use Rattle.build.specs.Places.{in_box-not_outside}

abbrev pub is_something : Block → Bool
is_something Air = false
is_something block = true

pub stands_inside : (b : Plan) (p : Pos) (block : Block) → block ≡ block_at b p → is_something block ≡ true → in_box b p ≡ true
stands_inside b p block e h = in_box-not_outside b b.blocks Air is_something p refl (ap is_something (sym e) ∙ h)
