use Rattle.std.proofs.Common.{◌<◌, ◌^◌, ℕ, ℤ, pos, ap, ◌∙◌, arith}
use Rattle.std.specs.Int.{w64}
use Rattle.std.specs.BTreeMap.{get}
use Rattle.std.specs.Ordering.{int_cmp}
use Rattle.std.proofs.lemmas.Int.{to_z_pos}
use Rattle.schematic.proofs.cells.block_in.Goals as goal

pub returns : goal.returns
returns c =
    c.copied.ensures ∙ c.get.ensures.value
    ∙ ap (λ (n : ℤ). get int_cmp c.args.blocks.now n) (to_z_pos w64 c.args.number (omega (arith, c.requires)))
