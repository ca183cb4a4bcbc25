use Rattle.std.proofs.Common.{◌≡◌, ◌*◌, sym, ◌∙◌, arith, length}
use Rattle.build.proofs.WholeEdits.{whole_fresh}
use Rattle.build.proofs.build.Build.of_blocks.Goals as goal

pub invariant_of-result : goal.invariant_of-result
invariant_of-result c =
    let full : length c.args.blocks.items ≡ c.args.width * (c.args.length * c.args.height) = sym c.args.blocks.ok.0 ∙ c.requires.cells in
    rw (c.new.ensures.items, c.new-2.ensures)
    (whole_fresh c.args.width c.args.height c.args.length _ c.args.blocks.items (omega arith) (omega arith) (omega arith) c.requires.small full c.requires.listed)
