use Rattle.std.proofs.Common.{◌<◌, length, sym, ap, ◌∙◌, arith}
use Rattle.std.proofs.lemmas.List.{get_or_read}
use Rattle.block_table.specs.declared.Block.TheVariants.{Air}
use Rattle.build.specs.contracts.build.Build.{the_view}
use Rattle.build.specs.Plan.{Plan, volume, block_at, place_of}
use Rattle.build.specs.Places.{entry-place}
use Rattle.build.proofs.build.Build.block_in.Goals as goal

pub returns-clause-value : goal.returns-clause-value
returns-clause-value c =
    let b : Plan = the_view c.self.inside in
    let below : c.args.cell < volume b = omega (arith, c.requires.inside, ap volume c.self.view_is) in
    let there : c.args.cell < length b.blocks = omega (arith, below, c.self.invariant.blocks) in
    c.block.ensures.value
    ∙ get_or_read b.blocks c.args.cell c.index.result.now there c.index.ensures Air
    ∙ sym (entry-place b b.blocks Air c.args.cell below)
    ∙ ap (λ (d : Plan). block_at d (place_of d c.args.cell)) c.self.view_is
