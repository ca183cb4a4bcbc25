use Rattle.std.proofs.Common.{sym, ap, ◌∙◌}
use Rattle.block_table.specs.declared.Block.TheVariants.{Air}
use Rattle.build.specs.Plan.{Plan, block_at, found_cell}
use Rattle.build.specs.contracts.build.Build.{the_view}
use Rattle.build.specs.Places.{entry-here, entry-none}
use Rattle.build.proofs.build.Build.at.Goals as goal

pub returns-in-Some-clause-value : goal.returns-in-Some-clause-value
returns-in-Some-clause-value c =
    let b : Plan = the_view c.self.inside in
    c.block.ensures.value
    ∙ entry-here b b.blocks Air c.args.pos c.in-Some.cell c.index.result.now c.self.invariant.blocks (c.in-Some.ensures.found ∙ ap (λ (d : Plan). found_cell d c.args.pos) (sym c.self.view_is)) c.index.ensures
    ∙ ap (λ (d : Plan). block_at d c.args.pos) c.self.view_is

pub returns-in-None-clause-value : goal.returns-in-None-clause-value
returns-in-None-clause-value c = entry-none c.args.self.now c.args.self.now.blocks Air c.args.pos c.in-None.ensures.found
