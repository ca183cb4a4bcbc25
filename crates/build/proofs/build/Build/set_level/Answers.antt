use Rattle.std.proofs.Common.{◌≡◌, ℕ, ◌-◌, true, take, ◌++◌, refl, sym, ap, subst, ◌∙◌}
use Rattle.std.specs.Prelude.{is_some, replicate}
use Rattle.block_table.specs.declared.Block.TheVariants.{Air}
use Rattle.build.specs.Plan.{IsWhole, in_box, block_at, has_level}
use Rattle.build.specs.Places.{found-is_some, in_box-not_outside}
use Rattle.build.proofs.EditedFields.{level_fields}
use Rattle.build.proofs.WholeEdits.{whole_with_level}
use Rattle.build.proofs.LevelSteps.{fits-from}
use Rattle.build.proofs.build.Build.set_level.Goals as goal

pub unwrap-cell-requires : goal.unwrap-cell-requires
unwrap-cell-requires c =
    ap is_some c.cell.ensures.found ∙ found-is_some c.args.self.now c.args.pos
    ∙ in_box-not_outside c.args.self.now c.args.self.now.blocks Air has_level c.args.pos refl c.requires.has_level

pub returns-clause-ok : goal.returns-clause-ok
returns-clause-ok c =
    level_fields c.self.inside c.resize.new.self.items c.args.self.now c.args.pos c.unwrap-cell.result c.args.level c.len.result
    c.self.view_is (sym c.unwrap-cell.ensures ∙ c.cell.ensures.found) c.self.invariant.levels (c.len.ensures ∙ c.self.inside.blocks.ok.0 ∙ c.self.invariant.blocks)
    (c.in_ok-resize.ensures.items ∙ ap (λ (n : ℕ). take c.len.result c.self.inside.levels.items ++ replicate (c.len.result - n) 0) c.self.inside.levels.ok.0)

pub invariant_of-self-2 : goal.invariant_of-self-2
invariant_of-self-2 c =
    let here : in_box c.args.self.now c.args.pos ≡ true = in_box-not_outside c.args.self.now c.args.self.now.blocks Air has_level c.args.pos refl c.requires.has_level in
    subst IsWhole (sym (returns-clause-ok c))
    (whole_with_level c.args.self.now c.args.pos c.args.level (subst IsWhole c.self.view_is c.self.invariant) here (fits-from (block_at c.args.self.now c.args.pos) c.args.level c.requires.has_level c.requires.small))
