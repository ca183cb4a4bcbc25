use Rattle.std.proofs.Common.{◌≡◌, ℕ, List, length, set, sym, ap, subst, ◌∙◌}
use Rattle.std.specs.Prelude.{is_some}
use Rattle.std.proofs.lemmas.List.{length-set, with_items_is}
use Rattle.block_table.specs.declared.Block.{Block}
use Rattle.build.specs.Plan.{IsWhole}
use Rattle.build.specs.Edits.{with_block}
use Rattle.build.specs.Places.{found-is_some}
use Rattle.build.proofs.EditedFields.{block_fields}
use Rattle.build.proofs.WholeEdits.{whole_with_block}
use Rattle.build.proofs.build.Build.set.Goals as goal

pub unwrap-cell-requires : goal.unwrap-cell-requires
unwrap-cell-requires c = ap is_some c.cell.ensures.found ∙ found-is_some c.args.self.now c.args.pos ∙ c.requires.inside

pub returns : goal.returns
returns c =
    let levels : List ℕ = c.self.inside.levels.items in
    let cleared : c.clear.new.levels ≡ set levels c.unwrap-cell.result 0 = c.clear.ensures ∙ ap (λ (xs : List ℕ). set xs c.unwrap-cell.result 0) c.deref_mut.ensures.value in
    let same_length : length c.clear.new.levels ≡ c.self.inside.levels.len = ap (λ (xs : List ℕ). length xs) cleared ∙ length-set levels c.unwrap-cell.result 0 ∙ sym c.self.inside.levels.ok.0 in
    block_fields c.self.inside _ _ c.args.self.now c.args.pos c.unwrap-cell.result c.new.result
    c.self.view_is (sym c.unwrap-cell.ensures ∙ c.cell.ensures.found) (with_items_is c.self.inside.levels c.clear.new.levels same_length ∙ cleared) c.forget.ensures
    ∙ ap (λ (block : Block). with_block c.args.self.now c.args.pos block) c.new.ensures

pub invariant_of-self : goal.invariant_of-self
invariant_of-self c = subst IsWhole (sym (returns c)) (whole_with_block c.args.self.now c.args.pos c.args.block (subst IsWhole c.self.view_is c.self.invariant) c.requires.inside c.requires.listed)
