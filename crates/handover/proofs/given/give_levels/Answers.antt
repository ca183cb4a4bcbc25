use Rattle.std.proofs.Common.{◌≡◌, ◌<◌, ℕ, List, Option, refl, ap, ◌∙◌, arith}
use Rattle.build.specs.Edits.{is_comparator, is_container}
use Rattle.build.specs.Plan.{Plan, volume, block_at, place_of}
use Rattle.handover.specs.declared.held.Held.{Held}
use Rattle.handover.specs.HeldByCell.{in_cell, block_by, with_levels_to, with_level_in}
use Rattle.handover.proofs.Parts.{levels_to-none, levels_to-more, levels_to-all, block_by-there, comparator-given, container-given}
use Rattle.handover.proofs.given.give_levels.Goals as goal

pub loop-cell-init : goal.loop-cell-init
loop-cell-init c = c.requires.begun ∙ levels_to-none c.args.build.now c.args.held.now

-- what stands at the place by now
there : (b now : Plan) (held : List (Option Held)) (i : ℕ) → i < volume b → now ≡ with_levels_to b held i → block_at now (place_of b i) ≡ block_by b held i
there b now held i inside is = ap (λ (plan : Plan). block_at plan (place_of b i)) is ∙ block_by-there b (with_levels_to b held i) held i inside refl refl refl refl

pub give_level_in-requires-clause-comparator : goal.give_level_in-requires-clause-comparator
give_level_in-requires-clause-comparator c =
    let b : Plan = c.args.build.now in
    let held : List (Option Held) = c.args.held.now in
    let i : ℕ = c.loop-cell.cell in
    let inside : i < volume b = omega (arith, c.cells-cell-end.ensures.count) in
    ap is_comparator (there b c.loop-cell.after held i inside c.loop-cell.invariant) ∙ comparator-given (in_cell held i) (block_at b (place_of b i))

pub give_level_in-requires-clause-container : goal.give_level_in-requires-clause-container
give_level_in-requires-clause-container c =
    let b : Plan = c.args.build.now in
    let held : List (Option Held) = c.args.held.now in
    let i : ℕ = c.loop-cell.cell in
    let inside : i < volume b = omega (arith, c.cells-cell-end.ensures.count) in
    ap is_container (there b c.loop-cell.after held i inside c.loop-cell.invariant) ∙ container-given (in_cell held i) (block_at b (place_of b i))

pub loop-cell-preserved : goal.loop-cell-preserved
loop-cell-preserved c =
    let b : Plan = c.args.build.now in
    let held : List (Option Held) = c.args.held.now in
    let i : ℕ = c.loop-cell.cell in
    let inside : i < volume b = omega (arith, c.cells-cell-end.ensures.count) in
    let is : c.loop-cell.after ≡ with_levels_to b held i = c.loop-cell.invariant in
    let given : c.in_cell.result ≡ in_cell held i = c.in_cell.ensures in
    c.in_ok-give_level_in.ensures
    ∙ (λ j. with_level_in b i (given j) (is j))
    ∙ levels_to-more b c.cells-cell-end.ensures.whole held i inside

pub returns : goal.returns
returns c = c.loop-cell.invariant ∙ levels_to-all c.args.build.now c.args.held.now c.loop-cell.cell (omega (arith, c.cells-cell-end.ensures.count))
