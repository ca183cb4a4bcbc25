use Rattle.std.proofs.Common.{◌≡◌, ◌*◌, ℕ, List, Option, length, sym, ap, ◌∙◌, arith}
use Rattle.std.proofs.lemmas.List.FromFn.{length-map-range_with_len}
use Rattle.block_table.specs.declared.Block.{Block}
use Rattle.block_table.specs.WrittenText.{is_listed}
use Rattle.build.specs.Plan.{Plan, volume, block_at, place_of}
use Rattle.handover.specs.declared.held.Held.{Held}
use Rattle.handover.specs.GivenBack.{given_block}
use Rattle.handover.specs.HeldByCell.{in_cell, block_by}
use Rattle.handover.proofs.Parts.{blocks_more, all_more}
use Rattle.handover.proofs.given.with_blocks.Goals as goal

pub loop-cell-preserved : goal.loop-cell-preserved
loop-cell-preserved c =
    let b : Plan = c.args.build.now in
    let held : List (Option Held) = c.args.held.now in
    let i : ℕ = c.loop-cell.cell in
    let block : c.block_in.result ≡ block_at b (place_of b i) = c.block_in.ensures.value in
    let given : c.in_cell.result ≡ in_cell held i = c.in_cell.ensures in
    let here : c.new.result ≡ block_by b held i = c.new.ensures ∙ c.given_block-block.ensures.value ∙ (λ j. given_block (given j) (block j)) in
    record {
      items = c.in_ok-push.ensures.items ∙ blocks_more b held i c.loop-cell.blocks.items c.new.result c.loop-cell.invariant.items here;
      listed = all_more c.loop-cell.blocks.items c.push.new.self.items c.new.result c.in_ok-push.ensures.items c.loop-cell.invariant.listed (ap is_listed c.new.ensures ∙ c.given_block-block.ensures.listed);
    }

pub of_blocks-requires-clause-cells : goal.of_blocks-requires-clause-cells
of_blocks-requires-clause-cells c =
    let b : Plan = c.args.build.now in
    let held : List (Option Held) = c.args.held.now in
    let i : ℕ = c.loop-cell.cell in
    let last : i ≡ volume b = omega (arith, c.cells-cell-end.ensures.count) in
    let long : length c.loop-cell.blocks.items ≡ volume b = ap (λ (blocks : List Block). length blocks) c.loop-cell.invariant.items ∙ length-map-range_with_len (block_by b held) 0 i ∙ last in
    let width : b.width ≡ c.width.result = sym c.width.ensures.value in
    let depth : b.depth ≡ c.length.result = sym c.length.ensures.value in
    let height : b.height ≡ c.height.result = sym c.height.ensures.value in
    let box : volume b ≡ c.width.result * (c.length.result * c.height.result) = λ j. width j * (depth j * height j) in
    omega (arith, long, box)
