use Rattle.std.proofs.Common.{◌≡◌, ◌<◌, List, [], ℕ, sym, ap, subst, arith}
use Rattle.block_table.specs.WrittenText.{state_text}
use Rattle.build.specs.Plan.{Plan, volume, place_of, block_at}
use Rattle.schem_write.specs.Code.{texts_of}
use Rattle.schem_write.proofs.CellSteps.{Before, before-none, before-more, all-texts, all-cells, few-texts}
use Rattle.schem_write.proofs.palette.palette_and_cells.Goals as goal

pub loop-cell-preserved : goal.loop-cell-preserved
loop-cell-preserved c =
    let b : Plan = c.args.build.now in
    let inside : c.loop-cell.cell < volume b = omega (arith, c.cells-cell-end.ensures.count) in
    let text : List ℕ = state_text c.block_in-block.result in
    let same : text ≡ state_text (block_at b (place_of b c.loop-cell.cell)) = ap state_text c.block_in-block.ensures.value in
    record {
      before = before-more b (texts_of c.loop-cell.palette.keys) (texts_of c.number_of_block.new.palette.keys) c.loop-cell.cells.items c.push_varint.new.out.items
          c.loop-cell.cell c.in_ok-number.number text c.cells.ensures.whole inside same
          c.in_ok-number.ensures.number c.in_ok-number.ensures.texts c.in_ok-push_varint.ensures c.loop-cell.invariant.before;
      right = c.in_ok-number.ensures.right;
    }

pub returns-clause-texts : goal.returns-clause-texts
returns-clause-texts c =
    all-texts c.args.build.now (texts_of c.loop-cell.palette.keys) c.loop-cell.cells.items c.loop-cell.cell c.cells.ensures.whole (omega (arith, c.cells-cell-end.ensures.count)) c.loop-cell.invariant.before

pub returns-clause-cells : goal.returns-clause-cells
returns-clause-cells c =
    all-cells c.args.build.now (texts_of c.loop-cell.palette.keys) c.loop-cell.cells.items c.loop-cell.cell c.cells.ensures.whole (omega (arith, c.cells-cell-end.ensures.count)) c.loop-cell.invariant.before

pub returns-clause-few : goal.returns-clause-few
returns-clause-few c =
    few-texts c.args.build.now c.loop-cell.palette.keys c.loop-cell.cells.items c.loop-cell.cell c.cells.ensures.whole c.loop-cell.invariant.before

pub loop-cell-init : goal.loop-cell-init
loop-cell-init c = record {
  before = subst (λ (texts : List (List ℕ)). Before c.args.build.now texts c.in_ok-cells.cells.items 0) (sym (ap texts_of c.new-palette.ensures.empty)) (subst (λ (cells : List ℕ). Before c.args.build.now [] cells 0) (sym c.in_ok-cells.ensures.items) (before-none c.args.build.now));
  right = c.in_ok-numbers.ensures (texts_of c.new-palette.result.keys);
}
