use Rattle.std.proofs.Common.{◌≡◌, map}
use Rattle.std.specs.Prelude.{All, IsTrue}
use Rattle.std.specs.List.{range_with_len}
use Rattle.block_table.specs.WrittenText.{is_listed}
use Rattle.handover.specs.HeldByCell.{block_by}
use Rattle.handover.proofs.given.with_blocks.Given as goal

abbrev pub invariant-loop-cell : goal.invariant-loop-cell
invariant-loop-cell l = record {
  items : l.blocks.items ≡ map (block_by l.build l.held) (range_with_len 0 l.cell);
  listed : All (λ block. IsTrue (is_listed block)) l.blocks.items;
}
