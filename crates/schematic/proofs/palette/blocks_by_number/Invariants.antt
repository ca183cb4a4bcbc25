use Rattle.std.proofs.Common.{◌≡◌, ℤ, false, take}
use Rattle.std.specs.Ordering.{int_cmp}
use Rattle.std.specs.BTreeMap.{get}
use Rattle.schematic.specs.Palette.{clash, block_numbered}
use Rattle.schematic.specs.Code.{plain_entries}
use Rattle.schematic.proofs.palette.blocks_by_number.Given as goal

abbrev pub invariant-loop-entry : goal.invariant-loop-entry
invariant-loop-entry l = record {
  differ : clash (plain_entries (take l.entry-index l.entries)) ≡ false;
  blocks : (n : ℤ) → get int_cmp l.blocks n ≡ block_numbered (plain_entries (take l.entry-index l.entries)) n;
}
