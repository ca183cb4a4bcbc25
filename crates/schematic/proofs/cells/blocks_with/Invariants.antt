use Rattle.std.proofs.Common.{◌≡◌, ◌-◌, ◌≤◌, ◌++◌, pos, map, length}
use Rattle.std.specs.Ordering.{int_cmp}
use Rattle.std.specs.BTreeMap.{get}
use Rattle.schematic.specs.Palette.{block_or_air}
use Rattle.schematic.specs.Cells.{varints, value_of, fault_from}
use Rattle.schematic.proofs.cells.blocks_with.Given as goal

abbrev pub invariant-loop : goal.invariant-loop
invariant-loop l = record {
  behind : length l.rest ≤ length l.cells;
  sound : fault_from (λ n. get int_cmp l.blocks n) (length l.cells - length l.rest) (l.volume - l.counter) (varints l.rest) ≡ fault_from (λ n. get int_cmp l.blocks n) 0 l.volume (varints l.cells);
  blocks : l.built.items ++ map (λ v. block_or_air (get int_cmp l.blocks (pos (value_of v)))) (varints l.rest) ≡ map (λ v. block_or_air (get int_cmp l.blocks (pos (value_of v)))) (varints l.cells);
  count : length l.built.items ≡ l.counter;
}
