use Rattle.std.proofs.Common.{◌≡◌, ◌≤◌, ◌+◌, ◌++◌, [], length}
use Rattle.std.specs.List.{filter_map}
use Rattle.schematic.specs.PendingTicks.{fives, tick_of, fault_after}
use Rattle.schematic.proofs.pending.with_all_pending.Given as goal

abbrev pub decreases-loop-rest : goal.decreases-loop-rest
decreases-loop-rest l = length l.rest

abbrev pub invariant-loop-rest : goal.invariant-loop-rest
invariant-loop-rest l = record {
  made : l.build ≡ record l.fn.build { pending = l.build.pending };
  sound : fault_after l.fn.build l.group l.build.pending (fives l.rest) ≡ fault_after l.fn.build 0 [] (fives l.numbers);
  ticks : l.build.pending ++ filter_map tick_of (fives l.rest) ≡ filter_map tick_of (fives l.numbers);
  few : l.group + length l.rest ≤ length l.numbers;
}
