use Rattle.std.proofs.Common.{◌≡◌, drop}
use Rattle.schematic.specs.Presence.{all_ints}
use Rattle.schematic.specs.Code.{plain_entries}
use Rattle.schematic.proofs.entries.all_ints.Given as goal

abbrev pub invariant-loop-entry : goal.invariant-loop-entry
invariant-loop-entry l = all_ints (plain_entries (drop l.entry-index l.entries)) ≡ all_ints (plain_entries l.entries)
