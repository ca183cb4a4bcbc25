use Rattle.std.proofs.Common.{◌≡◌, drop}
use Rattle.schematic.specs.Palette.{unknown_text}
use Rattle.schematic.specs.Code.{plain_entries}
use Rattle.schematic.proofs.palette.unknown_text.Given as goal

abbrev pub invariant-loop-entry : goal.invariant-loop-entry
invariant-loop-entry l = unknown_text (plain_entries (drop l.entry-index l.entries)) ≡ unknown_text (plain_entries l.entries)
