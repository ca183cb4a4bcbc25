use Rattle.std.proofs.Common.{◌≡◌, ◌≤◌, ℕ, List, length, map, drop, reverse}
use Rattle.std.specs.List.{list_any}
use Rattle.std.specs.Str.{bytes_eq}
use Rattle.nbt.specs.Plain.{PlainField, plain_field}
use Rattle.schematic.specs.Palette.{last_ones, same_name}
use Rattle.schematic.specs.Code.{plain_entries, has_name}
use Rattle.schematic.proofs.entries.entries_of.Given as goal

abbrev pub decreases-loop-index : goal.decreases-loop-index
decreases-loop-index l = l.index

abbrev pub invariant-loop-index : goal.invariant-loop-index
invariant-loop-index l = record {
  within : l.index ≤ length l.fields.items;
  known : (q : List ℕ) → has_name l.names.keys q ≡ list_any (λ (f : PlainField). bytes_eq q f.0) (map plain_field (drop l.index l.fields.items));
  counted : reverse (plain_entries l.entries.items) ≡ last_ones same_name (map plain_field (drop l.index l.fields.items));
}
