use Rattle.std.proofs.Common.{◌+◌, ◌*◌, ◌≤◌, length, take}
use Rattle.std.specs.List.{flat_map}
use Rattle.report.specs.RoomyText.{Appends}
use Rattle.report.specs.ViewLine.{value_text}
use Rattle.report.proofs.views.push_view.Given as goal

abbrev pub invariant-loop-value : goal.invariant-loop-value
invariant-loop-value l = record { text : Appends l.initial.buf l.buf (flat_map value_text (take l.value-index l.values)); room : 3 * length l.values + 1 ≤ l.buf.spare + 3 * l.value-index }
