use Rattle.std.proofs.Common.{◌≡◌, ◌++◌, take}
use Rattle.std.specs.List.{flat_map}
use Rattle.report.specs.Header.{output_line}
use Rattle.report.proofs.header.extend_with_header.Given as goal

abbrev pub invariant-loop-place : goal.invariant-loop-place
invariant-loop-place l = record { room : l.line.room ≡ 64; text : l.out.items ≡ l.initial.out.items ++ flat_map output_line (take l.place-index l.places) }
