use Rattle.link_counts.specs.Tabled.{IsLone}
use Rattle.link_counts.proofs.tables.lone_number.Given as goal

abbrev pub invariant-loop-strength : goal.invariant-loop-strength
invariant-loop-strength l = IsLone l.table l.strength l.number
