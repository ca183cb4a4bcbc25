use Rattle.std.proofs.Common.{◌≡◌, ◌<◌, ◌≤◌, ℕ, get_or}
use Rattle.link_counts.proofs.tables.greatest_of.Given as goal

abbrev pub invariant-loop-strength : goal.invariant-loop-strength
invariant-loop-strength l = (strength : ℕ) → l.strength ≤ strength → strength < 16 → get_or l.table strength 0 ≡ 0
