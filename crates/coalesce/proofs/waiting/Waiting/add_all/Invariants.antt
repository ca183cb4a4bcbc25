use Rattle.std.proofs.Common.{◌≡◌, ◌<◌, ℕ, Some, get_or}
use Rattle.coalesce.specs.declared.looks.Look.{Look}
use Rattle.coalesce.specs.Looks.{look_at}
use Rattle.coalesce.specs.Waiting.{Waits, AreFew}
use Rattle.coalesce.proofs.waiting.Waiting.add_all.Given as goal

abbrev pub invariant-loop-key : goal.invariant-loop-key
invariant-loop-key l = record {
  few : AreFew l.graph.nodes l.self.numbers;
  keeps : (key : ℕ) → Waits l.initial.self.numbers key → Waits l.self.numbers key;
  all : (index : ℕ) → index < l.key-index → (look : Look) → look_at l.graph.nodes (get_or l.keys index 0) ≡ Some look → Waits l.self.numbers (get_or l.keys index 0);
}
