use Rattle.std.proofs.Common.{◌≡◌, ◌<◌, ℕ, length, get_or, None}
use Rattle.graph_machine.specs.Wired.{given}
use Rattle.graph_machine.specs.Wiring.{part_out}
use Rattle.graph_machine.proofs.wiring.outs_of.Given as goal

abbrev pub invariant-loop-part : goal.invariant-loop-part
invariant-loop-part l = record {
  count : length l.outs.items ≡ l.part-index;
  outs : (key : ℕ) → key < l.part-index → given l.outs.items key ≡ part_out (get_or l.parts key None);
}
