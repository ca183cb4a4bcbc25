use Rattle.std.proofs.Common.{◌<◌, ℕ, get_or}
use Rattle.circuit.specs.Circuit.{Among}
use Rattle.coalesce.specs.FanOuts.{targets_of, Keeps}
use Rattle.coalesce.proofs.fan_outs.FanOuts.join.Given as goal

abbrev pub invariant-loop-key : goal.invariant-loop-key
invariant-loop-key l = record {
  keeps : Keeps l.initial.self.lists.items l.self.lists.items;
  joined : (index : ℕ) → index < l.key-index → Among (targets_of l.self.lists.items l.keep) (get_or l.key-items index 0);
}
