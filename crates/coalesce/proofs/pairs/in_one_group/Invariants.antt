use Rattle.std.proofs.Common.{◌<◌, ℕ, get_or}
use Rattle.graph.specs.Graph.{node_at}
use Rattle.coalesce.specs.Pairs.{IsInOneGroup}
use Rattle.coalesce.proofs.pairs.in_one_group.Given as goal

abbrev pub invariant-loop-key : goal.invariant-loop-key
invariant-loop-key l = (index : ℕ) → index < l.key-index → IsInOneGroup (node_at l.graph.nodes (get_or l.targets index 0)) l.keep l.gone
