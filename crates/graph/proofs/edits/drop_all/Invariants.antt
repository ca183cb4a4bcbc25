use Rattle.std.proofs.Common.{◌≡◌, drop}
use Rattle.graph.specs.Stored.{plain_nodes}
use Rattle.graph.specs.Edits.{drop_set}
use Rattle.graph.proofs.edits.drop_all.Given as goal

abbrev pub invariant-loop-key : goal.invariant-loop-key
invariant-loop-key l = drop_set (plain_nodes l.nodes.entries) (drop l.key-index l.keys) ≡ drop_set (plain_nodes l.initial.nodes.entries) l.keys
