use Rattle.std.proofs.Common.{◌≡◌, drop}
use Rattle.graph.specs.Stored.{plain_nodes}
use Rattle.graph.proofs.FanSteps.{renamed_in}
use Rattle.graph.proofs.edits.rename_among.Given as goal

abbrev pub invariant-loop-key : goal.invariant-loop-key
invariant-loop-key l = renamed_in l.keep l.gone (plain_nodes l.nodes.entries) (drop l.key-index l.targets) ≡ renamed_in l.keep l.gone (plain_nodes l.initial.nodes.entries) l.targets
