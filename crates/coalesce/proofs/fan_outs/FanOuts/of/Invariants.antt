use Rattle.std.proofs.Common.{◌<◌, ℕ, get_or}
use Rattle.circuit.specs.Circuit.{Among}
use Rattle.graph.specs.declared.Link.{Link}
use Rattle.graph.specs.Graph.{HasLink}
use Rattle.coalesce.specs.FanOuts.{targets_of}
use Rattle.coalesce.proofs.fan_outs.FanOuts.of.Given as goal

abbrev pub invariant-loop-key : goal.invariant-loop-key
invariant-loop-key l = (place : ℕ) → place < l.key-index → (index : ℕ) (link : Link) → HasLink l.graph.nodes (get_or l.keys place 0) index link →
    Among (targets_of l.fans.lists.items link.from) (get_or l.keys place 0)
