use Rattle.std.proofs.Common.{◌≡◌, drop}
use Rattle.std.specs.HashMap.{get}
use Rattle.circuit.specs.declared.Pos.{Pos}
use Rattle.graph.specs.Clicks.{is_same_place}
use Rattle.graph_file.specs.Placed.{kind_at}
use Rattle.graph_file.proofs.placed.kinds_below.Given as goal

abbrev pub invariant-loop-key : goal.invariant-loop-key
invariant-loop-key l = (place : Pos) → get is_same_place l.kinds place ≡ kind_at (drop l.key l.graph.nodes) place
