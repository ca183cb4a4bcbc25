-- Where nodes stand in a build.
use Rattle.std.specs.Prelude.{◌≡◌, true, List}
use Rattle.circuit.specs.declared.Pos.{Pos}
use Rattle.build.specs.Plan.{Plan, in_box}
use Rattle.graph.specs.RawNodes.{has_node}

-- In the box, at a component, a block of redstone or a marked wire.
pub record IsNodePlace (b : Plan) (marks : List Pos) (p : Pos) : Type 0 where
  pub inside : in_box b p ≡ true
  pub node : has_node b marks p ≡ true
