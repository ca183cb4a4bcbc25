-- What a build shows in whatever order what is due together fires.
use Rattle.std.specs.Prelude.{◌≡◌, ℕ, List}
use Rattle.circuit.specs.declared.Pos.{Pos}
use Rattle.circuit.specs.declared.Act.{Act}
use Rattle.build.specs.Plan.{Plan}
use Rattle.power_rules.specs.World.{shows}

-- The build may show these views over the script, and no others.
pub record ShowsOnly (b : Plan) (marks : List Pos) (acts : List Act) (views : List (List ℕ)) : Type 0 where
  pub may : shows b marks acts views
  pub alone : (other : List (List ℕ)) → shows b marks acts other → other ≡ views
