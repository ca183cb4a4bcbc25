-- How the outputs of a build are shown, by the numbers of its things.
use Rattle.std.specs.Prelude.{ℕ, List, map, Option, Some, None}
use Rattle.circuit.specs.declared.Pos.{Pos}
use Rattle.circuit.specs.declared.Component.{Component}
use Rattle.circuit.specs.declared.Component.TheVariants.{Wire}
use Rattle.build.specs.declared.OutPlace.{OutPlace}
use Rattle.build.specs.Outputs.{outputs}
use Rattle.build.specs.Roles.{role_at}
use Rattle.wiring.specs.Things.{Numbered, number_at}
pub use Rattle.world_engine.specs.declared.outlets.Outlet.{Outlet}
pub use Rattle.world_engine.specs.declared.outlets.Outlet.TheVariants.{Blank, Level, Value}

-- of a thing that is this component: a wire by its level, any other by its value
abbrev pub outlet_of : Option Component → ℕ → Outlet
outlet_of None number = Blank
outlet_of (Some Wire) number = Level number
outlet_of (Some component) number = Value number

abbrev pub outlet_in : Option Component → Option ℕ → Outlet
outlet_in role None = Blank
outlet_in role (Some number) = outlet_of role number

-- of a place
abbrev pub outlet_at : Numbered → Pos → Outlet
outlet_at m p = outlet_in (role_at m.plan m.marks p) (number_at m p)

abbrev pub outlet_under : Numbered → OutPlace → Outlet
outlet_under m o = outlet_at m o.pos

-- of all outputs
abbrev pub outlets_of : Numbered → List Outlet
outlets_of m = map (outlet_under m) (outputs m.plan m.marks)
