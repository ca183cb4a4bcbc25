-- A build as a circuit, the world: its keys are places, and each component reads what the blocks around it give.
use Rattle.std.specs.Prelude.{ℕ, List, map}
use Rattle.circuit.specs.declared.Pos.{Pos}
use Rattle.circuit.specs.declared.Act.{Act}
use Rattle.circuit.specs.Circuit.{Circuit}
use Rattle.circuit.specs.Shows.{Shows}
use Rattle.build.specs.Place.{same_place}
use Rattle.build.specs.declared.OutPlace.{OutPlace}
use Rattle.build.specs.Plan.{Plan}
use Rattle.build.specs.Outputs.{outputs}
use Rattle.build.specs.Roles.{role_at, first_at, base_at, stored}
use Rattle.power_rules.specs.RightWires.{levels, wire_powers}
use Rattle.power_rules.specs.Readings.{readings_at}

-- The components are those of the build and its marked wires. They read under the right powers of the wires.
abbrev pub world_circuit : Plan → List Pos → Circuit Pos
world_circuit b marks = record {
  same = same_place;
  role = role_at b marks;
  first = first_at b;
  base = base_at b;
  begin = stored b marks;
  place = λ p. p;
  readings = λ given. readings_at b (levels b given (wire_powers b given));
  shown = map (λ (o : OutPlace). o.pos) (outputs b marks);
}

-- the build may show these views, one after the start, each click and each tick
abbrev pub shows : Plan → List Pos → List Act → List (List ℕ) → Type 0
shows b marks acts views = (events : ℕ) × Shows (world_circuit b marks) acts views events
