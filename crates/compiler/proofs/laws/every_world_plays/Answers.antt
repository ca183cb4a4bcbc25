use Rattle.circuit.proofs.Runs.{firing_list_exists, shows_exists}
use Rattle.power_rules.proofs.Listed.{world_listed}
use Rattle.compiler.proofs.laws.every_world_plays.Goals as goal

pub returns : goal.returns
returns c = record {
  shows = λ b marks acts taken. let s = shows_exists (world_listed b marks) acts taken in (s.0, (s.1, s.2));
  fires = λ b marks s. (_, firing_list_exists (world_listed b marks) s);
}
