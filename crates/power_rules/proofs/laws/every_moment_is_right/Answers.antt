use Rattle.circuit.proofs.Settled.{outs-attend}
use Rattle.power_rules.proofs.Moments.{moments_right}
use Rattle.power_rules.specs.World.{world_circuit}
use Rattle.power_rules.proofs.laws.every_moment_is_right.Goals as goal

pub returns : goal.returns
returns c = record { right = moments_right; attended = λ b marks s. outs-attend (world_circuit b marks) s }
