use Rattle.circuit.proofs.Settled.{attend-twice}
use Rattle.circuit.proofs.laws.attending_settles.Goals as goal

pub returns : goal.returns
returns g c = attend-twice
