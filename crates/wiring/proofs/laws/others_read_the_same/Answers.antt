use Rattle.wire_net.specs.Noted.{IsNoted}
use Rattle.wiring.proofs.Reached.{reads_or}
use Rattle.wiring.proofs.laws.others_read_the_same.Goals as goal

pub returns : goal.returns
returns c = λ m w t wired old new waves noted. reads_or m w t wired old new (IsNoted waves) noted
