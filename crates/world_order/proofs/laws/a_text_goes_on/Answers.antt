use Rattle.std.proofs.Common.{refl}
use Rattle.world_order.proofs.Following.{follow}
use Rattle.world_order.proofs.laws.a_text_goes_on.Goals as goal

pub returns : goal.returns
returns c = λ b w marks s mid last done left order all views shows one two early A B e. let f = follow b w marks one {left = left} refl two early A B e in (f.more, f.shows, f.run, f.text)
