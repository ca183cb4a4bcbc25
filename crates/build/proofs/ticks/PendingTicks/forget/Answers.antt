use Rattle.std.proofs.Common.{List, sym, subst}
use Rattle.build.specs.declared.Pending.{Pending}
use Rattle.build.specs.Noted.{AreNoted}
use Rattle.build.proofs.NotedTicks.{noted_elsewhere}
use Rattle.build.proofs.ticks.PendingTicks.forget.Goals as goal

pub invariant_of-self : goal.invariant_of-self
invariant_of-self c =
    subst (λ (ticks : List Pending). AreNoted ticks c.self.inside.places) (sym c.forget.ensures)
    (noted_elsewhere c.args.pos c.self.inside.list.items c.self.inside.places c.self.invariant)
