use Rattle.std.proofs.Common.{List, sym, subst}
use Rattle.circuit.specs.declared.Pos.{Pos}
use Rattle.build.specs.declared.Pending.{Pending}
use Rattle.build.specs.Marks.{with_mark}
use Rattle.build.specs.Noted.{AreNoted}
use Rattle.build.proofs.NotedTicks.{noted_one_more, noted_more}
use Rattle.build.proofs.ticks.PendingTicks.push.Goals as goal

pub invariant_of-self-in_err-push : goal.invariant_of-self-in_err-push
invariant_of-self-in_err-push c =
    let places : List Pos = with_mark c.args.tick.pos c.self.inside.places in
    subst (AreNoted c.push.new.self.items) (sym c.in_ok-add.ensures.ok)
    (subst (λ (ticks : List Pending). AreNoted ticks places) (sym c.in_err-push.ensures.items)
    (noted_more c.args.tick.pos c.self.inside.list.items c.self.inside.places c.self.invariant))

pub invariant_of-self-2 : goal.invariant_of-self-2
invariant_of-self-2 c =
    let places : List Pos = with_mark c.args.tick.pos c.self.inside.places in
    subst (AreNoted c.push.new.self.items) (sym c.in_ok-add.ensures.ok)
    (subst (λ (ticks : List Pending). AreNoted ticks places) (sym c.in_ok-push.ensures.items)
    (noted_one_more c.args.tick c.self.inside.list.items c.self.inside.places c.self.invariant))
