use Rattle.std.proofs.Common.{ap, ◌∙◌, sym, subst}
use Rattle.circuit.specs.declared.Pos.{Pos}
use Rattle.circuit.specs.declared.Readings.{Readings}
use Rattle.circuit.specs.Bounds.{BoundedAt}
use Rattle.circuit.specs.Circuit.{fired_at}
use Rattle.build.specs.Roles.{role_at, first_at}
use Rattle.replay_engine.specs.Things.{held, nothing}
use Rattle.replay_engine.proofs.Attending.{reads-right}
use Rattle.replay_engine.proofs.Within.{bounded_fired}
use Rattle.replay_engine.specs.Given.{powers-le}
use Rattle.replay_engine.proofs.events.fired_from.Goals as goal

pub returns-clause-fired : goal.returns-clause-fired
returns-clause-fired c =
    let m = c.args.things.now in
    let h = c.args.cells.now in
    c.fired.ensures
    ∙ ap (λ (reads : Pos → Readings). fired_at h.time (role_at m.plan m.marks c.args.pos) (first_at m.plan c.args.pos) reads c.args.pos (held m h.cells nothing c.args.pos))
    (reads-right m c.count.ensures.numbered h.cells c.args.powers.now c.requires.holding.within c.requires.powers)

pub returns-clause-bounded : goal.returns-clause-bounded
returns-clause-bounded c =
    let m = c.args.things.now in
    let h = c.args.cells.now in
    let is = c.fired.ensures
    ∙ ap (λ (reads : Pos → Readings). fired_at h.time (role_at m.plan m.marks c.args.pos) (first_at m.plan c.args.pos) reads c.args.pos (held m h.cells nothing c.args.pos))
    (reads-right m c.count.ensures.numbered h.cells c.args.powers.now c.requires.holding.within c.requires.powers) in
    subst (BoundedAt (role_at m.plan m.marks c.args.pos)) (sym is) (bounded_fired m c.count.ensures.numbered h.time h.cells c.args.pos c.requires.holding.within)

pub fired-requires-clause-small : goal.fired-requires-clause-small
fired-requires-clause-small c = powers-le c.requires.holding c.requires.powers
