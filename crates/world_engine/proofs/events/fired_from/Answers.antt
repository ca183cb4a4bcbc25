use Rattle.std.proofs.Common.{ap, ◌∙◌, sym, subst}
use Rattle.circuit.specs.declared.Pos.{Pos}
use Rattle.circuit.specs.declared.Cell.{Cell}
use Rattle.circuit.specs.declared.Readings.{Readings}
use Rattle.circuit.specs.Bounds.{BoundedAt}
use Rattle.circuit.specs.Circuit.{fired_at}
use Rattle.build.specs.Roles.{role_at, first_at}
use Rattle.cell_queue.specs.Held.{cell_of}
use Rattle.wiring.specs.Things.{nothing, spot}
use Rattle.wiring.specs.Numbers.{held-spot}
use Rattle.world_engine.specs.Running.{circuit_of, given_by}
use Rattle.world_engine.proofs.LevelSteps.{reads-world, levels_are_plain, levels_whole}
use Rattle.world_engine.proofs.Within.{bounded_fired}
use Rattle.world_engine.proofs.events.fired_from.Goals as goal

pub fired-requires-clause-whole : goal.fired-requires-clause-whole
fired-requires-clause-whole c = levels_whole c.args.things.now c.args.cells.now.cells c.args.levels.now c.requires.right

pub fired-requires-clause-plain : goal.fired-requires-clause-plain
fired-requires-clause-plain c = levels_are_plain c.args.things.now c.count.ensures.numbered c.args.cells.now.cells c.args.levels.now c.requires.holding.within c.requires.right

pub returns-clause-fired : goal.returns-clause-fired
returns-clause-fired c =
    let m = c.args.things.now in
    let h = c.args.cells.now in
    let p = spot m c.args.number in
    let is = c.fired.ensures
    ∙ ap (λ (reads : Pos → Readings). fired_at h.time (role_at m.plan m.marks p) (first_at m.plan p) reads p (cell_of h.cells c.args.number))
    (reads-world m c.count.ensures.numbered h.cells c.args.levels.now c.requires.holding.within c.requires.right)
    ∙ ap (λ (x : Cell). fired_at h.time (role_at m.plan m.marks p) (first_at m.plan p) ((circuit_of m).readings (given_by m h.cells)) p x) (sym (held-spot m c.count.ensures.numbered h.cells nothing c.args.number c.requires.inside)) in
    is

pub returns-clause-bounded : goal.returns-clause-bounded
returns-clause-bounded c =
    let m = c.args.things.now in
    let h = c.args.cells.now in
    let p = spot m c.args.number in
    let is = c.fired.ensures
    ∙ ap (λ (reads : Pos → Readings). fired_at h.time (role_at m.plan m.marks p) (first_at m.plan p) reads p (cell_of h.cells c.args.number))
    (reads-world m c.count.ensures.numbered h.cells c.args.levels.now c.requires.holding.within c.requires.right)
    ∙ ap (λ (x : Cell). fired_at h.time (role_at m.plan m.marks p) (first_at m.plan p) ((circuit_of m).readings (given_by m h.cells)) p x) (sym (held-spot m c.count.ensures.numbered h.cells nothing c.args.number c.requires.inside)) in
    subst (BoundedAt (role_at m.plan m.marks p)) (sym is) (bounded_fired m c.count.ensures.numbered h.time h.cells p c.requires.holding.within)
