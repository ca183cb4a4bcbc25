use Rattle.std.proofs.Common.{ap, ◌∙◌}
use Rattle.circuit.specs.declared.Pos.{Pos}
use Rattle.circuit.specs.declared.Readings.{Readings}
use Rattle.circuit.specs.Circuit.{seen_at}
use Rattle.build.specs.Roles.{role_at}
use Rattle.replay_engine.specs.Things.{held, nothing}
use Rattle.replay_engine.proofs.Attending.{reads-right}
use Rattle.replay_engine.specs.Given.{powers-le}
use Rattle.replay_engine.proofs.events.shown_at.Goals as goal

pub returns : goal.returns
returns c =
    let m = c.args.things.now in
    let cells = c.args.cells.now.cells in
    c.shown.ensures
    ∙ ap (λ (reads : Pos → Readings). seen_at (role_at m.plan m.marks c.args.pos) reads c.args.pos (held m cells nothing c.args.pos))
    (reads-right m c.count.ensures.numbered cells c.args.powers.now c.requires.holding.within c.requires.powers)

pub shown-requires-clause-small : goal.shown-requires-clause-small
shown-requires-clause-small c = powers-le c.requires.holding c.requires.powers
