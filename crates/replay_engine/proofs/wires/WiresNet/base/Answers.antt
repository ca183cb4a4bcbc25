use Rattle.std.proofs.Common.{◌<◌, ◌∙◌, length, sym, arith}
use Rattle.wire_shape.specs.WirePlaces.{wire_inside}
use Rattle.replay_engine.specs.Running.{given_by}
use Rattle.replay_engine.specs.WireThings.{length-things}
use Rattle.replay_engine.proofs.Wiring.{base-wire, base-none}
use Rattle.replay_engine.proofs.wires.WiresNet.base.Goals as goal

pub spot-pos-requires : goal.spot-pos-requires
spot-pos-requires c =
    let m = c.args.self.now.given.things.now in
    omega (arith, c.requires, length-things m (given_by m c.args.self.now.given.cells.now.cells))

pub source_of-requires : goal.source_of-requires
source_of-requires c = wire_inside c.args.self.now.given.things.now.plan c.spot-pos.result (sym c.wire_there.ensures ∙ c.if-wire_there.true)

pub returns-then-wire_there : goal.returns-then-wire_there
returns-then-wire_there c =
    let m = c.args.self.now.given.things.now in
    let given = given_by m c.args.self.now.given.cells.now.cells in
    let below : c.args.cell < length m.spots = omega (arith, c.requires, length-things m given) in
    c.source_of.ensures ∙ base-wire m given c.args.cell c.spot-pos.result below c.spot-pos.ensures (sym c.wire_there.ensures ∙ c.if-wire_there.true)

pub returns-else-wire_there : goal.returns-else-wire_there
returns-else-wire_there c =
    let m = c.args.self.now.given.things.now in
    let given = given_by m c.args.self.now.given.cells.now.cells in
    let below : c.args.cell < length m.spots = omega (arith, c.requires, length-things m given) in
    base-none m given c.args.cell c.spot-pos.result below c.spot-pos.ensures (sym c.wire_there.ensures ∙ c.if-wire_there.false)
