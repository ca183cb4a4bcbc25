use Rattle.std.proofs.Common.{◌<◌, ◌∙◌, ℕ, List, length, sym, ap, arith}
use Rattle.std.proofs.lemmas.List.{length-map}
use Rattle.circuit.specs.declared.Pos.{Pos}
use Rattle.wire_shape.specs.Feeders.{feeders}
use Rattle.replay_engine.specs.Running.{given_by}
use Rattle.replay_engine.specs.WireThings.{length-things, number_of}
use Rattle.replay_engine.proofs.Wiring.{feeders-wire, feeders-none}
use Rattle.replay_engine.proofs.wires.WiresNet.feeder_count.Goals as goal

pub spot-pos-requires : goal.spot-pos-requires
spot-pos-requires c =
    let m = c.args.self.now.given.things.now in
    omega (arith, c.requires, length-things m (given_by m c.args.self.now.given.cells.now.cells))

pub returns-then-wire_there : goal.returns-then-wire_there
returns-then-wire_there c =
    let m = c.args.self.now.given.things.now in
    let given = given_by m c.args.self.now.given.cells.now.cells in
    let below : c.args.cell < length m.spots = omega (arith, c.requires, length-things m given) in
    c.len.ensures.len ∙ ap (λ (ps : List Pos). length ps) c.feeders_at.ensures
    ∙ sym (ap (λ (cs : List ℕ). length cs) (feeders-wire m given c.args.cell c.spot-pos.result below c.spot-pos.ensures (sym c.wire_there.ensures ∙ c.if-wire_there.true))
    ∙ length-map (feeders m.plan c.spot-pos.result) (number_of m))

pub returns-else-wire_there : goal.returns-else-wire_there
returns-else-wire_there c =
    let m = c.args.self.now.given.things.now in
    let given = given_by m c.args.self.now.given.cells.now.cells in
    let below : c.args.cell < length m.spots = omega (arith, c.requires, length-things m given) in
    sym (ap (λ (cs : List ℕ). length cs) (feeders-none m given c.args.cell c.spot-pos.result below c.spot-pos.ensures (sym c.wire_there.ensures ∙ c.if-wire_there.false)))
