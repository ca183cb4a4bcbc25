use Rattle.std.proofs.Common.{◌≡◌, ◌<◌, ◌∙◌, ℕ, List, [], length, map, slice_index, subst, refl, sym, ap, arith}
use Rattle.std.specs.List.{slice_get}
use Rattle.std.specs.Prelude.{Some}
use Rattle.std.proofs.lemmas.List.{length-map}
use Rattle.circuit.specs.declared.Pos.{Pos}
use Rattle.wire_shape.specs.Feeders.{feeders}
use Rattle.replay_engine.specs.Running.{given_by}
use Rattle.replay_engine.specs.WireThings.{length-things, number_of}
use Rattle.replay_engine.proofs.Wiring.{feeders-wire, feeders-none, feeder-number}
use Rattle.replay_engine.proofs.wires.WiresNet.feeder.Goals as goal

pub spot-pos-requires : goal.spot-pos-requires
spot-pos-requires c =
    let m = c.args.self.now.given.things.now in
    omega (arith, c.requires.in_net, length-things m (given_by m c.args.self.now.given.cells.now.cells))

pub get-requires : goal.get-requires
get-requires c =
    let m = c.args.self.now.given.things.now in
    let given = given_by m c.args.self.now.given.cells.now.cells in
    let below : c.args.cell < length m.spots = omega (arith, c.requires.in_net, length-things m given) in
    let count = ap (λ (cs : List ℕ). length cs) (feeders-wire m given c.args.cell c.spot-pos.result below c.spot-pos.ensures (sym c.wire_there.ensures ∙ c.if-wire_there.true))
    ∙ length-map (feeders m.plan c.spot-pos.result) (number_of m)
    ∙ sym (ap (λ (ps : List Pos). length ps) c.feeders_at.ensures) in
    omega (arith, count, c.requires.in_cell, c.from.ensures)

pub returns-then-wire_there : goal.returns-then-wire_there
returns-then-wire_there c =
    let m = c.args.self.now.given.things.now in
    let given = given_by m c.args.self.now.given.cells.now.cells in
    let below : c.args.cell < length m.spots = omega (arith, c.requires.in_net, length-things m given) in
    let found = subst (λ (ps : List Pos). slice_get ps c.from.result ≡ Some c.get.result) c.feeders_at.ensures c.get.ensures in
    c.number_of.ensures
    ∙ feeder-number m c.spot-pos.result c.get.result c.from.result found
    ∙ ap (λ (k : ℕ). slice_index (map (number_of m) (feeders m.plan c.spot-pos.result)) k) c.from.ensures
    ∙ ap (λ (cs : List ℕ). slice_index cs c.args.index) (sym (feeders-wire m given c.args.cell c.spot-pos.result below c.spot-pos.ensures (sym c.wire_there.ensures ∙ c.if-wire_there.true)))

pub returns-else-wire_there : goal.returns-else-wire_there
returns-else-wire_there c =
    let m = c.args.self.now.given.things.now in
    let given = given_by m c.args.self.now.given.cells.now.cells in
    let below : c.args.cell < length m.spots = omega (arith, c.requires.in_net, length-things m given) in
    let none : ◌≡◌ {A = ℕ} 0 (slice_index [] c.args.index) = refl in
    none ∙ ap (λ (cs : List ℕ). slice_index cs c.args.index) (sym (feeders-none m given c.args.cell c.spot-pos.result below c.spot-pos.ensures (sym c.wire_there.ensures ∙ c.if-wire_there.false)))
