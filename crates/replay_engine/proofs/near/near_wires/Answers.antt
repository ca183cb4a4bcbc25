use Rattle.std.proofs.Common.{sym, ap, ◌∙◌, subst, arith}
use Rattle.circuit.specs.declared.Pos.{Pos}
use Rattle.build.specs.Plan.{IsNear}
use Rattle.replay_engine.specs.Near.{nearby}
use Rattle.replay_engine.proofs.Spots.{spot_near, listed_none, listed_next, wires_listed, wires_below}
use Rattle.replay_engine.proofs.near.near_wires.Goals as goal

pub nearby-pos-items-requires : goal.nearby-pos-items-requires
nearby-pos-items-requires c = subst (λ (p : Pos). IsNear 0 p) (sym c.spot.ensures) (spot_near c.args.things.now c.count.ensures.numbered c.args.number c.requires.inside)

pub loop-pos-init : goal.loop-pos-init
loop-pos-init c = listed_none c.args.things.now c.nearby-pos-items.result c.args.wires.now c.requires.room

pub loop-pos-preserved : goal.loop-pos-preserved
loop-pos-preserved c =
    listed_next c.args.things.now c.count.ensures.numbered c.nearby-pos-items.result c.loop-pos.pos-index c.loop-pos.wires c.loop-pos.count c.note_wire-count.new.wires c.note_wire-count.result c.loop-pos.invariant (omega arith) c.note_wire-count.ensures

pub returns-clause-few : goal.returns-clause-few
returns-clause-few c = omega (arith, c.loop-pos.invariant.short)

pub returns-clause-listed : goal.returns-clause-listed
returns-clause-listed c =
    wires_listed c.args.things.now c.nearby-pos-items.result c.loop-pos.pos-index c.loop-pos.wires c.loop-pos.count _ (c.nearby-pos-items.ensures ∙ ap nearby c.spot.ensures) c.loop-pos-test.false (omega (arith, c.loop-pos.invariant.short)) c.loop-pos.invariant

pub returns-clause-below : goal.returns-clause-below
returns-clause-below c = wires_below c.args.things.now c.nearby-pos-items.result c.loop-pos.pos-index c.loop-pos.wires c.loop-pos.count (omega (arith, c.loop-pos.invariant.short)) c.loop-pos.invariant
