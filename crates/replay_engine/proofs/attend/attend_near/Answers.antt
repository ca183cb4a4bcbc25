use Rattle.std.proofs.Common.{sym, ap, ◌∙◌, subst, refl}
use Rattle.circuit.specs.declared.Pos.{Pos}
use Rattle.build.specs.Plan.{IsNear}
use Rattle.replay_engine.specs.Near.{nearby}
use Rattle.replay_engine.proofs.Spots.{spot_near}
use Rattle.replay_engine.proofs.NearSteps.{at_time, among_start, among_next, among_near}
use Rattle.replay_engine.proofs.attend.attend_near.Goals as goal

pub nearby-pos-items-requires : goal.nearby-pos-items-requires
nearby-pos-items-requires c = subst (λ (p : Pos). IsNear 0 p) (sym c.spot.ensures) (spot_near c.args.things.now c.count.ensures.numbered c.args.number c.requires.inside)

pub loop-pos-init : goal.loop-pos-init
loop-pos-init c = record {
  attends = among_start c.args.things.now c.args.cells.now.time c.args.powers.now c.args.cells.now.cells c.nearby-pos-items.result;
  holding = c.requires.holding;
  time = refl;
}

pub loop-pos-preserved : goal.loop-pos-preserved
loop-pos-preserved c = record {
  attends = among_next c.args.things.now c.args.cells.now.time c.args.powers.now c.args.cells.now.cells c.loop-pos.cells.cells c.attend_at.new.cells.cells c.nearby-pos-items.result c.loop-pos.pos-index _ refl c.loop-pos.invariant.attends
      (at_time c.args.things.now c.loop-pos.cells.time c.args.cells.now.time c.args.powers.now c.loop-pos.cells.cells c.attend_at.new.cells.cells _ c.loop-pos.invariant.time c.attend_at.ensures.attends);
  holding = c.attend_at.ensures.holding;
  time = c.attend_at.ensures.time ∙ c.loop-pos.invariant.time;
}

pub returns-clause-attends : goal.returns-clause-attends
returns-clause-attends c =
    among_near c.args.things.now c.args.cells.now.time c.args.powers.now c.args.cells.now.cells c.loop-pos.cells.cells c.nearby-pos-items.result c.loop-pos.pos-index _ (c.nearby-pos-items.ensures ∙ ap nearby c.spot.ensures) c.loop-pos-test.false c.loop-pos.invariant.attends
