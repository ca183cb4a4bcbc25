use Rattle.std.proofs.Common.{◌≡◌, ℕ, List, ◌∷◌, [], length, refl, sym, ap, subst, ◌∙◌, arith}
use Rattle.circuit.specs.Circuit.{Circuit, view}
use Rattle.circuit.specs.Shows.{steps_of}
use Rattle.circuit.specs.Taken.{EachTaken}
use Rattle.circuit.proofs.Runs.{taken-steps_of}
use Rattle.script.specs.StepsLeft.{steps_left}
use Rattle.player.proofs.Going.{taken_after}
use Rattle.player.proofs.GraphRuns.{length-steps_of}
use Rattle.player.proofs.AnyRuns.{known_step, run_begins, run_goes_on, run_ends}
use Rattle.player.proofs.plays.play_on.Goals as goal

pub loop-step-init : goal.loop-step-init
loop-step-init g c =
    let p = c.args.player.now in
    let acts = c.args.script.now.acts in
    let left : steps_left c.into_iter-step-iterator.result ≡ steps_of acts = cc in
    record {
      circuit = refl;
      cost = refl;
      going = run_begins (g.P.Plays.circuit p) (g.P.Plays.cost p) acts (g.P.Plays.spent c.args.costs.now) (g.P.Plays.counted p) (g.P.Plays.state p) (steps_left c.into_iter-step-iterator.result) c.requires.none c.requires.start left;
      taken = subst (EachTaken (g.P.Plays.circuit p)) (sym left) (taken-steps_of (g.P.Plays.circuit p) acts c.requires.taken);
      ahead = omega (arith, ap length left, length-steps_of acts, c.steps-step-items.ensures.short.few_acts, c.steps-step-items.ensures.short.few_ticks, c.requires.ahead);
      shown = c.requires.shown;
    }

pub loop-step-preserved : goal.loop-step-preserved
loop-step-preserved g c =
    let p = c.args.player.now in
    let old = c.loop-step.player in
    let new = c.step.new.self in
    let left : steps_left c.loop-step.step-iterator ≡ c.in-Some.step ∷ steps_left c.next.new.self = c.in-Some.ensures.steps in
    let inv = c.loop-step.invariant in
    let on = known_step (record { circuit = inv.circuit; costs = inv.cost; notes = refl; steps = c.step.ensures.step }) in
    record {
      circuit = c.step.ensures.circuit ∙ inv.circuit;
      cost = c.step.ensures.cost ∙ inv.cost;
      going = run_goes_on (g.P.Plays.circuit p) (g.P.Plays.cost p) c.args.script.now.acts (g.P.Plays.spent c.args.costs.now)
          (g.P.Plays.counted old) (g.P.Plays.counted new) (g.P.Plays.note old) (g.P.Plays.spent c.loop-step.costs) (g.P.Plays.spent c.step.new.costs)
          (g.P.Plays.state old) (g.P.Plays.state new) c.in-Some.step (steps_left c.loop-step.step-iterator) (steps_left c.next.new.self) (g.P.Plays.noted new) inv.going left on;
      taken = taken_after (g.P.Plays.circuit p) c.in-Some.step (steps_left c.next.new.self) (subst (EachTaken (g.P.Plays.circuit p)) left inv.taken);
      ahead = omega (arith, inv.ahead, ap length left, c.step.ensures.ahead);
      shown = c.step.ensures.shown ∙ ap (λ (D : Circuit g.P.Plays.Key). view D (g.P.Plays.state new)) inv.circuit;
    }

pub returns-clause-done : goal.returns-clause-done
returns-clause-done g c =
    let p = c.args.player.now in
    let none : steps_left c.loop-step.step-iterator ≡ [] = c.in-None.ensures.steps.0 in
    run_ends (g.P.Plays.circuit p) (g.P.Plays.cost p) c.args.script.now.acts (g.P.Plays.spent c.args.costs.now) (g.P.Plays.counted c.loop-step.player) (g.P.Plays.spent c.loop-step.costs) (g.P.Plays.state c.loop-step.player)
    (steps_left c.loop-step.step-iterator) c.loop-step.invariant.going none
