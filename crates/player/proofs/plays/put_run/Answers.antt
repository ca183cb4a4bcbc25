use Rattle.std.proofs.Common.{◌≡◌, ℕ, List, ◌∷◌, [], length, refl, sym, ap, subst, ◌∙◌, arith}
use Rattle.circuit.specs.Circuit.{Circuit, view}
use Rattle.circuit.specs.Shows.{steps_of}
use Rattle.circuit.specs.Taken.{EachTaken}
use Rattle.circuit.proofs.Runs.{taken-steps_of}
use Rattle.script.specs.StepsLeft.{steps_left}
use Rattle.player.proofs.Going.{taken_after, on_err_holds, on_ok_then, on_err_then}
use Rattle.player.proofs.GraphRuns.{length-steps_of}
use Rattle.player.proofs.AnyRuns.{known_step, text_begins, text_goes_on, text_ends, text_stops_first, text_stops_at_start, text_stops_on, text_stops_last}
use Rattle.player.proofs.plays.put_run.Goals as goal

pub returns-in_err-put_all-clause-front : goal.returns-in_err-put_all-clause-front
returns-in_err-put_all-clause-front g c =
    let p = c.args.player.now in
    on_err_holds c.from_residual.result _
    (text_stops_first (g.P.Plays.circuit p) (g.P.Plays.cost p) (g.P.Plays.note p) c.args.header.now c.args.script.now.acts (g.P.Plays.trailer p) (g.O.Sink.written c.args.out.now) (g.P.Plays.spent c.args.costs.now) (g.met.P.Plays.keys p) _ c.requires.taken c.in_err-put_all.ensures.front)

pub returns-in_err-put-clause-front : goal.returns-in_err-put-clause-front
returns-in_err-put-clause-front g c =
    let p = c.args.player.now in
    on_err_holds c.from_residual-in_err-put.result _
    (text_stops_at_start (g.P.Plays.circuit p) (g.P.Plays.cost p) (g.P.Plays.note p) c.args.header.now c.args.script.now.acts (g.P.Plays.trailer p) (g.O.Sink.written c.args.out.now) (g.P.Plays.spent c.args.costs.now) (g.met.P.Plays.keys p)
    (g.O.Sink.written c.put_all.new.sink) (g.O.Sink.written c.put.new.out) (g.P.Plays.state p) c.time.result c.args.shown.now c.requires.taken c.requires.start c.time.ensures c.requires.shown c.in_ok-put_all.ensures.all c.in_err-put.ensures.front)

pub loop-step-init : goal.loop-step-init
loop-step-init g c =
    let p = c.args.player.now in
    let acts = c.args.script.now.acts in
    let left : steps_left c.into_iter-step-iterator.result ≡ steps_of acts = cc in
    record {
      circuit = refl;
      cost = refl;
      note = refl;
      trailer = refl;
      going = text_begins (g.P.Plays.circuit p) (g.P.Plays.cost p) (g.P.Plays.note p) c.args.header.now c.args.script.now.acts (g.P.Plays.trailer p) (g.O.Sink.written c.args.out.now) (g.P.Plays.spent c.args.costs.now)
          (g.P.Plays.counted p) (g.O.Sink.written c.put_all.new.sink) (g.O.Sink.written c.put.new.out) (g.P.Plays.state p) (steps_left c.into_iter-step-iterator.result) c.time.result c.args.shown.now
          c.requires.none c.requires.start left c.time.ensures c.requires.shown c.in_ok-put_all.ensures.all c.in_ok-put.ensures.all;
      taken = subst (EachTaken (g.P.Plays.circuit p)) (sym left) (taken-steps_of (g.P.Plays.circuit p) acts c.requires.taken);
      later = omega (arith, c.in_ok-put_all.ensures.cause.later, c.in_ok-put.ensures.cause.later);
      ahead = omega (arith, ap length left, length-steps_of acts, c.steps-step-items.ensures.short.few_acts, c.steps-step-items.ensures.short.few_ticks, c.requires.ahead);
      shown = c.in_ok-put.ensures.same ∙ c.requires.shown;
      room = c.requires.room;
    }

pub loop-step-preserved : goal.loop-step-preserved
loop-step-preserved g c =
    let p = c.args.player.now in
    let old = c.loop-step.player in
    let new = c.step.new.self in
    let left : steps_left c.loop-step.step-iterator ≡ c.in-Some.step ∷ steps_left c.next.new.self = c.in-Some.ensures.steps in
    let inv = c.loop-step.invariant in
    let seen = c.step.ensures.shown ∙ ap (λ (D : Circuit g.P.Plays.Key). view D (g.P.Plays.state new)) inv.circuit in
    let on = known_step (record { circuit = inv.circuit; costs = inv.cost; notes = inv.note; steps = c.step.ensures.step }) in
    record {
      circuit = c.step.ensures.circuit ∙ inv.circuit;
      cost = c.step.ensures.cost ∙ inv.cost;
      note = c.step.ensures.note ∙ inv.note;
      trailer = c.step.ensures.trailer ∙ inv.trailer;
      going = text_goes_on (g.P.Plays.circuit p) (g.P.Plays.cost p) (g.P.Plays.note p) c.args.header.now c.args.script.now.acts (g.P.Plays.trailer p) (g.O.Sink.written c.args.out.now) (g.P.Plays.spent c.args.costs.now)
          (g.P.Plays.counted old) (g.P.Plays.counted new) (g.O.Sink.written c.loop-step.out) (g.O.Sink.written c.put_step.new.out) (g.P.Plays.spent c.loop-step.costs) (g.P.Plays.spent c.step.new.costs)
          (g.P.Plays.state old) (g.P.Plays.state new) c.in-Some.step (steps_left c.loop-step.step-iterator) (steps_left c.next.new.self) (g.P.Plays.noted new) c.step.new.shown
          inv.going left on c.step.ensures.time seen (c.in_ok-put_step.ensures.all (g.P.Plays.state old).time);
      taken = taken_after (g.P.Plays.circuit p) c.in-Some.step (steps_left c.next.new.self) (subst (EachTaken (g.P.Plays.circuit p)) left inv.taken);
      later = omega (arith, inv.later, c.in_ok-put_step.ensures.cause.later);
      ahead = omega (arith, inv.ahead, ap length left, c.step.ensures.ahead);
      shown = c.in_ok-put_step.ensures.same ∙ seen;
      room = omega (arith, inv.room, c.in_ok-put_step.ensures.room);
    }

pub returns-in_err-put_step-clause-front : goal.returns-in_err-put_step-clause-front
returns-in_err-put_step-clause-front g c =
    let p = c.args.player.now in
    let old = c.loop-step.player in
    let new = c.step.new.self in
    let left : steps_left c.loop-step.step-iterator ≡ c.in-Some.step ∷ steps_left c.next.new.self = c.in-Some.ensures.steps in
    let inv = c.loop-step.invariant in
    let seen = c.step.ensures.shown ∙ ap (λ (D : Circuit g.P.Plays.Key). view D (g.P.Plays.state new)) inv.circuit in
    let on = known_step (record { circuit = inv.circuit; costs = inv.cost; notes = inv.note; steps = c.step.ensures.step }) in
    on_err_holds c.from_residual-in_err-put_step.result _
    (text_stops_on (g.P.Plays.circuit p) (g.P.Plays.cost p) (g.P.Plays.note p) c.args.header.now c.args.script.now.acts (g.P.Plays.trailer p) (g.O.Sink.written c.args.out.now) (g.P.Plays.spent c.args.costs.now) (g.met.P.Plays.keys p)
    (g.P.Plays.counted old) (g.P.Plays.counted new) (g.O.Sink.written c.loop-step.out) (g.O.Sink.written c.put_step.new.out) (g.P.Plays.spent c.loop-step.costs) (g.P.Plays.spent c.step.new.costs)
    (g.P.Plays.state old) (g.P.Plays.state new) c.in-Some.step (steps_left c.loop-step.step-iterator) (steps_left c.next.new.self) (g.P.Plays.noted new) c.step.new.shown
    inv.going left on c.step.ensures.time seen
    (taken_after (g.P.Plays.circuit p) c.in-Some.step (steps_left c.next.new.self) (subst (EachTaken (g.P.Plays.circuit p)) left inv.taken)) (c.in_err-put_step.ensures.front (g.P.Plays.state old).time))

pub returns-clause-done : goal.returns-clause-done
returns-clause-done g c =
    let p = c.args.player.now in
    let none : steps_left c.loop-step.step-iterator ≡ [] = c.in-None.ensures.steps.0 in
    let inv = c.loop-step.invariant in
    on_ok_then c.put_trailer.result _ _
    (text_ends (g.P.Plays.circuit p) (g.P.Plays.cost p) (g.P.Plays.note p) c.args.header.now c.args.script.now.acts (g.P.Plays.trailer p) (g.O.Sink.written c.args.out.now) (g.P.Plays.spent c.args.costs.now)
    (g.P.Plays.counted c.loop-step.player) (g.O.Sink.written c.loop-step.out) (g.O.Sink.written c.put_trailer.new.out) (g.P.Plays.spent c.loop-step.costs) (g.P.Plays.state c.loop-step.player) (steps_left c.loop-step.step-iterator) _ inv.going none
    (λ count right. c.counts.ensures count right ∙ ap (λ (f : ℕ → List ℕ). f count) inv.trailer))
    c.put_trailer.ensures.all

pub returns-clause-front : goal.returns-clause-front
returns-clause-front g c =
    let p = c.args.player.now in
    let none : steps_left c.loop-step.step-iterator ≡ [] = c.in-None.ensures.steps.0 in
    let inv = c.loop-step.invariant in
    on_err_then c.put_trailer.result _ _
    (text_stops_last (g.P.Plays.circuit p) (g.P.Plays.cost p) (g.P.Plays.note p) c.args.header.now c.args.script.now.acts (g.P.Plays.trailer p) (g.O.Sink.written c.args.out.now) (g.P.Plays.spent c.args.costs.now)
    (g.P.Plays.counted c.loop-step.player) (g.O.Sink.written c.loop-step.out) (g.O.Sink.written c.put_trailer.new.out) (g.P.Plays.spent c.loop-step.costs) (g.P.Plays.state c.loop-step.player) (steps_left c.loop-step.step-iterator) _ inv.going none
    (λ count right. c.counts.ensures count right ∙ ap (λ (f : ℕ → List ℕ). f count) inv.trailer))
    c.put_trailer.ensures.front
