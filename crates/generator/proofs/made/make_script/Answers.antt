use Rattle.std.proofs.Common.{◌≡◌, ◌++◌, ◌∙◌, [], ◌∷◌, ap, sym, length, List, arith}
use Rattle.circuit.specs.declared.Act.{Act}
use Rattle.circuit.specs.declared.Act.TheVariants.{Ticks}
use Rattle.script.specs.Acts.{Meaning, ticks_in}
use Rattle.generator.specs.Made.{unit_acts, made_script, with_acts}
use Rattle.generator.proofs.Clicks.{clicks_on-more, length-clicks_on, ticks_in-clicks_on}
use Rattle.generator.proofs.made.make_script.Goals as goal

pub push_clicks-requires-clause-room : goal.push_clicks-requires-clause-room
push_clicks-requires-clause-room c = omega (arith, ap (λ (s : Meaning). length s.acts) c.loop-unit.invariant, length-clicks_on c.loop-unit.unit)

pub push_clicks-requires-clause-clicks : goal.push_clicks-requires-clause-clicks
push_clicks-requires-clause-clicks c = ap (λ (s : Meaning). ticks_in s.acts) c.loop-unit.invariant ∙ ticks_in-clicks_on c.loop-unit.unit

pub loop-unit-preserved : goal.loop-unit-preserved
loop-unit-preserved c =
    c.in_ok-push_clicks.ensures
    ∙ ap (λ (s : Meaning). with_acts s (unit_acts c.loop-unit.unit)) c.loop-unit.invariant
    ∙ ap (λ (acts : List Act). let s : Meaning = record { marks = []; acts = acts } in s) (sym (clicks_on-more c.loop-unit.unit))

pub push-requires-clause-few : goal.push-requires-clause-few
push-requires-clause-few c = omega (arith, ap (λ (s : Meaning). length s.acts) c.loop-unit.invariant, length-clicks_on c.loop-unit.unit)

pub push-requires-clause-ticks : goal.push-requires-clause-ticks
push-requires-clause-ticks c = omega (arith, ap (λ (s : Meaning). ticks_in s.acts) c.loop-unit.invariant, ticks_in-clicks_on c.loop-unit.unit)

pub returns : goal.returns
unfolding made_script
returns c =
    let last : c.loop-unit.unit ≡ c.args.n = omega arith in
    c.in_ok-push.ensures.ok
    ∙ ap (λ (s : Meaning). record s { acts = s.acts ++ Ticks 8 ∷ [] }) c.loop-unit.invariant
    ∙ ap made_script last
