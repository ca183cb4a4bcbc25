-- What is left of a circuit plays in the order of the old one, into which what is gone is put.
use Rattle.std.proofs.Common.{ℕ, Bool, List, [], ◌∷◌, refl, sym, ap, ◌∙◌, subst}
use Rattle.circuit.specs.declared.Step.{Step}
use Rattle.circuit.specs.Circuit.{Circuit, State, later, start}
use Rattle.circuit.specs.Shows.{Run, Ended, Clicked, Ticked}
use Rattle.circuit.specs.PutLast.{with_due, PutsDue, RefinesWith}
use Rattle.circuit.specs.Keys.{IsTest}
use Rattle.circuit.proofs.LeftLaw.{Left, Agree, Twins, attend_twins, view_twins, click_twins, tick_twins}

-- a run of these views with these firing lists put in
abbrev Putting : {K : Type 0} → Circuit K → List K → State K → List Step → List (List K) → List (List ℕ) → State K → List (List K) → Type 0
Putting C more s steps whole views last order = (run : Run C s steps whole views last) × PutsDue C more run order

run_put : {K : Type 0} {gone : K → Bool} {old new : Circuit K} (left : Left gone old new) → IsTest old.same → {s2 last : State K} {steps : List Step} {order : List (List K)} {views : List (List ℕ)} →
    Run new s2 steps order views last → (s1 : State K) → Twins gone old s2 s1 →
    (whole : List (List K)) × (end : State K) × Putting old left.keys s1 steps whole views end order × Twins gone old last end
run_put left test Ended s1 t = ([], s1, (Ended, tt), t)
run_put {old} left test {s2} {steps} {order} (Clicked {next = t2} {pos} {click} {steps = more} {views = views} hit run) s1 t =
    let a = click_twins left pos click s2 s1 t2 t hit in
    let r = run_put left test run a.0 a.2 in (
      r.0,
      r.1,
      subst (λ v. Putting old left.keys s1 steps r.0 (v ∷ views) r.1 order) (sym (view_twins left t2 a.0 a.2)) (Clicked a.1 r.2.0, r.2.1),
      r.3,
    )
run_put {old} left test {s2} {steps} (Ticked {next = t2} {fires} {order = order} {views = views} tick run) s1 t =
    let a = tick_twins left test fires s2 s1 t2 t tick in
    let r = run_put left test run a.0 a.2 in (
      with_due left.keys old (later s1) fires ∷ r.0,
      r.1,
      subst (λ v. Putting old left.keys s1 steps (with_due left.keys old (later s1) fires ∷ r.0) (v ∷ views) r.1 (fires ∷ order)) (sym (view_twins left t2 a.0 a.2)) (Ticked a.1 r.2.0, (refl, r.2.1)),
      r.3,
    )

-- Each run of what is left is one of the old circuit, in whose firing lists the keys that go and are due stand last within their priority.
pub left_refines_with : {K : Type 0} {gone : K → Bool} {old new : Circuit K} (left : Left gone old new) → IsTest old.same → RefinesWith old new left.keys (Agree gone)
left_refines_with {K} {gone} {old} {new} left test = record {
  plays = λ acts order views last p.
      let begin : Twins gone old (start new) (start old) =
      attend_twins left (record { time = 0; cells = new.begin }) (record { time = 0; cells = old.begin }) (record { time = refl; cells = left.begin }) in
      let r = run_put left test p.run (start old) begin in
      (r.0, r.1, record { rest = p.rest; at_start = p.at_start ∙ ap (λ v. v ∷ p.rest) (view_twins left (start new) (start old) begin); run = r.2.0 }, r.2.1, r.3.agree);
}
