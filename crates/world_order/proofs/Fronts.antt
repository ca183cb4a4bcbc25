-- What is written of a run goes on by a line: of a click's view, of a firing, of a tick's view. At the end it is the text of an order.
use Rattle.std.proofs.Common.{◌≡◌, ℕ, ◌+◌, List, [], ◌∷◌, ◌++◌, length, refl, sym, ◌∙◌, ap, subst, arith, suc, zero}
use Rattle.std.specs.List.{flat_map}
use Rattle.std.proofs.lemmas.Grind.{flat_map-append}
use Rattle.std.proofs.lemmas.List.{append_assoc, append-nil}
use Rattle.std.proofs.lemmas.List.Sums.{sum_by-cons}
use Rattle.circuit.specs.declared.Act.{Act}
use Rattle.circuit.specs.declared.Act.TheVariants.{Click as ClickAct, Ticks as TicksAct}
use Rattle.circuit.specs.declared.Click.{Click}
use Rattle.circuit.specs.declared.Pos.{Pos}
use Rattle.circuit.specs.declared.Step.{Step}
use Rattle.circuit.specs.declared.Step.TheVariants.{Click as ClickAt, Tick as OneTick}
use Rattle.circuit.specs.Circuit.{Circuit, State, Clicks, IsFiringList, later, fire_all, start, view}
use Rattle.circuit.specs.Shows.{Run, Ended, Clicked, Ticked, ticks, steps_of}
use Rattle.circuit.proofs.Runs.{run_then}
use Rattle.build.specs.Plan.{Plan}
use Rattle.build.specs.Outputs.{outputs}
use Rattle.power_rules.specs.World.{world_circuit}
use Rattle.report.specs.declared.Cause.TheVariants.{Start, Tick}
use Rattle.report.specs.FireLine.{fire_line}
use Rattle.report.specs.Header.{header}
use Rattle.report.specs.Trailers.{world_trailer}
use Rattle.report.specs.ViewLine.{view_line, cause_of}
use Rattle.script.specs.Acts.{Meaning, ticks_of, ticks_in}
use Rattle.world_order.specs.Begun.{IsNext}
use Rattle.world_order.specs.OrderText.{steps_text, run_lines, order_text, IsCounts, IsOrder}
use Rattle.world_order.specs.BadLine.{HasRun, InTick}
use Rattle.world_order.proofs.Begun.{begins_more}
use Rattle.world_order.proofs.Following.{time-fire_all}

-- the text of more steps is that of these, and then that of those
text_more : (b : Plan) (marks : List Pos) {s mid : State Pos} {done : List Step} {order : List (List Pos)} {views : List (List ℕ)} → Run (world_circuit b marks) s done order views mid →
    (more : List Step) (order2 : List (List Pos)) (views2 : List (List ℕ)) →
    steps_text s.time (done ++ more) (order ++ order2) (views ++ views2) ≡ steps_text s.time done order views ++ steps_text mid.time more order2 views2
text_more b marks Ended more order2 views2 = refl
text_more b marks {s} {mid} (Clicked {next} {click} {steps = done} {order} {views} hit run) more order2 views2 =
    let time : next.time ≡ s.time = ap (λ (x : State Pos). x.time) hit.after in
    let line : List ℕ = view_line s.time (cause_of click) (view (world_circuit b marks) next) in
    let r = text_more b marks run more order2 views2 in
    let q : steps_text s.time (done ++ more) (order ++ order2) (views ++ views2) ≡ steps_text s.time done order views ++ steps_text mid.time more order2 views2 =
    subst (λ n. steps_text n (done ++ more) (order ++ order2) (views ++ views2) ≡ steps_text n done order views ++ steps_text mid.time more order2 views2) time r in
    ap (λ x. line ++ x) q ∙ sym (append_assoc line (steps_text s.time done order views) (steps_text mid.time more order2 views2))
text_more b marks {s} {mid} (Ticked {next} {fires} {steps = done} {order} {views} tick run) more order2 views2 =
    let time : next.time ≡ s.time + 1 = ap (λ (x : State Pos). x.time) tick.after ∙ time-fire_all (world_circuit b marks) (later s) fires in
    let line : List ℕ = view_line (s.time + 1) Tick (view (world_circuit b marks) next) in
    let S : List ℕ = steps_text (s.time + 1) done order views in
    let M : List ℕ = steps_text mid.time more order2 views2 in
    let r = text_more b marks run more order2 views2 in
    let q : steps_text (s.time + 1) (done ++ more) (order ++ order2) (views ++ views2) ≡ S ++ M =
    subst (λ n. steps_text n (done ++ more) (order ++ order2) (views ++ views2) ≡ steps_text n done order views ++ steps_text mid.time more order2 views2) time r in
    ap (λ x. flat_map fire_line fires ++ (line ++ x)) q ∙ ap (λ x. flat_map fire_line fires ++ x) (sym (append_assoc line S M)) ∙ sym (append_assoc (flat_map fire_line fires) (line ++ S) M)

-- one step more, with this text
step_with : (b : Plan) (script : Meaning) (done left : List Step) (step : Step) (mid next : State Pos) (front : List ℕ) (tick : ℕ) → (h : HasRun b script done (step ∷ left) mid front tick) →
    (order2 : List (List Pos)) → Run (world_circuit b script.marks) mid (step ∷ []) order2 (view (world_circuit b script.marks) next ∷ []) next →
    (text : List ℕ) → text ≡ steps_text mid.time (step ∷ []) order2 (view (world_circuit b script.marks) next ∷ []) → (now : ℕ) → now ≡ length (h.order ++ order2) →
    (r : HasRun b script (done ++ (step ∷ [])) left next (front ++ text) now) × (r.order ≡ h.order ++ order2)
step_with b script done left step mid next front tick h order2 run text e now count =
    let C = world_circuit b script.marks in
    let shown : List ℕ = view C next in
    let head : List ℕ = header (outputs b script.marks) in
    let line : List ℕ = view_line 0 Start (view C (start C)) in
    let S : List ℕ = steps_text 0 done h.order h.views in
    let M : List ℕ = steps_text mid.time (step ∷ []) order2 (shown ∷ []) in (
      record {
        order = h.order ++ order2;
        views = h.views ++ (shown ∷ []);
        steps = h.steps ∙ sym (append_assoc done (step ∷ []) left);
        run = run_then h.run run;
        is = ap (λ x. x ++ text) h.is ∙ append_assoc head (line ++ S) text ∙ ap (λ x. head ++ x) (append_assoc line S text) ∙ ap (λ x. head ++ (line ++ (S ++ x))) e
            ∙ ap (λ x. head ++ (line ++ x)) (sym (text_more b script.marks h.run (step ∷ []) order2 (shown ∷ [])));
        count = count;
      },
      refl,
    )

-- the step of a click, whose firing lists are those before
pub click_with : (b : Plan) (script : Meaning) (done left : List Step) (place : Pos) (click : Click) (mid next : State Pos) (front : List ℕ) (tick : ℕ) →
    (h : HasRun b script done (ClickAt place click ∷ left) mid front tick) → Clicks (world_circuit b script.marks) place click mid next →
    (r : HasRun b script (done ++ (ClickAt place click ∷ [])) left next (front ++ view_line next.time (cause_of click) (view (world_circuit b script.marks) next)) tick) × (r.order ≡ h.order ++ [])
click_with b script done left place click mid next front tick h hit =
    let C = world_circuit b script.marks in
    let line : ℕ → List ℕ = λ n. view_line n (cause_of click) (view C next) in
    let time : next.time ≡ mid.time = ap (λ (x : State Pos). x.time) hit.after in
    step_with b script done left (ClickAt place click) mid next front tick h [] (Clicked hit Ended) (line next.time) (ap line time ∙ sym (append-nil (line mid.time))) tick
    (h.count ∙ ap length (sym (append-nil h.order)))

pub click_on : (b : Plan) (script : Meaning) (done left : List Step) (place : Pos) (click : Click) (mid next : State Pos) (front : List ℕ) (tick : ℕ) →
    HasRun b script done (ClickAt place click ∷ left) mid front tick → Clicks (world_circuit b script.marks) place click mid next →
    HasRun b script (done ++ (ClickAt place click ∷ [])) left next (front ++ view_line next.time (cause_of click) (view (world_circuit b script.marks) next)) tick
click_on b script done left place click mid next front tick h hit = (click_with b script done left place click mid next front tick h hit).0

length_one : (xs : List (List Pos)) (x : List Pos) → length (xs ++ (x ∷ [])) ≡ length xs + 1
length_one [] x = refl
length_one (y ∷ xs) x = let r : length (xs ++ (x ∷ [])) ≡ length xs + 1 = length_one xs x in omega arith

-- that of a tick, with one list more
pub tick_with : (b : Plan) (script : Meaning) (done left : List Step) (mid : State Pos) (fired : List Pos) (before : List ℕ) (tick : ℕ) →
    (h : HasRun b script done (OneTick ∷ left) mid before tick) → IsFiringList (world_circuit b script.marks) (later mid) fired →
    (r : HasRun b script (done ++ (OneTick ∷ [])) left (fire_all (world_circuit b script.marks) (later mid) fired)
    (before ++ (flat_map fire_line fired ++ view_line (mid.time + 1) Tick (view (world_circuit b script.marks) (fire_all (world_circuit b script.marks) (later mid) fired)))) (tick + 1))
    × (r.order ≡ h.order ++ (fired ∷ []))
tick_with b script done left mid fired before tick h f =
    let C = world_circuit b script.marks in
    let next : State Pos = fire_all C (later mid) fired in
    let line : List ℕ = view_line (mid.time + 1) Tick (view C next) in
    step_with b script done left OneTick mid next before tick h (fired ∷ []) (Ticked (record { order = f; after = refl }) Ended) (flat_map fire_line fired ++ line)
    (ap (λ x. flat_map fire_line fired ++ x) (sym (append-nil line))) (tick + 1) (ap (λ n. n + 1) h.count ∙ sym (length_one h.order fired))

pub tick_on : (b : Plan) (script : Meaning) (done left : List Step) (mid : State Pos) (fired : List Pos) (before : List ℕ) (tick : ℕ) →
    HasRun b script done (OneTick ∷ left) mid before tick → IsFiringList (world_circuit b script.marks) (later mid) fired →
    HasRun b script (done ++ (OneTick ∷ [])) left (fire_all (world_circuit b script.marks) (later mid) fired)
    (before ++ (flat_map fire_line fired ++ view_line (mid.time + 1) Tick (view (world_circuit b script.marks) (fire_all (world_circuit b script.marks) (later mid) fired)))) (tick + 1)
tick_on b script done left mid fired before tick h f = (tick_with b script done left mid fired before tick h f).0

pub fire_on : (b : Plan) (script : Meaning) (front : List ℕ) (tick : ℕ) (s : State Pos) (fired : List Pos) (key : Pos) →
    InTick b script front tick s fired → IsNext (world_circuit b script.marks) (fire_all (world_circuit b script.marks) s fired) key →
    InTick b script (front ++ fire_line key) tick s (fired ++ (key ∷ []))
fire_on b script front tick s fired key t next = record {
  done = t.done;
  left = t.left;
  mid = t.mid;
  before = t.before;
  ran = t.ran;
  began = t.began;
  begins = begins_more (world_circuit b script.marks) s fired key t.begins next;
  is = ap (λ x. x ++ fire_line key) t.is ∙ append_assoc t.before (flat_map fire_line fired) (fire_line key)
      ∙ ap (λ x. t.before ++ x) (ap (λ x. flat_map fire_line fired ++ x) (sym (append-nil (fire_line key))) ∙ sym (flat_map-append fire_line fired (key ∷ [])));
}

pub order_of : (b : Plan) (script : Meaning) (last : State Pos) (before : List ℕ) (tick : ℕ) → (h : HasRun b script (steps_of script.acts) [] last before tick) →
    (counts : List ℕ) → IsCounts counts → (text : List ℕ) → text ≡ before ++ (counts ++ world_trailer) → IsOrder b script text h.order
unfolding order_text
order_of b script last before tick h counts c text e =
    let C = world_circuit b script.marks in
    record {
      views = view C (start C) ∷ h.views;
      counts = counts;
      counted = c;
      is = e ∙ ap (λ x. x ++ (counts ++ world_trailer)) h.is
          ∙ append_assoc (header (outputs b script.marks)) (run_lines (steps_of script.acts) h.order (view C (start C) ∷ h.views)) (counts ++ world_trailer);
      plays = (last, record { rest = h.views; at_start = refl; run = h.run });
    }

-- ---- the number of ticks

ticks_left : List Step → ℕ
ticks_left [] = 0
ticks_left (ClickAt place click ∷ steps) = ticks_left steps
ticks_left (OneTick ∷ steps) = suc (ticks_left steps)

lists_of_run : {K : Type 0} (C : Circuit K) {s last : State K} {steps : List Step} {order : List (List K)} {views : List (List ℕ)} → Run C s steps order views last → length order ≡ ticks_left steps
unfolding ticks_left
lists_of_run C Ended = refl
lists_of_run C (Clicked hit run) = lists_of_run C run
lists_of_run C (Ticked tick run) = ap suc (lists_of_run C run)

ticks_more : (n : ℕ) (steps : List Step) → ticks_left (ticks n steps) ≡ n + ticks_left steps
unfolding ticks_left
ticks_more zero steps = omega arith
ticks_more (suc n) steps = let r : ticks_left (ticks n steps) ≡ n + ticks_left steps = ticks_more n steps in omega arith

ticks_of_acts : (acts : List Act) → ticks_left (steps_of acts) ≡ ticks_in acts
unfolding ticks_left
ticks_of_acts [] = refl
ticks_of_acts (ClickAct place click ∷ acts) =
    let r : ticks_left (steps_of acts) ≡ ticks_in acts = ticks_of_acts acts in
    let s : ticks_in (ClickAct place click ∷ acts) ≡ 0 + ticks_in acts = sum_by-cons ticks_of (ClickAct place click) acts in
    let t : ticks_left (steps_of acts) ≡ ticks_in (ClickAct place click ∷ acts) = omega arith in
    t
ticks_of_acts (TicksAct n ∷ acts) = ticks_more n (steps_of acts) ∙ ap (λ m. n + m) (ticks_of_acts acts) ∙ sym (sum_by-cons ticks_of (TicksAct n) acts)

pub ticks_told : (b : Plan) (script : Meaning) (last : State Pos) (front : List ℕ) (tick : ℕ) → HasRun b script (steps_of script.acts) [] last front tick → tick ≡ ticks_in script.acts
ticks_told b script last front tick h = h.count ∙ lists_of_run (world_circuit b script.marks) h.run ∙ ticks_of_acts script.acts
