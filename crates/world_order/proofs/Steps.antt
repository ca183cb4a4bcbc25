-- A run that is read step by step, from the header to the end.
use Rattle.std.proofs.Common.{◌≡◌, ℕ, ◌+◌, List, [], ◌∷◌, ◌++◌, take, drop, refl, sym, ◌∙◌, ap, subst, arith, inl, inr}
use Rattle.std.specs.Prelude.{codes}
use Rattle.std.specs.List.{flat_map}
use Rattle.std.proofs.lemmas.List.{append_assoc, append-nil}
use Rattle.circuit.specs.declared.Click.{Click}
use Rattle.circuit.specs.declared.Pos.{Pos}
use Rattle.circuit.specs.declared.Step.{Step}
use Rattle.circuit.specs.declared.Step.TheVariants.{Click as ClickAt, Tick as OneTick}
use Rattle.circuit.specs.Circuit.{State, later, fire_all, start, view}
use Rattle.circuit.specs.Shows.{Run, Ended, fires_in, steps_of}
use Rattle.build.specs.Plan.{Plan}
use Rattle.build.specs.Outputs.{outputs}
use Rattle.power_rules.specs.World.{world_circuit}
use Rattle.report.specs.declared.Cause.TheVariants.{Start, Tick}
use Rattle.report.specs.FireLine.{fire_line}
use Rattle.report.specs.Header.{header}
use Rattle.report.specs.Trailers.{world_trailer}
use Rattle.report.specs.ViewLine.{view_line, cause_of}
use Rattle.script.specs.Acts.{Meaning}
use Rattle.world_order.specs.declared.front.Bad.{Bad}
use Rattle.world_order.specs.declared.front.Front.{Front}
use Rattle.world_order.specs.BadLine.{Due, Line, Firing, Counted, End, Past, HasRun, AfterAll, Stands, begins_with, written}
use Rattle.world_order.specs.Reading.{IsBadAmong, IsBadClick, IsBadEnd, Broken, Other, Behind, More, IsBadFrom, IsBadStep, IsBadTick, IsNoLine, IsRead, IsReading, ReadsClick, ReadsEnd, ReadsOn, ReadsStep, ReadsTick, header_lines}
use Rattle.world_order.proofs.Fronts.{click_with, tick_with, order_of, ticks_told}
use Rattle.world_order.proofs.Headings.{header_joined}
use Rattle.world_order.proofs.Telling.{kind_of_line, kind_of_end, kind_of_counts, kind_of_broken, kind_of_more}

fires_more : (order more : List (List Pos)) → fires_in (order ++ more) ≡ fires_in order + fires_in more
fires_more [] more = omega arith
fires_more (fires ∷ order) more = let r : fires_in (order ++ more) ≡ fires_in order + fires_in more = fires_more order more in omega arith

-- ---- a step

-- the same run, told of an equal front and number of ticks
read_as : (b : Plan) (script : Meaning) (done left : List Step) (mid : State Pos) (front other : List ℕ) (tick now : ℕ) → (h : HasRun b script done left mid front tick) → front ≡ other → tick ≡ now →
    (r : HasRun b script done left mid other now) × (r.order ≡ h.order)
read_as b script done left mid front other tick now h e f =
    (record { order = h.order; views = h.views; steps = h.steps; run = h.run; is = sym e ∙ h.is; count = sym f ∙ h.count }, refl)

click_read : (b : Plan) (script : Meaning) (text : List ℕ) (old new : State Pos) (place : Pos) (click : Click) (left : List Step) (from to : Front) → IsReading b script text old (ClickAt place click ∷ left) from →
    ReadsClick (world_circuit b script.marks) place click old new text from to → IsReading b script text new left to
click_read b script text old new place click left from to h r =
    let n = click_with b script h.done left place click old new (take from.at text) from.tick h.ran r.clicks in
    let tick : from.tick ≡ to.tick = omega (arith, r.reads.tick) in
    let all = read_as b script (h.done ++ (ClickAt place click ∷ [])) left new (take from.at text ++ view_line new.time (cause_of click) (view (world_circuit b script.marks) new)) (take to.at text) from.tick to.tick n.0
    (sym r.reads.front) tick in
    record {
      done = h.done ++ (ClickAt place click ∷ []);
      ran = all.0;
      fires = omega (arith, r.reads.fire, h.fires, ap fires_in (all.1 ∙ n.1), fires_more h.ran.order []);
    }

tick_read : (b : Plan) (script : Meaning) (text : List ℕ) (old new : State Pos) (left : List Step) (from to : Front) → IsReading b script text old (OneTick ∷ left) from →
    ReadsTick (world_circuit b script.marks) old new text from to → IsReading b script text new left to
tick_read b script text old new left from to h r =
    let C = world_circuit b script.marks in
    let after : State Pos = fire_all C (later old) r.fired in
    let n = tick_with b script h.done left old r.fired (take from.at text) from.tick h.ran r.list in
    let tick : from.tick + 1 ≡ to.tick = omega (arith, r.reads.tick) in
    let line : State Pos → List ℕ = λ t. take from.at text ++ (flat_map fire_line r.fired ++ view_line (old.time + 1) Tick (view C t)) in
    let all = read_as b script (h.done ++ (OneTick ∷ [])) left after (line after) (take to.at text) (from.tick + 1) to.tick n.0 (ap line (sym r.after) ∙ sym r.reads.front) tick in
    state_as b script text after new left to (record {
      done = h.done ++ (OneTick ∷ []);
      ran = all.0;
      fires = omega (arith, r.reads.fire, h.fires, ap fires_in (all.1 ∙ n.1), fires_more h.ran.order (r.fired ∷ []));
    }) (sym r.after)
  where
    state_as : (b : Plan) (script : Meaning) (text : List ℕ) (s t : State Pos) (left : List Step) (to : Front) → IsReading b script text s left to → s ≡ t → IsReading b script text t left to
    state_as b script text s t left to i e = subst (λ (u : State Pos). IsReading b script text u left to) e i

pub step_read : (b : Plan) (script : Meaning) (text : List ℕ) (old new : State Pos) (step : Step) (left : List Step) (from to : Front) → IsReading b script text old (step ∷ left) from →
    ReadsStep (world_circuit b script.marks) step old new text from to → IsReading b script text new left to
step_read b script text old new (ClickAt place click) left from to h r = click_read b script text old new place click left from to h r
step_read b script text old new OneTick left from to h r = tick_read b script text old new left from to h r

-- ---- what is wrong in a step

-- what stands at one front stands at an equal one
stand_at : (b : Plan) (script : Meaning) (due : Due) (front other : List ℕ) (tick now : ℕ) → front ≡ other → tick ≡ now → Stands b script front tick due → Stands b script other now due
stand_at b script due front other tick now e f s = subst (λ (n : ℕ). Stands b script other n due) f (subst (λ (t : List ℕ). Stands b script t tick due) e s)

click_bad : (b : Plan) (script : Meaning) (text : List ℕ) (old : State Pos) (place : Pos) (click : Click) (left : List Step) (from : Front) (bad : Bad) → IsReading b script text old (ClickAt place click ∷ left) from →
    IsBadClick (world_circuit b script.marks) place click old text from bad → IsBadFrom b script text bad
click_bad b script text old place click left from bad h r =
    let line : List ℕ = view_line r.next.time (cause_of click) (view (world_circuit b script.marks) r.next) in
    record {
      due = Line line;
      stands = stand_at b script (Line line) (take from.at text) (take bad.at text) from.tick bad.tick (ap (λ n. take n text) (sym r.is.here.at)) (sym r.is.here.tick)
          (inr (record { done = h.done; left = left; place = place; click = click; mid = old; next = r.next; ran = h.ran; clicks = r.clicks; shows = refl }));
      is = kind_of_line b script.marks line (drop bad.at text) bad.kind r.is.is;
      within = r.is.here.within;
    }

tick_bad : (b : Plan) (script : Meaning) (text : List ℕ) (old : State Pos) (left : List Step) (from : Front) (bad : Bad) → IsReading b script text old (OneTick ∷ left) from →
    IsBadTick b script.marks (later old) text from bad → IsBadFrom b script text bad
tick_bad b script text old left from bad h r = record {
  due = Firing (later old) r.fired;
  stands = stand_at b script (Firing (later old) r.fired) (take bad.at text) (take bad.at text) from.tick bad.tick refl (sym r.tick)
      (record { done = h.done; left = left; mid = old; before = take from.at text; ran = h.ran; began = refl; begins = r.begins; is = r.front });
  is = r.is;
  within = r.within;
}

pub step_bad : (b : Plan) (script : Meaning) (text : List ℕ) (old : State Pos) (step : Step) (left : List Step) (from : Front) (bad : Bad) → IsReading b script text old (step ∷ left) from →
    IsBadStep b script.marks step old text from bad → IsBadFrom b script text bad
step_bad b script text old (ClickAt place click) left from bad h r = click_bad b script text old place click left from bad h r
step_bad b script text old OneTick left from bad h r = tick_bad b script text old left from bad h r

-- ---- the heading

abbrev pub zero_front : Front
zero_front = record { at = 0; tick = 0; fires = 0 }

abbrev pub first_line : Plan → List Pos → List ℕ
first_line b marks = view_line 0 Start (view (world_circuit b marks) (start (world_circuit b marks)))

pub start_read : (b : Plan) (script : Meaning) (text : List ℕ) (mid to : Front) → ReadsOn text zero_front mid (header (outputs b script.marks)) 0 0 → ReadsOn text mid to (first_line b script.marks) 0 0 →
    IsReading b script text (start (world_circuit b script.marks)) (steps_of script.acts) to
start_read b script text mid to head line =
    let os = outputs b script.marks in
    record {
      done = [];
      ran = record {
        order = [];
        views = [];
        steps = refl;
        run = Ended;
        is = line.front ∙ ap (λ x. x ++ first_line b script.marks) head.front ∙ ap (λ x. header os ++ x) (sym (append-nil (first_line b script.marks)));
        count = omega (arith, head.tick, line.tick);
      };
      fires = omega (arith, head.fire, line.fire);
    }

pub header_wrong : (b : Plan) (script : Meaning) (text : List ℕ) (bad : Bad) → IsBadAmong (header_lines (outputs b script.marks)) text bad → IsBadFrom b script text bad
header_wrong b script text bad h = record {
  due = Line h.line;
  stands = inl (record {
    before = h.before;
    after = h.after ++ (first_line b script.marks ∷ []);
    lines = ap (λ x. x ++ (first_line b script.marks ∷ [])) h.lines_are ∙ append_assoc h.before (h.line ∷ h.after) (first_line b script.marks ∷ []);
    is = h.front;
    none = h.none;
  });
  is = kind_of_line b script.marks h.line (drop bad.at text) bad.kind h.is;
  within = h.within;
}

pub first_wrong : (b : Plan) (script : Meaning) (text : List ℕ) (mid : Front) (bad : Bad) → ReadsOn text zero_front mid (header (outputs b script.marks)) 0 0 → IsNoLine text mid (first_line b script.marks) bad →
    IsBadFrom b script text bad
first_wrong b script text mid bad head n = record {
  due = Line (first_line b script.marks);
  stands = inl (record {
    before = header_lines (outputs b script.marks);
    after = [];
    lines = refl;
    is = ap (λ n. take n text) n.here.at ∙ head.front ∙ header_joined (outputs b script.marks);
    none = omega (arith, n.here.tick, head.tick);
  });
  is = kind_of_line b script.marks (first_line b script.marks) (drop bad.at text) bad.kind n.is;
  within = n.here.within;
}

-- ---- the end

all_done : (b : Plan) (script : Meaning) (done : List Step) (mid : State Pos) (front : List ℕ) (tick : ℕ) → (h : HasRun b script done [] mid front tick) →
    (r : HasRun b script (steps_of script.acts) [] mid front tick) × (r.order ≡ h.order)
all_done b script done mid front tick h =
    let same : done ≡ steps_of script.acts = sym (h.steps ∙ append-nil done) in (
      record {
        order = h.order;
        views = h.views;
        steps = sym (append-nil (steps_of script.acts));
        run = subst (λ (steps : List Step). Run (world_circuit b script.marks) (start (world_circuit b script.marks)) steps h.order h.views mid) same h.run;
        is = h.is ∙ ap (λ (steps : List Step). written b script.marks steps h.order h.views) same;
        count = h.count;
      },
      refl,
    )

pub end_read : (b : Plan) (script : Meaning) (text : List ℕ) (last : State Pos) (from to : Front) → IsReading b script text last [] from → ReadsEnd text from → to.tick ≡ from.tick → to.fires ≡ from.fires →
    IsRead b script text to
end_read b script text last from to h r tick fires =
    let all = all_done b script h.done last (take from.at text) from.tick h.ran in
    record {
      order = all.0.order;
      is = order_of b script last (take from.at text) from.tick all.0 r.counts r.counted text r.is;
      ticks = tick ∙ ticks_told b script last (take from.at text) from.tick all.0;
      fires = fires ∙ h.fires ∙ ap fires_in (sym all.1);
    }

pub end_bad : (b : Plan) (script : Meaning) (text : List ℕ) (last : State Pos) (from : Front) (bad : Bad) → IsReading b script text last [] from → IsBadEnd text from bad → IsBadFrom b script text bad
end_bad b script text last from bad h e = go e
  where
    ran : HasRun b script (steps_of script.acts) [] last (take from.at text) from.tick
    ran = (all_done b script h.done last (take from.at text) from.tick h.ran).0

    -- the run and what was read behind it
    behind : (more : List ℕ) → take bad.at text ≡ take from.at text ++ more → bad.tick ≡ from.tick → AfterAll b script (take bad.at text) bad.tick more
    behind more front tick = subst (λ (n : ℕ). AfterAll b script (take bad.at text) n more) (sym tick) (record { mid = last; before = take from.at text; ran = ran; is = front })

    same : bad.at ≡ from.at → take bad.at text ≡ take from.at text ++ []
    same at = ap (λ n. take n text) at ∙ sym (append-nil (take from.at text))

    go : IsBadEnd text from bad → IsBadFrom b script text bad
    go (Broken here kind is) = record {
      due = Counted;
      stands = behind [] (same here.at) here.tick;
      is = kind_of_broken b script.marks (drop bad.at text) bad.kind kind is;
      within = here.within;
    }
    go (Other none n) = record {
      due = Counted;
      stands = behind [] (same n.here.at) n.here.tick;
      is = kind_of_counts b script.marks (drop bad.at text) bad.kind (ap (λ k. begins_with (codes "nodes ") (drop k text)) n.here.at ∙ none) n.is;
      within = n.here.within;
    }
    go (Behind counts counted some front within tick is) = record {
      due = End;
      stands = (counts, counted, some, behind counts front tick);
      is = kind_of_end b script.marks (drop bad.at text) bad.kind is;
      within = within;
    }
    go (More counts counted front within tick kind some) = record {
      due = Past;
      stands = (counts, counted, behind (counts ++ world_trailer) front tick);
      is = kind_of_more b script.marks (drop bad.at text) bad.kind kind some;
      within = within;
    }
