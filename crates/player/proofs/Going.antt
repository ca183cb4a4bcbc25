-- How the writing of a run goes on, for any circuit, its outputs and acts, what is noted of its firings, and a trailer that may tell the number of events.
use Rattle.std.proofs.Common.{◌≡◌, ℕ, zero, suc, ◌+◌, ◌≤◌, List, [], ◌∷◌, ◌++◌, refl, sym, ap, subst, ◌∙◌, arith, Option, Result, Ok, Err, OnOk, OnErr, IfOk, append_assoc}
use Rattle.std.proofs.lemmas.List.{append-nil}
use Rattle.circuit.specs.declared.Act.{Act}
use Rattle.circuit.specs.declared.Act.TheVariants.{Click as ClickAct, Ticks as TicksAct}
use Rattle.circuit.specs.declared.Step.{Step}
use Rattle.circuit.specs.declared.Step.TheVariants.{Click as ClickAt, Tick as OneTick}
use Rattle.circuit.specs.Circuit.{Circuit, State, start, view}
use Rattle.circuit.specs.Keys.{IsListed}
use Rattle.circuit.specs.Shows.{Run, Ended, Clicked, Ticked, Plays, clicks_in, fires_in, ticks, steps_of}
use Rattle.circuit.specs.Taken.{EachTaken}
use Rattle.circuit.proofs.Runs.{run_exists}
use Rattle.rp_io.specs.Causes.{appended, WrotePrefix, PartWay}
use Rattle.rp_io.proofs.Written.{part_none, part_more, part_all, part_stopped}
use Rattle.report.specs.declared.Cause.TheVariants.{Start}
use Rattle.report.specs.RunLines.{step_lines, run_lines}
use Rattle.report.specs.ViewLine.{view_line}
use Rattle.player.specs.Cost.{cost_of_run}
use Rattle.player.specs.Moments.{Moment, moments, moment_after, view_lines, run_text, click_count}
use Rattle.player.specs.Played.{StepTo, TakenStep, last_view}
use Rattle.player.specs.AnyRun.{noted_of, noted_text, RunsTo, WroteText, WroteTextPrefix}
pub use Rattle.player.specs.AnyRun.{events_of, cost_of}

abbrev pub moment_line : Moment → List ℕ → List ℕ
moment_line moment view = view_line moment.time moment.cause view

-- ---- one step in front of a run

-- a step and then the run
pub record StepThen {K : Type 0} (C : Circuit K) (cost : K → ℕ) (note : List K → List ℕ) (step : Step) (s next last : State K) (steps : List Step) (order : List (List K)) (views : List (List ℕ)) (to : StepTo C step s next) (rest : Run C next steps order views last) : Type 0 where
  pub whole : List (List K)
  pub run : Run C s (step ∷ steps) whole (view C next ∷ views) last
  pub lines : (time : ℕ) → step_lines note time (step ∷ steps) whole (view C next ∷ views) ≡
      noted_of C note step s next to ++ (moment_line (moment_after time step) (view C next) ++ step_lines note (moment_after time step).time steps order views)
  pub count : click_count (step ∷ steps) + fires_in whole ≡ events_of C step s next to + (click_count steps + fires_in order)
  pub cost_is : cost_of_run cost run ≡ cost_of C cost step s next to + cost_of_run cost rest

pub step_then : {K : Type 0} (C : Circuit K) (cost : K → ℕ) (note : List K → List ℕ) (step : Step) (s next last : State K) (steps : List Step) (order : List (List K)) (views : List (List ℕ)) (to : StepTo C step s next) (rest : Run C next steps order views last) →
    StepThen C cost note step s next last steps order views to rest
step_then C cost note (ClickAt pos click) s next last steps order views to rest = record { whole = order; run = Clicked to rest; lines = λ time. refl; count = omega arith; cost_is = refl }
step_then C cost note OneTick s next last steps order views to rest = record { whole = to.0 ∷ order; run = Ticked to.1 rest; lines = λ time. refl; count = omega arith; cost_is = refl }

click_count-ticks : (n : ℕ) (steps : List Step) → click_count (ticks n steps) ≡ click_count steps
click_count-ticks zero steps = refl
click_count-ticks (suc n) steps = click_count-ticks n steps

pub click_count-steps_of : (acts : List Act) → click_count (steps_of acts) ≡ clicks_in acts
click_count-steps_of [] = refl
click_count-steps_of (ClickAct pos click ∷ acts) = ap (λ n. 1 + n) (click_count-steps_of acts)
click_count-steps_of (TicksAct n ∷ acts) = click_count-ticks n (steps_of acts) ∙ click_count-steps_of acts

-- the last view is that of the last state
last_of_run : {K : Type 0} {C : Circuit K} {s last : State K} {steps : List Step} {order : List (List K)} {views : List (List ℕ)} → Run C s steps order views last → last_view (view C s ∷ views) ≡ view C last
last_of_run Ended = refl
last_of_run (Clicked click run) = last_of_run run
last_of_run (Ticked tick run) = last_of_run run

pub last_of_plays : {K : Type 0} {C : Circuit K} {acts : List Act} {order : List (List K)} {views : List (List ℕ)} {last : State K} → Plays C acts order views last → last_view views ≡ view C last
last_of_plays plays = ap last_view plays.at_start ∙ last_of_run plays.run

-- where nothing is noted of any tick, nothing is of a step
pub nothing_noted : {K : Type 0} (C : Circuit K) (step : Step) (s next : State K) (to : StepTo C step s next) → [] ≡ noted_of C (λ fires. []) step s next to
nothing_noted C (ClickAt pos click) s next to = refl
nothing_noted C OneTick s next to = refl

-- where nothing is noted, the lines are those of the moments and their views
plain_lines : {K : Type 0} {C : Circuit K} {s last : State K} {steps : List Step} {order : List (List K)} {views : List (List ℕ)} (time : ℕ) → Run C s steps order views last →
    step_lines {K = K} (λ fires. []) time steps order views ≡ view_lines (moments time steps) views
plain_lines time Ended = refl
plain_lines {C} time (Clicked {next} {pos} {click} clicks run) = ap (λ (lines : List ℕ). moment_line (moment_after time (ClickAt pos click)) (view C next) ++ lines) (plain_lines time run)
plain_lines {C} time (Ticked {next} tick run) = ap (λ (lines : List ℕ). moment_line (moment_after time OneTick) (view C next) ++ lines) (plain_lines (time + 1) run)

pub plain_text : {K : Type 0} {C : Circuit K} (header : List ℕ) (acts : List Act) (order : List (List K)) (views : List (List ℕ)) (last : State K) (trailer : List ℕ) → Plays C acts order views last →
    noted_text {K = K} (λ fires. []) header acts order views trailer ≡ run_text header acts views trailer
plain_text {K} {C} header acts order views last trailer plays =
    ap (λ (some : List (List ℕ)). noted_text {K = K} (λ fires. []) header acts order some trailer) plays.at_start
    ∙ ap (λ (lines : List ℕ). header ++ ((view_line 0 Start (view C (start C)) ++ lines) ++ trailer)) (plain_lines 0 plays.run)
    ∙ ap (λ (some : List (List ℕ)). run_text header acts some trailer) (sym plays.at_start)

-- four parts, grouped for the two that are written next
regrouped : (a b c d : List ℕ) → (a ++ (b ++ c)) ++ d ≡ (a ++ b) ++ (c ++ d)
regrouped a b c d = ap (λ (l : List ℕ). l ++ d) (sym (append_assoc a b c)) ∙ append_assoc (a ++ b) c d

module _ {K : Type 0} (C : Circuit K) (cost : K → ℕ) (note : List K → List ℕ) (header : List ℕ) (acts : List Act) (trailer : ℕ → List ℕ) (before : Option (List ℕ)) (spent_before : ℕ) where
  abbrev whole_text : List (List K) → List (List ℕ) → ℕ → List ℕ
  whole_text order views events = noted_text note header acts order views (trailer events)

  -- What was written so far goes on to an allowed text by this run from here. So many events came before, and so much was spent.
  pub record Ahead (now : Option (List ℕ)) (time events spent : ℕ) (s last : State K) (left : List Step) (order : List (List K)) (rest : List (List ℕ)) (run : Run C s left order rest last) : Type 0 where
    pub views : List (List ℕ)
    pub whole : List (List K)
    pub total : ℕ
    pub plays : Plays C acts whole views last
    pub total_is : total ≡ clicks_in acts + fires_in whole
    pub count : total ≡ events + (click_count left + fires_in order)
    pub spends : spent + cost_of_run cost run ≤ spent_before + cost_of_run cost plays.run
    pub part : PartWay before now (whole_text whole views total) (step_lines note time left order rest ++ trailer total)

  -- so it is whatever run comes from here
  abbrev pub Going : Option (List ℕ) → ℕ → ℕ → ℕ → State K → List Step → Type 0
  Going now time events spent s left = (order : List (List K)) (rest : List (List ℕ)) (last : State K) → (run : Run C s left order rest last) → Ahead now time events spent s last left order rest run

  -- a text of this kind was written whole, and ends in this state
  pub record Finished (now : Option (List ℕ)) (events spent : ℕ) (last : State K) : Type 0 where
    pub views : List (List ℕ)
    pub order : List (List K)
    pub plays : Plays C acts order views last
    pub count : events ≡ clicks_in acts + fires_in order
    pub spends : spent ≤ spent_before + cost_of_run cost plays.run
    pub wrote : now ≡ appended before (whole_text order views events)

  -- a prefix of one was written
  abbrev pub Stopped : Option (List ℕ) → ℕ → Type 0
  Stopped now spent = WroteTextPrefix C cost note header acts trailer before now spent_before spent

  -- the view of the start
  abbrev first_view : List ℕ
  first_view = view C (start C)

  -- nothing was written yet of the text of this run
  first_part : (order : List (List K)) (rest : List (List ℕ)) (total : ℕ) →
      PartWay before before (whole_text order (first_view ∷ rest) total) (header ++ ((view_line 0 Start first_view ++ step_lines note 0 (steps_of acts) order rest) ++ trailer total))
  first_part order rest total = part_none before (whole_text order (first_view ∷ rest) total)

  -- the header was written
  after_header : (mid : Option (List ℕ)) → mid ≡ appended before header → (order : List (List K)) (rest : List (List ℕ)) (total : ℕ) →
      PartWay before mid (whole_text order (first_view ∷ rest) total) (view_line 0 Start first_view ++ (step_lines note 0 (steps_of acts) order rest ++ trailer total))
  after_header mid one order rest total =
      subst (PartWay before mid (whole_text order (first_view ∷ rest) total)) (append_assoc (view_line 0 Start first_view) (step_lines note 0 (steps_of acts) order rest) (trailer total))
      (part_more before before mid (whole_text order (first_view ∷ rest) total) header ((view_line 0 Start first_view ++ step_lines note 0 (steps_of acts) order rest) ++ trailer total) (first_part order rest total) one)

  -- the header and the line of the start were written
  pub going_start : (mid now : Option (List ℕ)) → mid ≡ appended before header → now ≡ appended mid (view_line 0 Start first_view) → Going now 0 0 spent_before (start C) (steps_of acts)
  going_start mid now one two order rest last run =
      let total : ℕ = clicks_in acts + fires_in order in
      record {
        views = first_view ∷ rest;
        whole = order;
        total = total;
        plays = record { rest = rest; at_start = refl; run = run };
        total_is = refl;
        count = omega (arith, click_count-steps_of acts);
        spends = omega arith;
        part = part_more before mid now (whole_text order (first_view ∷ rest) total) (view_line 0 Start first_view) (step_lines note 0 (steps_of acts) order rest ++ trailer total) (after_header mid one order rest total) two;
      }

  module _ (mid now : Option (List ℕ)) (time events spent : ℕ) (s next : State K) (step : Step) (left : List Step) (going : Going mid time events spent s (step ∷ left)) (to : StepTo C step s next) where
    abbrev seen : List ℕ
    seen = view C next

    -- what is written after the step
    abbrev pub piece : List ℕ
    piece = noted_of C note step s next to ++ moment_line (moment_after time step) seen

    abbrev lines_left : List (List K) → List (List ℕ) → List ℕ
    lines_left order rest = step_lines note (moment_after time step).time left order rest

    -- one run from here
    record Then (order : List (List K)) (rest : List (List ℕ)) (last : State K) (run : Run C next left order rest last) : Type 0 where
      pub more : StepThen C cost note step s next last left order rest to run
      pub ahead : Ahead mid time events spent s last (step ∷ left) more.whole (seen ∷ rest) more.run
      pub part : PartWay before mid (whole_text ahead.whole ahead.views ahead.total) (piece ++ (lines_left order rest ++ trailer ahead.total))

    then_by : (order : List (List K)) (rest : List (List ℕ)) (last : State K) (run : Run C next left order rest last) → Then order rest last run
    then_by order rest last run =
        let more = step_then C cost note step s next last left order rest to run in
        let ahead = going more.whole (seen ∷ rest) last more.run in
        let P : List ℕ → Type 0 = λ l. PartWay before mid (whole_text ahead.whole ahead.views ahead.total) l in
        record {
          more = more;
          ahead = ahead;
          part = subst P (ap (λ (lines : List ℕ). lines ++ trailer ahead.total) (more.lines time)
              ∙ regrouped (noted_of C note step s next to) (moment_line (moment_after time step) seen) (lines_left order rest) (trailer ahead.total)) ahead.part;
        }

    -- one step more
    pub going_on : (events2 spent2 : ℕ) → events2 ≡ events + events_of C step s next to → spent2 ≤ spent + cost_of C cost step s next to →
        now ≡ appended mid piece → Going now (moment_after time step).time events2 spent2 next left
    going_on events2 spent2 more_events more_spent wrote order rest last run =
        let it = then_by order rest last run in
        record {
          views = it.ahead.views;
          whole = it.ahead.whole;
          total = it.ahead.total;
          plays = it.ahead.plays;
          total_is = it.ahead.total_is;
          count = omega (arith, it.ahead.count, it.more.count, more_events);
          spends = omega (arith, it.ahead.spends, it.more.cost_is, more_spent);
          part = part_more before mid now (whole_text it.ahead.whole it.ahead.views it.ahead.total) piece (lines_left order rest ++ trailer it.ahead.total) it.part wrote;
        }

    -- the sink failed in what is written after a step
    pub stopped_at : (spent2 : ℕ) → spent2 ≤ spent + cost_of C cost step s next to → {keys : List K} → IsListed C keys → EachTaken C left → WrotePrefix mid now piece → Stopped now spent2
    stopped_at spent2 more_spent listed taken wrote =
        let run = run_exists listed left taken next in
        let it = then_by run.0 run.1 run.2 run.3 in
        record {
          views = it.ahead.views;
          order = it.ahead.whole;
          last = run.2;
          events = it.ahead.total;
          plays = it.ahead.plays;
          count = it.ahead.total_is;
          spends = omega (arith, it.ahead.spends, it.more.cost_is, more_spent);
          wrote = part_stopped before mid now (whole_text it.ahead.whole it.ahead.views it.ahead.total) piece (lines_left run.0 run.1 ++ trailer it.ahead.total) it.part wrote;
        }

  -- the sink failed before the first step
  stopped_before : {keys : List K} (now : Option (List ℕ)) → IsListed C keys → EachTaken C (steps_of acts) →
      ((order : List (List K)) (rest : List (List ℕ)) (total : ℕ) → WrotePrefix before now (whole_text order (first_view ∷ rest) total)) → Stopped now spent_before
  stopped_before now listed taken wrote =
      let run = run_exists listed (steps_of acts) taken (start C) in
      let total : ℕ = clicks_in acts + fires_in run.0 in
      record {
        views = first_view ∷ run.1;
        order = run.0;
        last = run.2;
        events = total;
        plays = record { rest = run.1; at_start = refl; run = run.3 };
        count = refl;
        spends = omega arith;
        wrote = wrote run.0 run.1 total;
      }

  -- in the header
  pub stopped_first : {keys : List K} (now : Option (List ℕ)) → IsListed C keys → EachTaken C (steps_of acts) → WrotePrefix before now header → Stopped now spent_before
  stopped_first now listed taken wrote = stopped_before now listed taken (λ order rest total.
      part_stopped before before now (whole_text order (first_view ∷ rest) total) header ((view_line 0 Start first_view ++ step_lines note 0 (steps_of acts) order rest) ++ trailer total) (first_part order rest total) wrote)

  -- or in the line of the start
  pub stopped_start : {keys : List K} (mid now : Option (List ℕ)) → IsListed C keys → EachTaken C (steps_of acts) → mid ≡ appended before header → WrotePrefix mid now (view_line 0 Start first_view) → Stopped now spent_before
  stopped_start mid now listed taken one wrote = stopped_before now listed taken (λ order rest total.
      part_stopped before mid now (whole_text order (first_view ∷ rest) total) (view_line 0 Start first_view) (step_lines note 0 (steps_of acts) order rest ++ trailer total) (after_header mid one order rest total) wrote)

  module _ (mid now : Option (List ℕ)) (time events spent : ℕ) (s : State K) (going : Going mid time events spent s []) where
    ahead_of : Ahead mid time events spent s s [] [] [] Ended
    ahead_of = going [] [] s Ended

    total_now : ahead_of.total ≡ events
    total_now = omega (arith, ahead_of.count)

    here : PartWay before mid (whole_text ahead_of.whole ahead_of.views events) (trailer events ++ [])
    here = subst (λ (n : ℕ). PartWay before mid (whole_text ahead_of.whole ahead_of.views n) (trailer n ++ [])) total_now
        (subst (PartWay before mid (whole_text ahead_of.whole ahead_of.views ahead_of.total)) (sym (append-nil (trailer ahead_of.total))) ahead_of.part)

    -- all steps were taken: the trailer ends the text
    pub ended : now ≡ appended mid (trailer events) → Finished now events spent s
    ended wrote = record {
      views = ahead_of.views;
      order = ahead_of.whole;
      plays = ahead_of.plays;
      count = sym total_now ∙ ahead_of.total_is;
      spends = omega (arith, ahead_of.spends);
      wrote = part_all before now (whole_text ahead_of.whole ahead_of.views events) (part_more before mid now (whole_text ahead_of.whole ahead_of.views events) (trailer events) [] here wrote);
    }

    pub stopped_last : WrotePrefix mid now (trailer events) → Stopped now spent
    stopped_last wrote = record {
      views = ahead_of.views;
      order = ahead_of.whole;
      last = s;
      events = events;
      plays = ahead_of.plays;
      count = sym total_now ∙ ahead_of.total_is;
      spends = omega (arith, ahead_of.spends);
      wrote = part_stopped before mid now (whole_text ahead_of.whole ahead_of.views events) (trailer events) [] here wrote;
    }

-- ---- what answers need

-- an error is met by what holds anyway
pub on_err_holds : {T E : Type 0} (r : Result T E) (P : Type 0) → P → OnErr r P
on_err_holds (Ok x) P p = tt
on_err_holds (Err e) P p = p

pub on_ok_then : {T E : Type 0} (r : Result T E) (P Q : Type 0) → (P → Q) → OnOk r P → OnOk r Q
on_ok_then (Ok x) P Q f p = f p
on_ok_then (Err e) P Q f p = tt

pub on_err_then : {T E : Type 0} (r : Result T E) (P Q : Type 0) → (P → Q) → OnErr r P → OnErr r Q
on_err_then (Ok x) P Q f p = tt
on_err_then (Err e) P Q f p = f p

pub if_ok_then : {T E : Type 0} (r : Result T E) (P Q : T → Type 0) → ((x : T) → P x → Q x) → IfOk r P → IfOk r Q
if_ok_then (Ok x) P Q f p = f x p
if_ok_then (Err e) P Q f p = tt

-- the click of the first step is taken, and those of the others
pub taken_first : {K : Type 0} (C : Circuit K) (step : Step) (steps : List Step) → EachTaken C (step ∷ steps) → TakenStep C step
taken_first C (ClickAt pos click) steps taken = taken.0
taken_first C OneTick steps taken = tt

pub taken_after : {K : Type 0} (C : Circuit K) (step : Step) (steps : List Step) → EachTaken C (step ∷ steps) → EachTaken C steps
taken_after C (ClickAt pos click) steps taken = taken.1
taken_after C OneTick steps taken = taken
