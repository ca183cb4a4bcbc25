-- How the writing of a run goes on, by whatever plays its circuit.
use Rattle.std.proofs.Common.{◌≡◌, ℕ, ◌+◌, ◌≤◌, List, [], ◌∷◌, ◌++◌, refl, sym, ap, subst, ◌∙◌, arith, Option}
use Rattle.circuit.specs.declared.Act.{Act}
use Rattle.circuit.specs.declared.Step.{Step}
use Rattle.circuit.specs.Circuit.{Circuit, State, start, view}
use Rattle.circuit.specs.Shows.{Run, Plays, Ended, clicks_in, fires_in, steps_of}
use Rattle.circuit.specs.Taken.{EachTaken, EachActTaken}
use Rattle.circuit.proofs.Runs.{taken-steps_of}
use Rattle.rp_io.specs.Causes.{appended, WrotePrefix}
use Rattle.report.specs.declared.Cause.TheVariants.{Start}
use Rattle.report.specs.ViewLine.{view_line}
use Rattle.player.specs.Cost.{cost_of_run}
use Rattle.player.specs.Moments.{moment_after, click_count}
use Rattle.player.specs.Played.{StepTo}
use Rattle.player.specs.AnyRun.{StepsOn, HasKeys, RunsTo, WroteText, WroteTextPrefix, events_of, cost_of, noted_of}
use Rattle.player.proofs.Going.{Going, StepThen, step_then, moment_line, piece, click_count-steps_of, going_start, going_on, stopped_at, stopped_first, stopped_start, ended, stopped_last}

-- A step of a circuit that is known to be this one.
pub record KnownStep {K : Type 0} (C D : Circuit K) (cost paid : K → ℕ) (note remark : List K → List ℕ) (step : Step) (old new : State K) (counted counted_after : ℕ → Type 0) (spent spent_after : ℕ) (noted : List ℕ) : Type 0 where
  pub circuit : D ≡ C
  pub costs : paid ≡ cost
  pub notes : remark ≡ note
  pub steps : StepsOn D paid remark step old new counted counted_after spent spent_after noted

pub known_step : {K : Type 0} {C D : Circuit K} {cost paid : K → ℕ} {note remark : List K → List ℕ} {step : Step} {old new : State K} {counted counted_after : ℕ → Type 0} {spent spent_after : ℕ} {noted : List ℕ} →
    KnownStep C D cost paid note remark step old new counted counted_after spent spent_after noted → StepsOn C cost note step old new counted counted_after spent spent_after noted
known_step {K} {C} {D} {cost} {paid} {note} {remark} {step} {old} {new} {counted} {counted_after} {spent} {spent_after} {noted} known =
    subst (λ (f : List K → List ℕ). StepsOn C cost f step old new counted counted_after spent spent_after noted) known.notes
    (subst (λ (c : K → ℕ). StepsOn C c remark step old new counted counted_after spent spent_after noted) known.costs
    (subst (λ (E : Circuit K). StepsOn E paid remark step old new counted counted_after spent spent_after noted) known.circuit known.steps))

-- This is noted of the step, and these are the time and the values of its line.
pub record IsPiece {K : Type 0} (C : Circuit K) (note : List K → List ℕ) (step : Step) (old new : State K) (to : StepTo C step old new) (noted : List ℕ) (time : ℕ) (values : List ℕ) : Type 0 where
  pub notes : noted ≡ noted_of C note step old new to
  pub after : time ≡ (moment_after old.time step).time
  pub what : values ≡ view C new

pub piece_is : {K : Type 0} {C : Circuit K} {note : List K → List ℕ} {step : Step} {old new : State K} {to : StepTo C step old new} {noted : List ℕ} {time : ℕ} {values : List ℕ} → IsPiece C note step old new to noted time values →
    noted ++ view_line time (moment_after old.time step).cause values ≡ noted_of C note step old new to ++ moment_line (moment_after old.time step) (view C new)
piece_is {K} {C} {note} {step} {old} {new} {to} {noted} {time} {values} is =
    ap (λ (l : List ℕ). l ++ view_line time (moment_after old.time step).cause values) is.notes
    ∙ ap (λ (t : ℕ). noted_of C note step old new to ++ view_line t (moment_after old.time step).cause values) is.after
    ∙ ap (λ (list : List ℕ). noted_of C note step old new to ++ view_line (moment_after old.time step).time (moment_after old.time step).cause list) is.what

module _ {K : Type 0} (C : Circuit K) (cost : K → ℕ) (note : List K → List ℕ) (header : List ℕ) (acts : List Act) (trailer : ℕ → List ℕ) (before : Option (List ℕ)) (spent_before : ℕ) where
  -- What was written so far goes on to an allowed text, whatever run comes from here, after so many events as are right.
  pub record GoingText (counted : ℕ → Type 0) (now : Option (List ℕ)) (spent : ℕ) (s : State K) (left : List Step) : Type 0 where
    pub events : ℕ
    pub right : counted events
    pub going : Going C cost note header acts trailer before spent_before now s.time events spent s left

  first_line : (s : State K) (time : ℕ) (values : List ℕ) → s ≡ start C → time ≡ s.time → values ≡ view C s → view_line time Start values ≡ view_line 0 Start (view C (start C))
  first_line s time values is_start when what =
      ap (λ (t : ℕ). view_line t Start values) (when ∙ ap (λ (t : State K). t.time) is_start) ∙ ap (λ (list : List ℕ). view_line 0 Start list) (what ∙ ap (λ (t : State K). view C t) is_start)

  pub text_begins : (counted : ℕ → Type 0) (mid now : Option (List ℕ)) (s : State K) (steps : List Step) (time : ℕ) (values : List ℕ) → counted 0 → s ≡ start C → steps ≡ steps_of acts → time ≡ s.time → values ≡ view C s →
      mid ≡ appended before header → now ≡ appended mid (view_line time Start values) → GoingText counted now spent_before s steps
  text_begins counted mid now s steps time values none is_start is_script when what one two =
      subst (λ (l : List Step). GoingText counted now spent_before s l) (sym is_script)
      (subst (λ (t : State K). GoingText counted now spent_before t (steps_of acts)) (sym is_start)
      (record { events = 0; right = none; going = going_start C cost note header acts trailer before spent_before mid now one (two ∙ ap (appended mid) (first_line s time values is_start when what)) }))

  pub text_goes_on : (counted counted_after : ℕ → Type 0) (mid now : Option (List ℕ)) (spent spent_after : ℕ) (s next : State K) (step : Step) (all left : List Step) (noted values : List ℕ) →
      GoingText counted mid spent s all → all ≡ step ∷ left → StepsOn C cost note step s next counted counted_after spent spent_after noted → next.time ≡ (moment_after s.time step).time → values ≡ view C next →
      now ≡ appended mid (noted ++ view_line next.time (moment_after s.time step).cause values) → GoingText counted_after now spent_after next left
  text_goes_on counted counted_after mid now spent spent_after s next step all left noted values text first on after what wrote =
      let from_here = subst (Going C cost note header acts trailer before spent_before mid s.time text.events spent s) first text.going in
      let is = piece_is (record { notes = on.notes; after = after; what = what }) in
      record {
        events = text.events + events_of C step s next on.to;
        right = on.events text.events text.right;
        going = subst (λ (t : ℕ). Going C cost note header acts trailer before spent_before now t (text.events + events_of C step s next on.to) spent_after next left) (sym after)
            (going_on C cost note header acts trailer before spent_before mid now s.time text.events spent s next step left from_here on.to (text.events + events_of C step s next on.to) spent_after refl on.reads (wrote ∙ ap (appended mid) is));
      }

  pub text_ends : (counted : ℕ → Type 0) (mid now : Option (List ℕ)) (spent : ℕ) (s : State K) (left : List Step) (bytes : List ℕ) → GoingText counted mid spent s left → left ≡ [] → ((count : ℕ) → counted count → bytes ≡ trailer count) →
      now ≡ appended mid bytes → WroteText C cost note header acts trailer counted before now spent_before spent s
  text_ends counted mid now spent s left bytes text none is wrote =
      let at_end = subst (Going C cost note header acts trailer before spent_before mid s.time text.events spent s) none text.going in
      let done = ended C cost note header acts trailer before spent_before mid now s.time text.events spent s at_end (wrote ∙ ap (appended mid) (is text.events text.right)) in
      record { runs = record { events = text.events; right = text.right; views = done.views; order = done.order; plays = done.plays; count = done.count; spends = done.spends }; wrote = done.wrote }

  module _ (has : HasKeys C) where
    pub text_stops_first : (now : Option (List ℕ)) → EachActTaken C acts → WrotePrefix before now header → WroteTextPrefix C cost note header acts trailer before now spent_before spent_before
    text_stops_first now taken wrote = stopped_first C cost note header acts trailer before spent_before now has.listed (taken-steps_of C acts taken) wrote

    pub text_stops_at_start : (mid now : Option (List ℕ)) (s : State K) (time : ℕ) (values : List ℕ) → EachActTaken C acts → s ≡ start C → time ≡ s.time → values ≡ view C s → mid ≡ appended before header →
        WrotePrefix mid now (view_line time Start values) → WroteTextPrefix C cost note header acts trailer before now spent_before spent_before
    text_stops_at_start mid now s time values taken is_start when what one two =
        stopped_start C cost note header acts trailer before spent_before mid now has.listed (taken-steps_of C acts taken) one (subst (WrotePrefix mid now) (first_line s time values is_start when what) two)

    pub text_stops_on : (counted counted_after : ℕ → Type 0) (mid now : Option (List ℕ)) (spent spent_after : ℕ) (s next : State K) (step : Step) (all left : List Step) (noted values : List ℕ) →
        GoingText counted mid spent s all → all ≡ step ∷ left → StepsOn C cost note step s next counted counted_after spent spent_after noted → next.time ≡ (moment_after s.time step).time → values ≡ view C next → EachTaken C left →
        WrotePrefix mid now (noted ++ view_line next.time (moment_after s.time step).cause values) → WroteTextPrefix C cost note header acts trailer before now spent_before spent_after
    text_stops_on counted counted_after mid now spent spent_after s next step all left noted values text first on after what taken wrote =
        let from_here = subst (Going C cost note header acts trailer before spent_before mid s.time text.events spent s) first text.going in
        let is = piece_is (record { notes = on.notes; after = after; what = what }) in
        stopped_at C cost note header acts trailer before spent_before mid now s.time text.events spent s next step left from_here on.to spent_after on.reads has.listed taken (subst (WrotePrefix mid now) is wrote)

  pub text_stops_last : (counted : ℕ → Type 0) (mid now : Option (List ℕ)) (spent : ℕ) (s : State K) (left : List Step) (bytes : List ℕ) → GoingText counted mid spent s left → left ≡ [] → ((count : ℕ) → counted count → bytes ≡ trailer count) →
      WrotePrefix mid now bytes → WroteTextPrefix C cost note header acts trailer before now spent_before spent
  text_stops_last counted mid now spent s left bytes text none is wrote =
      let at_end = subst (Going C cost note header acts trailer before spent_before mid s.time text.events spent s) none text.going in
      stopped_last C cost note header acts trailer before spent_before mid now s.time text.events spent s at_end (subst (WrotePrefix mid now) (is text.events text.right) wrote)

-- ---- a run of which nothing is written

module _ {K : Type 0} (C : Circuit K) (cost : K → ℕ) (acts : List Act) (spent_before : ℕ) where
  -- Whatever run comes from here, there is one of all acts that ends as it does. So many events came before, and so much was spent.
  pub record Behind (events spent : ℕ) (s last : State K) (left : List Step) (order : List (List K)) (rest : List (List ℕ)) (run : Run C s left order rest last) : Type 0 where
    pub views : List (List ℕ)
    pub whole : List (List K)
    pub plays : Plays C acts whole views last
    pub count : clicks_in acts + fires_in whole ≡ events + (click_count left + fires_in order)
    pub spends : spent + cost_of_run cost run ≤ spent_before + cost_of_run cost plays.run

  pub record GoingOn (counted : ℕ → Type 0) (spent : ℕ) (s : State K) (left : List Step) : Type 0 where
    pub events : ℕ
    pub right : counted events
    pub going : (order : List (List K)) (rest : List (List ℕ)) (last : State K) → (run : Run C s left order rest last) → Behind events spent s last left order rest run

  pub run_begins : (counted : ℕ → Type 0) (s : State K) (steps : List Step) → counted 0 → s ≡ start C → steps ≡ steps_of acts → GoingOn counted spent_before s steps
  run_begins counted s steps none is_start is_script =
      subst (λ (l : List Step). GoingOn counted spent_before s l) (sym is_script)
      (subst (λ (t : State K). GoingOn counted spent_before t (steps_of acts)) (sym is_start)
      (record {
        events = 0;
        right = none;
        going = λ order rest last run. record {
          views = view C (start C) ∷ rest;
          whole = order;
          plays = record { rest = rest; at_start = refl; run = run };
          count = omega (arith, click_count-steps_of acts);
          spends = omega arith;
        };
      }))

  pub run_goes_on : (counted counted_after : ℕ → Type 0) (note : List K → List ℕ) (spent spent_after : ℕ) (s next : State K) (step : Step) (all left : List Step) (noted : List ℕ) →
      GoingOn counted spent s all → all ≡ step ∷ left → StepsOn C cost note step s next counted counted_after spent spent_after noted → GoingOn counted_after spent_after next left
  run_goes_on counted counted_after note spent spent_after s next step all left noted text first on =
      let from_here = subst (λ (l : List Step). (order : List (List K)) (rest : List (List ℕ)) (last : State K) → (run : Run C s l order rest last) → Behind text.events spent s last l order rest run) first text.going in
      record {
        events = text.events + events_of C step s next on.to;
        right = on.events text.events text.right;
        going = λ order rest last run.
            let more = step_then C cost note step s next last left order rest on.to run in
            let ahead = from_here more.whole (view C next ∷ rest) last more.run in
            record {
              views = ahead.views;
              whole = ahead.whole;
              plays = ahead.plays;
              count = omega (arith, ahead.count, more.count);
              spends = omega (arith, ahead.spends, more.cost_is, on.reads);
            };
      }

  pub run_ends : (counted : ℕ → Type 0) (spent : ℕ) (s : State K) (left : List Step) → GoingOn counted spent s left → left ≡ [] → RunsTo C cost acts counted spent_before spent s
  run_ends counted spent s left text none =
      let at_end = subst (λ (l : List Step). (order : List (List K)) (rest : List (List ℕ)) (last : State K) → (run : Run C s l order rest last) → Behind text.events spent s last l order rest run) none text.going in
      let done = at_end [] [] s Ended in
      record { events = text.events; right = text.right; views = done.views; order = done.whole; plays = done.plays; count = omega (arith, done.count); spends = omega (arith, done.spends) }
