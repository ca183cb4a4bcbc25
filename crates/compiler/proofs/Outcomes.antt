-- Whether a list is a firing list can be found out, so each order comes to an outcome where the clicks are taken.
use Rattle.std.proofs.Common.{◌≡◌, ◌≢◌, ℕ, zero, suc, ◌+◌, ◌≤◌, Bool, true, List, [], ◌∷◌, ◌++◌, length, refl, sym, ap, ◌∙◌, arith, ◌⊎◌, inl, inr}
use Rattle.std.proofs.lemmas.Bool.{false≢true, leb-true, leb-false, cases_Bool}
use Rattle.std.specs.Prelude.{nat_le}
use Rattle.circuit.specs.declared.Act.{Act}
use Rattle.circuit.specs.declared.Act.TheVariants.{Click as ClickAct, Ticks as TicksAct}
use Rattle.circuit.specs.declared.Step.{Step}
use Rattle.circuit.specs.declared.Step.TheVariants.{Click as ClickAt, Tick as OneTick}
use Rattle.circuit.specs.Circuit.{Circuit, State, IsDue, IsFiringList, Ticks, Each, EachBefore, Among, later, fire_all, start, view}
use Rattle.circuit.specs.Firing.{due_at}
use Rattle.circuit.specs.Keys.{IsTest, IsListed}
use Rattle.circuit.specs.Replay.{IsWrong, Outcome, Views, Failure, Replays}
use Rattle.circuit.specs.Shows.{Run, Ended, Clicked, Ticked, ticks, steps_of}
use Rattle.circuit.specs.Taken.{EachTaken, EachActTaken}
use Rattle.circuit.proofs.Keys.{cases_key}
use Rattle.circuit.proofs.Runs.{due_at-true, due_at_from, click_exists, taken-steps_of}
use Rattle.input_search.proofs.RawLaws.{each-among}
use Rattle.compiler.specs.Outcomes.{ticks_in, HasOneOutcome}
use Rattle.compiler.proofs.OneOutcome.{one_outcome}
use Rattle.compiler.proofs.OneRun.{StandApart}
use Rattle.compiler.proofs.Placed.{among_or_not}

-- it holds, or it doesn't
abbrev Decided : Type 0 → Type 0
Decided P = P ⊎ (P → ⊥)

both_or_not : {P Q : Type 0} → Decided P → Decided Q → Decided (P × Q)
both_or_not (inl p) (inl q) = inl (p, q)
both_or_not (inl p) (inr n) = inr (λ h. n h.1)
both_or_not (inr n) d = inr (λ h. n h.0)

each_or_not : {K : Type 0} (P : K → Type 0) → ((k : K) → Decided (P k)) → (keys : List K) → Decided (Each P keys)
each_or_not P d [] = inl tt
each_or_not P d (k ∷ keys) = both_or_not (d k) (each_or_not P d keys)

before_or_not : {K : Type 0} (R : K → K → Type 0) → ((a b : K) → Decided (R a b)) → (keys : List K) → Decided (EachBefore R keys)
before_or_not R d [] = inl tt
before_or_not R d (k ∷ keys) = both_or_not (each_or_not (R k) (d k) keys) (before_or_not R d keys)

each_of_all : {K : Type 0} (P : K → Type 0) → ((k : K) → P k) → (keys : List K) → Each P keys
each_of_all P h [] = tt
each_of_all P h (k ∷ keys) = (h k, each_of_all P h keys)

other_or_same : {K : Type 0} {same : K → K → Bool} → IsTest same → (a b : K) → Decided (a ≢ b)
other_or_same test a b = elim (cases_key test a b) [ inl e ↦ inr (λ n. n e) | inr n ↦ inl n ]

below_or_not : (m n : ℕ) → Decided (m ≤ n)
below_or_not m n = elim (cases_Bool (nat_le m n)) [
  | inl h ↦ inl (leb-true m n h)
  | inr h ↦ inr (λ below. (let above : n + 1 ≤ m = omega (arith, leb-false m n h) in omega arith))
]

due_or_not : {K : Type 0} (C : Circuit K) (s : State K) (key : K) → Decided (IsDue C s key)
due_or_not C s key = elim (cases_Bool (due_at (C.role key) (s.cells key) s.time)) [
  | inl h ↦ (let d = due_at-true (C.role key) (s.cells key) s.time h in inl (record { component = d.0; there = d.1; waits = d.2; now = d.3 }))
  | inr h ↦ inr (λ d. (let due : due_at (C.role key) (s.cells key) s.time ≡ true = rw d.there (due_at_from d.component (s.cells key) s.time d.waits d.now) in false≢true (sym h ∙ due)))
]

-- what is due is in the list, or something that is due is not
all_or_not : {K : Type 0} (C : Circuit K) → IsTest C.same → (keys : List K) → IsListed C keys → (s : State K) (fires : List K) → Decided ((key : K) → IsDue C s key → Among fires key)
all_or_not {K} C test keys listed s fires = elim (each_or_not Fires decided keys) [
  | inl each ↦ inl (λ key d. each-among Fires keys key each (listed.all key d.component d.there) d)
  | inr n ↦ inr (λ all. n (each_of_all Fires all keys))
]
  where
    Fires : K → Type 0
    Fires key = IsDue C s key → Among fires key

    decided : (key : K) → Decided (Fires key)
    decided key = elim (due_or_not C s key) [
      | inl d ↦ elim (among_or_not test fires key) [ inl a ↦ inl (λ due. a) | inr n ↦ inr (λ h. n (h d)) ]
      | inr n ↦ inl (λ due. absurd (n due))
    ]

-- The list is a firing list, or it isn't.
pub firing_or_not : {K : Type 0} (C : Circuit K) → IsTest C.same → (keys : List K) → IsListed C keys → (s : State K) (fires : List K) → Decided (IsFiringList C s fires)
firing_or_not {K} C test keys listed s fires =
    elim (both_or_not (both_or_not (each_or_not (IsDue C s) (due_or_not C s) fires) (all_or_not C test keys listed s fires))
    (both_or_not (before_or_not (λ a b. a ≢ b) (other_or_same test) fires) (before_or_not Rising (λ a b. below_or_not (s.cells a).priority (s.cells b).priority) fires))) [
      | inl h ↦ inl (record { due = h.0.0; all = h.0.1; once = h.1.0; rising = h.1.1 })
      | inr n ↦ inr (λ f. n ((f.due, f.all), (f.once, f.rising)))
    ]
  where
    Rising : K → K → Type 0
    Rising a b = (s.cells a).priority ≤ (s.cells b).priority

-- how many of the steps are ticks
abbrev ticks_among : List Step → ℕ
ticks_among [] = 0
ticks_among (ClickAt pos click ∷ steps) = ticks_among steps
ticks_among (OneTick ∷ steps) = suc (ticks_among steps)

-- From the state the order fails at a tick of the steps.
record FailsFrom {K : Type 0} (C : Circuit K) (s : State K) (steps : List Step) (order : List (List K)) : Type 0 where
  done : List Step
  left : List Step
  are : steps ≡ done ++ (OneTick ∷ left)
  good : List (List K)
  rest : List (List K)
  lists : order ≡ good ++ rest
  views : List (List ℕ)
  last : State K
  run : Run C s done good views last
  wrong : IsWrong C (later last) rest

abbrev RunsFrom : {K : Type 0} (C : Circuit K) (s : State K) (steps : List Step) (order : List (List K)) → Type 0
RunsFrom {K} C s steps order = (views : List (List ℕ)) × (last : State K) × Run C s steps order views last

-- With no more lists than ticks the order runs to the end of the steps, or fails before.
runs_or_fails : {K : Type 0} (C : Circuit K) → IsTest C.same → (keys : List K) → IsListed C keys → (steps : List Step) → EachTaken C steps → (s : State K) (order : List (List K)) → length order ≤ ticks_among steps →
    RunsFrom C s steps order ⊎ FailsFrom C s steps order
runs_or_fails C test keys listed [] taken s [] fit = inl ([], s, Ended)
runs_or_fails C test keys listed [] taken s (fires ∷ order) fit = absurd (omega arith)
runs_or_fails C test keys listed (ClickAt pos click ∷ steps) taken s order fit =
    let c = click_exists taken.0 s in
    elim (runs_or_fails C test keys listed steps taken.1 c.0 order fit) [
      | inl r ↦ inl (view C c.0 ∷ r.0, r.1, Clicked c.1 r.2)
      | inr f ↦ inr (record {
        done = ClickAt pos click ∷ f.done;
        left = f.left;
        are = ap (λ (more : List Step). ClickAt pos click ∷ more) f.are;
        good = f.good;
        rest = f.rest;
        lists = f.lists;
        views = view C c.0 ∷ f.views;
        last = f.last;
        run = Clicked c.1 f.run;
        wrong = f.wrong;
      })
    ]
runs_or_fails C test keys listed (OneTick ∷ steps) taken s [] fit =
    inr (record { done = []; left = steps; are = refl; good = []; rest = []; lists = refl; views = []; last = s; run = Ended; wrong = tt })
runs_or_fails {K} C test keys listed (OneTick ∷ steps) taken s (fires ∷ order) fit = elim (firing_or_not C test keys listed (later s) fires) [
  | inr n ↦ inr (record { done = []; left = steps; are = refl; good = []; rest = fires ∷ order; lists = refl; views = []; last = s; run = Ended; wrong = n })
  | inl firing ↦
      (let next : State K = fire_all C (later s) fires in
      let tick : Ticks C fires s next = record { order = firing; after = refl } in
      elim (runs_or_fails C test keys listed steps taken next order (omega arith)) [
        | inl r ↦ inl (view C next ∷ r.0, r.1, Ticked tick r.2)
        | inr f ↦ inr (record {
          done = OneTick ∷ f.done;
          left = f.left;
          are = ap (λ (more : List Step). OneTick ∷ more) f.are;
          good = fires ∷ f.good;
          rest = f.rest;
          lists = ap (λ (more : List (List K)). fires ∷ more) f.lists;
          views = view C next ∷ f.views;
          last = f.last;
          run = Ticked tick f.run;
          wrong = f.wrong;
        })
      ])
]

ticks_among-ticks : (n : ℕ) (steps : List Step) → ticks_among (ticks n steps) ≡ n + ticks_among steps
ticks_among-ticks zero steps = omega arith
ticks_among-ticks (suc n) steps = omega (arith, ticks_among-ticks n steps)

ticks_among-steps_of : (acts : List Act) → ticks_among (steps_of acts) ≡ ticks_in acts
ticks_among-steps_of [] = refl
ticks_among-steps_of (ClickAct pos click ∷ acts) = ticks_among-steps_of acts
ticks_among-steps_of (TicksAct n ∷ acts) = ticks_among-ticks n (steps_of acts) ∙ ap (λ m. n + m) (ticks_among-steps_of acts)

outcome_exists : {K : Type 0} (C : Circuit K) → IsTest C.same → (keys : List K) → IsListed C keys → (acts : List Act) (order : List (List K)) → EachActTaken C acts → length order ≤ ticks_in acts →
    (outcome : Outcome) × Replays C acts order outcome
outcome_exists {K} C test keys listed acts order taken fit =
    elim (runs_or_fails C test keys listed (steps_of acts) (taken-steps_of C acts taken) (start C) order (omega (arith, fit, ticks_among-steps_of acts))) [
      | inl r ↦ (Views (view C (start C) ∷ r.0), (r.1, record { rest = r.0; at_start = refl; run = r.2 }))
      | inr f ↦ (
        Failure (length f.good),
        record {
          done = f.done;
          left = f.left;
          steps = f.are;
          good = f.good;
          rest = f.rest;
          lists = f.lists;
          count = refl;
          views = f.views;
          last = f.last;
          run = f.run;
          wrong = f.wrong;
        },
      )
    ]

-- Each order with no more lists than ticks comes to just one outcome, where the clicks are taken.
pub has_one_outcome : {K : Type 0} (C : Circuit K) → IsTest C.same → StandApart C → (keys : List K) → IsListed C keys → (acts : List Act) (order : List (List K)) → EachActTaken C acts → length order ≤ ticks_in acts →
    HasOneOutcome C acts order
has_one_outcome C test apart keys listed acts order taken fit =
    let o = outcome_exists C test keys listed acts order taken fit in
    record { outcome = o.0; replays = o.1; only = λ other replays. one_outcome C apart acts order other o.0 replays o.1 }
