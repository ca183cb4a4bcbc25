-- Every run can be finished: each state has a firing list, and each click that is taken leads on.
use Rattle.std.proofs.Common.{◌≡◌, ◌≢◌, ℕ, zero, suc, ◌+◌, Bool, true, false, not, ◌&&◌, List, [], ◌∷◌, ◌++◌, length, Option, Some, None, refl, ap, inl}
use Rattle.std.specs.Prelude.{cond, ◌==◌, nat_lt, nat_le}
use Rattle.std.proofs.lemmas.Bool.{false≢true, and_parts, not-true, eq-eqb, ne_eqb, eqb-true, eqb-false}
use Rattle.circuit.specs.declared.Component.{Component}
use Rattle.circuit.specs.declared.Component.TheVariants.{Lever, Button, Plate, Weighted}
use Rattle.circuit.specs.declared.Click.{Click}
use Rattle.circuit.specs.declared.Click.TheVariants.{Use, Press, Leave, Weigh}
use Rattle.circuit.specs.declared.Cell.{Cell}
use Rattle.circuit.specs.declared.Act.{Act}
use Rattle.circuit.specs.declared.Act.TheVariants.{Click as ClickAct, Ticks as TicksAct}
use Rattle.circuit.specs.declared.Pos.{Pos}
use Rattle.circuit.specs.Component.{takes, clicked}
use Rattle.circuit.specs.Circuit.{Circuit, State, fire_all, set_value, Clicks, later, IsDue, Each, IsFiringList, Ticks, start, view}
use Rattle.circuit.specs.Firing.{due_at}
use Rattle.circuit.specs.Keys.{IsListed}
pub use Rattle.circuit.specs.PutLast.{due_among}
use Rattle.circuit.specs.declared.Step.{Step}
use Rattle.circuit.specs.declared.Step.TheVariants.{Click as ClickAt, Tick as OneTick}
use Rattle.circuit.specs.Shows.{ticks, steps_of, Run, Ended, Clicked, Ticked, clicks_in, fires_in, Plays, Shows}
use Rattle.circuit.specs.Taken.{Takes, EachTaken, EachActTaken}
use Rattle.circuit.proofs.Keys.{put_all_last, each_put_all_last, among_put_all_last, once_put_all_last, rising_put_all_last, each_filter, among_filter, once_filter}

pub due_at-true : (role : Option Component) (cell : Cell) (time : ℕ) → due_at role cell time ≡ true → (component : Component) × (role ≡ Some component) × (cell.due ≢ 0) × (cell.due ≡ time)
due_at-true None cell time h = absurd (false≢true h)
due_at-true (Some component) cell time h =
    let parts : (not (cell.due == 0) ≡ true) × ((cell.due == time) ≡ true) = and_parts (not (cell.due == 0)) (cell.due == time) h in
    (component, refl, eqb-false cell.due 0 (not-true (cell.due == 0) parts.0), eqb-true cell.due time parts.1)

pub due_at_from : (component : Component) (cell : Cell) (time : ℕ) → cell.due ≢ 0 → cell.due ≡ time → due_at (Some component) cell time ≡ true
due_at_from component cell time a b = rw (ne_eqb cell.due 0 a, eq-eqb cell.due time b) refl

-- the keys that are due, in the order of their priorities
abbrev pub due_in_order : {K : Type 0} → List K → Circuit K → State K → List K
due_in_order keys C s = put_all_last (λ k. (s.cells k).priority) (due_among keys C s) []

-- Each state has a firing list.
pub firing_list_exists : {K : Type 0} {C : Circuit K} {keys : List K} → IsListed C keys → (s : State K) → IsFiringList C s (due_in_order keys C s)
firing_list_exists {K} {C} {keys} listed s = record {
  due = each_put_all_last (IsDue C s) priority due []
      (each_filter (λ k. Unit {0}) (IsDue C s) test
      (λ k u h. let d = due_at-true (C.role k) (s.cells k) s.time h in record { component = d.0; there = d.1; waits = d.2; now = d.3 }) keys (each_is keys)) tt;
  all = λ k d. among_put_all_last priority due [] k
      (inl (among_filter test keys k (listed.all k d.component d.there) (rw d.there (due_at_from d.component (s.cells k) s.time d.waits d.now))));
  once = once_put_all_last priority due [] (once_filter test keys listed.once) (nothing_there due) tt;
  rising = rising_put_all_last priority due [] tt;
}
  where
    priority : K → ℕ
    priority k = (s.cells k).priority

    test : K → Bool
    test k = due_at (C.role k) (s.cells k) s.time

    due : List K
    due = due_among keys C s

    each_is : (more : List K) → Each (λ k. Unit {0}) more
    each_is [] = tt
    each_is (k ∷ more) = (tt, each_is more)

    nothing_there : (more : List K) → Each (λ m. Each (λ k. k ≢ m) []) more
    nothing_there [] = tt
    nothing_there (m ∷ more) = (tt, nothing_there more)

-- From each state a tick is possible.
pub tick_exists : {K : Type 0} {C : Circuit K} {keys : List K} → IsListed C keys → (s : State K) → (fires : List K) × (next : State K) × Ticks C fires s next
tick_exists {K} {C} {keys} listed s =
    let fires : List K = due_in_order keys C (later s) in
    (fires, fire_all C (later s) fires, record { order = firing_list_exists listed (later s); after = refl })

-- What a component takes makes a value of each value, and nothing else does.
pub clicked_where_taken : (component : Component) (click : Click) (value : ℕ) → takes component click ≡ true → (new : ℕ) × (clicked component click value ≡ Some new)
clicked_where_taken Lever Use value h = (_, refl)
clicked_where_taken (Button delay) Use value h = (_, refl)
clicked_where_taken Plate Press value h = (_, refl)
clicked_where_taken Plate Leave value h = (_, refl)
clicked_where_taken Weighted (Weigh weight) value h = (weight, rw h refl)
clicked_where_taken Weighted Leave value h = (_, refl)
clicked_where_taken _ _ value h = absurd (cc)

pub taken_where_clicked : (component : Component) (click : Click) (value new : ℕ) → clicked component click value ≡ Some new → takes component click ≡ true
taken_where_clicked Lever Use value new e = refl
taken_where_clicked (Button delay) Use value new e = refl
taken_where_clicked Plate Press value new e = refl
taken_where_clicked Plate Leave value new e = refl
taken_where_clicked Weighted (Weigh weight) value new e = weighed (nat_lt 0 weight && nat_le weight 15) e
  where
    weighed : (b : Bool) → cond b (Some weight) None ≡ Some new → b ≡ true
    weighed true e = refl
    weighed false e = absurd (cc)
taken_where_clicked Weighted Leave value new e = refl
taken_where_clicked _ _ value new e = absurd (cc)

-- From each state a click that is taken is possible, and no other.
pub click_exists : {K : Type 0} {C : Circuit K} {pos : Pos} {click : Click} → Takes C pos click → (s : State K) → (next : State K) × Clicks C pos click s next
click_exists {K} {C} {pos} {click} t s =
    let c = clicked_where_taken t.component click (s.cells t.key).value t.taken in
    (set_value C s t.key c.0, record { key = t.key; component = t.component; value = c.0; there = t.there; place = t.place; takes = c.1; after = refl })

pub takes_where_clicks : {K : Type 0} {C : Circuit K} {pos : Pos} {click : Click} {s next : State K} → Clicks C pos click s next → Takes C pos click
takes_where_clicks {click} {s} c = record { key = c.key; component = c.component; there = c.there; place = c.place; taken = taken_where_clicked c.component click (s.cells c.key).value c.value c.takes }

-- From each state there is a run of all steps whose clicks are taken.
pub run_exists : {K : Type 0} {C : Circuit K} {keys : List K} → IsListed C keys → (steps : List Step) → EachTaken C steps → (s : State K) →
    (order : List (List K)) × (views : List (List ℕ)) × (last : State K) × Run C s steps order views last
run_exists listed [] taken s = ([], [], s, Ended)
run_exists listed (ClickAt pos click ∷ steps) taken s =
    let c = click_exists taken.0 s in
    let r = run_exists listed steps taken.1 c.0 in
    (r.0, _, r.2, Clicked c.1 r.3)
run_exists listed (OneTick ∷ steps) taken s =
    let t = tick_exists listed s in
    let r = run_exists listed steps taken t.1 in
    (t.0 ∷ r.0, _, r.2, Ticked t.2 r.3)

-- A script whose clicks are taken asks for steps whose clicks are taken.
pub taken-ticks : {K : Type 0} (C : Circuit K) (n : ℕ) (steps : List Step) → EachTaken C steps → EachTaken C (ticks n steps)
taken-ticks C zero steps taken = taken
taken-ticks C (suc n) steps taken = taken-ticks C n steps taken

pub taken-steps_of : {K : Type 0} (C : Circuit K) (acts : List Act) → EachActTaken C acts → EachTaken C (steps_of acts)
taken-steps_of C [] taken = tt
taken-steps_of C (ClickAct pos click ∷ acts) taken = (taken.0, taken-steps_of C acts taken.1)
taken-steps_of C (TicksAct n ∷ acts) taken = taken-ticks C n (steps_of acts) (taken-steps_of C acts taken)

-- A script whose clicks are taken can be played to its end, and so shows something.
pub plays_exists : {K : Type 0} {C : Circuit K} {keys : List K} → IsListed C keys → (acts : List Act) → EachActTaken C acts →
    (order : List (List K)) × (views : List (List ℕ)) × (last : State K) × Plays C acts order views last
plays_exists {C} listed acts taken =
    let r = run_exists listed (steps_of acts) (taken-steps_of C acts taken) (start C) in
    (r.0, view C (start C) ∷ r.1, r.2, record { rest = r.1; at_start = refl; run = r.3 })

pub shows_exists : {K : Type 0} {C : Circuit K} {keys : List K} → IsListed C keys → (acts : List Act) → EachActTaken C acts →
    (views : List (List ℕ)) × (events : ℕ) × Shows C acts views events
shows_exists listed acts taken =
    let p = plays_exists listed acts taken in
    (p.1, clicks_in acts + fires_in p.0, record { order = p.0; last = p.2; plays = p.3; count = refl })

-- One run after another is a run.
pub run_then : {K : Type 0} {C : Circuit K} {s mid last : State K} {steps more : List Step} {order order2 : List (List K)} {views views2 : List (List ℕ)} →
    Run C s steps order views mid → Run C mid more order2 views2 last → Run C s (steps ++ more) (order ++ order2) (views ++ views2) last
run_then Ended run = run
run_then (Clicked click first) run = Clicked click (run_then first run)
run_then (Ticked tick first) run = Ticked tick (run_then first run)

-- A run shows one view after each step.
pub length-run : {K : Type 0} {C : Circuit K} {s last : State K} {steps : List Step} {order : List (List K)} {views : List (List ℕ)} →
    Run C s steps order views last → length views ≡ length steps
length-run Ended = refl
length-run (Clicked click run) = ap suc (length-run run)
length-run (Ticked tick run) = ap suc (length-run run)
