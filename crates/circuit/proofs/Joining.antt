-- A run that is cut in two is one run: the end of the first is settled, nothing in it is due, and what happens later happens the same with all times moved on.
use Rattle.std.proofs.Common.{◌≡◌, ◌≢◌, ℕ, zero, suc, ◌+◌, ◌-◌, ◌<◌, ◌≤◌, Bool, true, false, List, [], ◌∷◌, ◌++◌, drop, Option, Some, None, refl, sym, ap, subst, ◌∙◌, map, arith, cond, inl, inr}
use Rattle.std.proofs.Math.Path.{fun_ext}
use Rattle.std.specs.Prelude.{◌==◌}
use Rattle.std.proofs.lemmas.Bool.{cases_Bool, cond_both, cases_eq, ne_eqb, eq-eqb, eqb-true, eqb-false}
use Rattle.circuit.specs.declared.Component.{Component}
use Rattle.circuit.specs.declared.Component.TheVariants.{Wire}
use Rattle.circuit.specs.declared.Readings.{Readings}
use Rattle.circuit.specs.declared.Cell.{Cell}
use Rattle.circuit.specs.declared.Pos.{Pos}
use Rattle.circuit.specs.declared.Click.{Click}
use Rattle.circuit.specs.declared.Act.{Act}
use Rattle.circuit.specs.declared.Act.TheVariants.{Click as ClickAct, Ticks as TicksAct}
use Rattle.circuit.specs.declared.Step.{Step}
use Rattle.circuit.specs.declared.Step.TheVariants.{Click as ClickAt, Tick as OneTick}
use Rattle.circuit.specs.Component.{out, gets_tick, fires_again, delay_of, attended, fired, clicked}
use Rattle.circuit.specs.Circuit.{Circuit, State, outs, out_at, put, attended_at, attend, fired_at, fired_in, fire, fire_all, with_value, set_value, Clicks, later, IsDue, Each, Among, IsFiringList, Ticks, start, seen_at, seen, view}
use Rattle.circuit.specs.Shows.{ticks, steps_of, Run, Ended, Clicked, Ticked, Plays, clicks_in, fires_in}
use Rattle.circuit.specs.Keys.{IsTest}
use Rattle.circuit.specs.Joining.{remaining, GoesOn, due_later, moved_on, IsMovedOn}
use Rattle.circuit.proofs.Settled.{delay_above, IsSettled, attended-settled, settled_attended, outs-attend}
use Rattle.circuit.proofs.Keys.{each_as, rising_as}
use Rattle.circuit.proofs.FiringLaw.{fire_makes_none_due}
use Rattle.circuit.proofs.Runs.{run_then}

-- ---- each state of a run is settled, and what is pending is due later

-- a due time after attending is the one before, or later than the time
due-attended : {K : Type 0} (P : ℕ → Type 0) (time : ℕ) (role : Option Component) (first : Bool) (reads : K → Readings) (k : K) (cell : Cell) →
    P cell.due → ((delay : ℕ) → 0 < delay → P (time + delay)) → P (attended_at time role first reads k cell).due
due-attended P time None first reads k cell held new = held
due-attended P time (Some component) first reads k cell held new = go (gets_tick component (reads k) cell)
  where
    go : (b : Bool) → P (cond b (time + delay_of component) cell.due)
    go true = new (delay_of component) (delay_above component)
    go false = held

-- and so after firing, where it may be 0
due-fired : {K : Type 0} (P : ℕ → Type 0) (time : ℕ) (role : Option Component) (first : Bool) (reads : K → Readings) (k : K) (cell : Cell) →
    P cell.due → P 0 → ((delay : ℕ) → 0 < delay → P (time + delay)) → P (fired_at time role first reads k cell).due
due-fired P time None first reads k cell held none new = held
due-fired P time (Some component) first reads k cell held none new = go (fires_again component (reads k) cell.value)
  where
    go : (b : Bool) → P (cond b (time + delay_of component) 0)
    go true = new (delay_of component) (delay_above component)
    go false = none

-- a due time that isn't past, where 0 is none
abbrev pub NotPast : ℕ → ℕ → Type 0
NotPast time due = due ≢ 0 → time ≤ due

-- a due time that is still to come
abbrev pub ToCome : ℕ → ℕ → Type 0
ToCome time due = due ≢ 0 → time < due

-- each component's due time stands so to the time
pub record Dues {K : Type 0} (R : ℕ → ℕ → Type 0) (C : Circuit K) (s : State K) : Type 0 where
  pub each : (k : K) (component : Component) → C.role k ≡ Some component → R s.time (s.cells k).due

dues_attend : {K : Type 0} (R : ℕ → ℕ → Type 0) → ((time delay : ℕ) → 0 < delay → R time (time + delay)) → (C : Circuit K) (s : State K) → Dues R C s → Dues R C (attend C s)
dues_attend R new C s d = record {
  each = λ k component there. due-attended (R s.time) s.time (C.role k) (C.first k) (C.readings (outs C s)) k (s.cells k) (d.each k component there) (new s.time);
}

dues_put : {K : Type 0} (R : ℕ → ℕ → Type 0) (C : Circuit K) (s : State K) (key : K) (cell : Cell) → Dues R C s → ((component : Component) → C.role key ≡ Some component → R s.time cell.due) →
    IsTest C.same → Dues R C (put C s key cell)
dues_put R C s key cell d held test = record {
  each = λ k component there.
      cond_both (C.same k key) cell (s.cells k) (λ (c : Cell). R s.time c.due)
      (λ e. held component (subst (λ j. C.role j ≡ Some component) (test.one k key e) there)) (λ e. d.each k component there);
}

dues_fire : {K : Type 0} (R : ℕ → ℕ → Type 0) → ((time : ℕ) → R time 0) → ((time delay : ℕ) → 0 < delay → R time (time + delay)) → (C : Circuit K) → IsTest C.same →
    (s : State K) (key : K) → Dues R C s → Dues R C (fire C s key)
dues_fire R none new C test s key d =
    dues_attend R new C (put C s key (fired_in C s key)) (dues_put R C s key (fired_in C s key) d
    (λ component there. due-fired (R s.time) s.time (C.role key) (C.first key) (C.readings (outs C s)) key (s.cells key) (d.each key component there) (none s.time) (new s.time)) test)

dues_fire_all : {K : Type 0} (R : ℕ → ℕ → Type 0) → ((time : ℕ) → R time 0) → ((time delay : ℕ) → 0 < delay → R time (time + delay)) → (C : Circuit K) → IsTest C.same →
    (keys : List K) (s : State K) → Dues R C s → Dues R C (fire_all C s keys)
dues_fire_all R none new C test [] s d = d
dues_fire_all R none new C test (key ∷ keys) s d = dues_fire_all R none new C test keys (fire C s key) (dues_fire R none new C test s key d)

time-fire_all : {K : Type 0} (C : Circuit K) (keys : List K) (s : State K) → (fire_all C s keys).time ≡ s.time
time-fire_all C [] s = refl
time-fire_all C (key ∷ keys) s = time-fire_all C keys (fire C s key)

-- What is due after some fired was due before, and didn't fire.
due_before : {K : Type 0} (C : Circuit K) → IsTest C.same → (keys : List K) (s : State K) → 0 < s.time → (k : K) → IsDue C (fire_all C s keys) k → IsDue C s k × (Among keys k → ⊥)
due_before C test [] s positive k d = (d, λ h. absurd h)
due_before C test (key ∷ keys) s positive k d =
    let a = due_before C test keys (fire C s key) positive k d in
    let b = fire_makes_none_due C test s key positive k a.0 in
    (b.1, λ h. elim h [ inl e ↦ b.0 e | inr m ↦ a.1 m ])

-- what a component reads leaves nothing to attend to
pub record IsAttended {K : Type 0} (C : Circuit K) (s : State K) : Type 0 where
  pub each : (k : K) (component : Component) → C.role k ≡ Some component → IsSettled component (C.readings (outs C s) k) (s.cells k)

pub attended_attend : {K : Type 0} (C : Circuit K) (s : State K) → IsAttended C (attend C s)
attended_attend {K} C s = record { each = λ k component there. rw (outs-attend C s) (one (C.role k) k component there) }
  where
    one : (role : Option Component) (k : K) (component : Component) → role ≡ Some component →
        IsSettled component (C.readings (outs C s) k) (attended_at s.time role (C.first k) (C.readings (outs C s)) k (s.cells k))
    one role k component there = rw there (settled_attended s.time component (C.first k) (C.readings (outs C s) k) (s.cells k))

pub attended_fire_all : {K : Type 0} (C : Circuit K) (keys : List K) (s : State K) → IsAttended C s → IsAttended C (fire_all C s keys)
attended_fire_all C [] s a = a
attended_fire_all C (key ∷ keys) s a = attended_fire_all C keys (fire C s key) (attended_attend C (put C s key (fired_in C s key)))

-- so attending changes nothing
pub attend-attended : {K : Type 0} (C : Circuit K) (s : State K) → IsAttended C s → attend C s ≡ s
attend-attended {K} C s a = λ i. record { time = s.time; cells = λ k. cell (C.role k) k (a.each k) i }
  where
    cell : (role : Option Component) (k : K) → ((component : Component) → role ≡ Some component → IsSettled component (C.readings (outs C s) k) (s.cells k)) →
        attended_at s.time role (C.first k) (C.readings (outs C s)) k (s.cells k) ≡ s.cells k
    cell None k h = refl
    cell (Some component) k h = attended-settled s.time component (C.first k) (C.readings (outs C s) k) (s.cells k) (h component refl)

-- a state between two events
pub record IsCalm {K : Type 0} (C : Circuit K) (s : State K) : Type 0 where
  pub attended : IsAttended C s
  pub ahead : Dues ToCome C s

ahead_none : (time : ℕ) → ToCome time 0
ahead_none time h = absurd (h refl)

ahead_new : (time delay : ℕ) → 0 < delay → ToCome time (time + delay)
ahead_new time delay h n = omega arith

calm_start : {K : Type 0} (C : Circuit K) → IsCalm C (start C)
calm_start C = record {
  attended = attended_attend C (record { time = 0; cells = C.begin });
  ahead = dues_attend ToCome ahead_new C (record { time = 0; cells = C.begin }) (record { each = λ k component there n. omega arith });
}

calm_click : {K : Type 0} (C : Circuit K) → IsTest C.same → {s next : State K} {pos : Pos} {click : Click} → Clicks C pos click s next → IsCalm C s → IsCalm C next
calm_click {K} C test {s} c calm = subst (IsCalm C) (sym c.after) (record {
  attended = attended_attend C clicked_state;
  ahead = dues_attend ToCome ahead_new C clicked_state
      (dues_put ToCome C s c.key (with_value (s.cells c.key) c.value) calm.ahead (λ component there. calm.ahead.each c.key component there) test);
})
  where
    clicked_state : State K
    clicked_state = put C s c.key (with_value (s.cells c.key) c.value)

calm_tick : {K : Type 0} (C : Circuit K) → IsTest C.same → {s next : State K} {fires : List K} → Ticks C fires s next → IsCalm C s → IsCalm C next
calm_tick {K} C test {s} {fires} tick calm = subst (IsCalm C) (sym tick.after) (record {
  attended = attended_fire_all C fires (later s) (record { each = calm.attended.each });
  ahead = record { each = ahead };
})
  where
    fired_state : State K
    fired_state = fire_all C (later s) fires

    begun : Dues NotPast C (later s)
    begun = record { each = λ k component there n. (let h : s.time < (s.cells k).due = calm.ahead.each k component there n in omega arith) }

    ended : Dues NotPast C fired_state
    ended = dues_fire_all NotPast (λ time h. absurd (h refl)) (λ time delay h n. omega arith) C test fires (later s) begun

    ahead : (k : K) (component : Component) → C.role k ≡ Some component → ToCome fired_state.time (fired_state.cells k).due
    ahead k component there n = elim (cases_eq (fired_state.cells k).due fired_state.time) [
      | inl e ↦ (
          let d : IsDue C fired_state k = record { component = component; there = there; waits = n; now = e } in
          let before = due_before C test fires (later s) (omega arith) k d in
          absurd (before.1 (tick.order.all k before.0)))
      | inr e ↦ (let h : fired_state.time ≤ (fired_state.cells k).due = ended.each k component there n in omega arith)
    ]

-- Each run keeps to calm states.
pub calm_run : {K : Type 0} {C : Circuit K} → IsTest C.same → {s last : State K} {steps : List Step} {order : List (List K)} {views : List (List ℕ)} →
    Run C s steps order views last → IsCalm C s → IsCalm C last
calm_run test Ended calm = calm
calm_run {C} test (Clicked click run) calm = calm_run test run (calm_click C test click calm)
calm_run {C} test (Ticked tick run) calm = calm_run test run (calm_tick C test tick calm)

-- ---- what happens later happens the same

due_later-none : (after due : ℕ) → (due_later after due == 0) ≡ (due == 0)
due_later-none after due = elim (cases_Bool (due == 0)) [
  | inl e ↦ rw e refl
  | inr e ↦ rw (e, ne_eqb (due + after) 0 (let n : due ≢ 0 = eqb-false due 0 e in omega arith)) refl
]

due_later-pending : (after due : ℕ) → due ≢ 0 → due_later after due ≡ due + after
due_later-pending after due n = rw (ne_eqb due 0 n) refl

gets_tick-moved : (after : ℕ) (component : Component) (r : Readings) (cell : Cell) → gets_tick component r (moved_on after cell) ≡ gets_tick component r cell
gets_tick-moved after component r cell = rw (due_later-none after cell.due) refl

-- a new tick, or the one before
new_due-moved : (b : Bool) (after time delay due : ℕ) → 0 < delay → cond b (time + after + delay) (due_later after due) ≡ due_later after (cond b (time + delay) due)
new_due-moved true after time delay due h = (let e : time + after + delay ≡ time + delay + after = omega arith in e) ∙ sym (due_later-pending after (time + delay) (omega arith))
new_due-moved false after time delay due h = refl

attended-moved : (after time : ℕ) (component : Component) (first : Bool) (r : Readings) (cell : Cell) →
    attended (time + after) component first r (moved_on after cell) ≡ moved_on after (attended time component first r cell)
attended-moved after time component first r cell = rw (gets_tick-moved after component r cell, new_due-moved (gets_tick component r cell) after time (delay_of component) cell.due (delay_above component)) refl

fired-moved : (after time : ℕ) (component : Component) (first : Bool) (r : Readings) (cell : Cell) →
    fired (time + after) component first r (moved_on after cell) ≡ moved_on after (fired time component first r cell)
fired-moved after time component first r cell = rw (new_due-moved (fires_again component r cell.value) after time (delay_of component) 0 (delay_above component)) refl

-- at a key with or without a component
out-moved : (role : Option Component) (base after : ℕ) (old new : Cell) → ((component : Component) → role ≡ Some component → new ≡ moved_on after old) → out_at role base new ≡ out_at role base old
out-moved None base after old new h = refl
out-moved (Some component) base after old new h = ap (λ (c : Cell). out component c.value) (h component refl)

outs-moved : {K : Type 0} {C : Circuit K} {after : ℕ} {old new : State K} → IsMovedOn C after old new → outs C new ≡ outs C old
outs-moved {C} {after} {old} {new} m = fun_ext (λ k. out-moved (C.role k) (C.base k) after (old.cells k) (new.cells k) (m.cells k))

attended_at-moved : {K : Type 0} (after time : ℕ) (component : Component) (role : Option Component) (first : Bool) (reads : K → Readings) (k : K) (cell : Cell) → role ≡ Some component →
    attended_at (time + after) role first reads k (moved_on after cell) ≡ moved_on after (attended_at time role first reads k cell)
attended_at-moved after time component role first reads k cell there = rw there (attended-moved after time component first (reads k) cell)

fired_at-moved : {K : Type 0} (after time : ℕ) (component : Component) (role : Option Component) (first : Bool) (reads : K → Readings) (k : K) (cell : Cell) → role ≡ Some component →
    fired_at (time + after) role first reads k (moved_on after cell) ≡ moved_on after (fired_at time role first reads k cell)
fired_at-moved after time component role first reads k cell there = rw there (fired-moved after time component first (reads k) cell)

attend_moved : {K : Type 0} {C : Circuit K} {after : ℕ} {old new : State K} → IsMovedOn C after old new → IsMovedOn C after (attend C old) (attend C new)
attend_moved {C} {after} {old} {new} m = record {
  time = m.time;
  cells = λ k component there. rw (outs-moved m, m.cells k component there, m.time)
      (attended_at-moved after old.time component (C.role k) (C.first k) (C.readings (outs C old)) k (old.cells k) there);
}

put_moved : {K : Type 0} {C : Circuit K} {after : ℕ} {old new : State K} → IsMovedOn C after old new → (key : K) (cell moved : Cell) → moved ≡ moved_on after cell →
    IsMovedOn C after (put C old key cell) (put C new key moved)
put_moved {C} {after} {old} {new} m key cell moved e = record {
  time = m.time;
  cells = λ k component there. both (C.same k key) (old.cells k) (new.cells k) (m.cells k component there);
}
  where
    both : (b : Bool) (one other : Cell) → other ≡ moved_on after one → cond b moved other ≡ moved_on after (cond b cell one)
    both true one other h = e
    both false one other h = h

fired-in_moved : {K : Type 0} {C : Circuit K} {after : ℕ} {old new : State K} → IsMovedOn C after old new → (key : K) (component : Component) → C.role key ≡ Some component →
    fired_in C new key ≡ moved_on after (fired_in C old key)
fired-in_moved {C} {after} {old} m key component there = rw (outs-moved m, m.cells key component there, m.time)
    (fired_at-moved after old.time component (C.role key) (C.first key) (C.readings (outs C old)) key (old.cells key) there)

fire_moved : {K : Type 0} {C : Circuit K} {after : ℕ} {old new : State K} → IsMovedOn C after old new → (key : K) (component : Component) → C.role key ≡ Some component →
    IsMovedOn C after (fire C old key) (fire C new key)
fire_moved {C} {old} {new} m key component there = attend_moved (put_moved m key (fired_in C old key) (fired_in C new key) (fired-in_moved m key component there))

-- those that fire are components
fire_all_moved : {K : Type 0} {C : Circuit K} {after : ℕ} (keys : List K) → Each (λ k. (component : Component) × (C.role k ≡ Some component)) keys → {old new : State K} → IsMovedOn C after old new →
    IsMovedOn C after (fire_all C old keys) (fire_all C new keys)
fire_all_moved [] e m = m
fire_all_moved (key ∷ keys) e m = fire_all_moved keys e.1 (fire_moved m key (e.0).0 (e.0).1)

later_moved : {K : Type 0} {C : Circuit K} {after : ℕ} {old new : State K} → IsMovedOn C after old new → IsMovedOn C after (later old) (later new)
later_moved {after} {old} {new} m = record { time = (let e : new.time ≡ old.time + after = m.time in omega arith); cells = m.cells }

due_later-zero : (after due : ℕ) → due_later after due ≡ 0 → due ≡ 0
due_later-zero after due h = eqb-true due 0 (sym (due_later-none after due) ∙ eq-eqb (due_later after due) 0 h)

due_moved : {K : Type 0} {C : Circuit K} {after : ℕ} {old new : State K} → IsMovedOn C after old new → (k : K) → IsDue C old k → IsDue C new k
due_moved {after} {old} {new} m k d =
    let e : (new.cells k).due ≡ due_later after (old.cells k).due = ap (λ (c : Cell). c.due) (m.cells k d.component d.there) in
    let n : (old.cells k).due ≡ old.time = d.now in
    let t : new.time ≡ old.time + after = m.time in
    record {
      component = d.component;
      there = d.there;
      waits = λ h. d.waits (due_later-zero after (old.cells k).due (sym e ∙ h));
      now = e ∙ due_later-pending after (old.cells k).due d.waits ∙ (let s : (old.cells k).due + after ≡ new.time = omega arith in s);
    }

due_unmoved : {K : Type 0} {C : Circuit K} {after : ℕ} {old new : State K} → IsMovedOn C after old new → (k : K) → IsDue C new k → IsDue C old k
due_unmoved {after} {old} {new} m k d =
    let e : (new.cells k).due ≡ due_later after (old.cells k).due = ap (λ (c : Cell). c.due) (m.cells k d.component d.there) in
    let waits : (old.cells k).due ≢ 0 = λ h. d.waits (e ∙ ap (due_later after) h) in
    let p : due_later after (old.cells k).due ≡ (old.cells k).due + after = due_later-pending after (old.cells k).due waits in
    let n : (new.cells k).due ≡ new.time = d.now in
    let t : new.time ≡ old.time + after = m.time in
    record { component = d.component; there = d.there; waits = waits; now = (let s : (old.cells k).due ≡ old.time = omega arith in s) }

firing_list_moved : {K : Type 0} {C : Circuit K} {after : ℕ} {old new : State K} → IsMovedOn C after old new → (keys : List K) → IsFiringList C old keys → IsFiringList C new keys
firing_list_moved {C} {old} {new} m keys f = record {
  due = each_as (IsDue C old) (IsDue C new) (due_moved m) keys f.due;
  all = λ k d. f.all k (due_unmoved m k d);
  once = f.once;
  rising = rising_as (λ k. (old.cells k).priority) (λ k. (new.cells k).priority) keys
      (each_as (IsDue C old) (λ k. (old.cells k).priority ≡ (new.cells k).priority) (λ k d. ap (λ (c : Cell). c.priority) (sym (m.cells k d.component d.there))) keys f.due) f.rising;
}

seen_at-moved : {K : Type 0} (role : Option Component) (reads : K → Readings) (k : K) (after : ℕ) (old new : Cell) → ((component : Component) → role ≡ Some component → new ≡ moved_on after old) →
    seen_at role reads k new ≡ seen_at role reads k old
seen_at-moved None reads k after old new h = refl
seen_at-moved (Some Wire) reads k after old new h = refl
seen_at-moved (Some component) reads k after old new h = ap (λ (c : Cell). c.value) (h component refl)

view-moved : {K : Type 0} {C : Circuit K} {after : ℕ} {old new : State K} → IsMovedOn C after old new → view C new ≡ view C old
view-moved {K} {C} {after} {old} {new} m = ap (λ (f : K → ℕ). map f C.shown) (fun_ext (λ k. one k))
  where
    one : (k : K) → seen C new k ≡ seen C old k
    one k = rw (outs-moved m) (seen_at-moved (C.role k) (C.readings (outs C old)) k after (old.cells k) (new.cells k) (m.cells k))

-- the circuit with other cells before the start, which no event looks at
abbrev pub beginning_with : {K : Type 0} → (K → Cell) → Circuit K → Circuit K
beginning_with begin C = record { same = C.same; role = C.role; first = C.first; base = C.base; begin = begin; place = C.place; readings = C.readings; shown = C.shown }

firing_list_of : {K : Type 0} {C : Circuit K} (begin : K → Cell) (s : State K) (keys : List K) → IsFiringList (beginning_with begin C) s keys → IsFiringList C s keys
firing_list_of {C} begin s keys f = record {
  due = each_as (IsDue (beginning_with begin C) s) (IsDue C s) (λ k d. record { component = d.component; there = d.there; waits = d.waits; now = d.now }) keys f.due;
  all = λ k d. f.all k (record { component = d.component; there = d.there; waits = d.waits; now = d.now });
  once = f.once;
  rising = f.rising;
}

-- From a state that is moved on the same happens, to an end that is moved on.
run_moved : {K : Type 0} {C : Circuit K} {after : ℕ} (begin : K → Cell) → {old last : State K} {steps : List Step} {order : List (List K)} {views : List (List ℕ)} →
    Run (beginning_with begin C) old steps order views last → (new : State K) → IsMovedOn C after old new → (end : State K) × IsMovedOn C after last end × Run C new steps order views end
run_moved begin Ended new m = (new, m, Ended)
run_moved {K} {C} {after} begin {old} (Clicked {next} {pos} {click} c run) new m =
    let moved : IsMovedOn C after next (set_value C new c.key c.value) =
    subst (λ t. IsMovedOn C after t (set_value C new c.key c.value)) (sym c.after) (attend_moved
    (put_moved m c.key (with_value (old.cells c.key) c.value) (with_value (new.cells c.key) c.value) (ap (λ (x : Cell). with_value x c.value) (m.cells c.key c.component c.there)))) in
    let r = run_moved begin run (set_value C new c.key c.value) moved in
    let hit : Clicks C pos click new (set_value C new c.key c.value) = record {
      key = c.key;
      component = c.component;
      value = c.value;
      there = c.there;
      place = c.place;
      takes = subst (λ (x : Cell). clicked c.component click x.value ≡ Some c.value) (sym (m.cells c.key c.component c.there)) c.takes;
      after = refl;
    } in
    (r.0, r.1, rw (← view-moved moved) (Clicked hit r.2))
run_moved {K} {C} {after} begin {old} (Ticked {next} {fires} tick run) new m =
    let list : IsFiringList C (later old) fires = firing_list_of begin (later old) fires tick.order in
    let components : Each (λ k. (component : Component) × (C.role k ≡ Some component)) fires =
    each_as (IsDue C (later old)) (λ k. (component : Component) × (C.role k ≡ Some component)) (λ k d. (d.component, d.there)) fires list.due in
    let moved : IsMovedOn C after next (fire_all C (later new) fires) =
    subst (λ t. IsMovedOn C after t (fire_all C (later new) fires)) (sym tick.after) (fire_all_moved fires components (later_moved m)) in
    let r = run_moved begin run (fire_all C (later new) fires) moved in
    let same : Ticks C fires new (fire_all C (later new) fires) = record { order = firing_list_moved (later_moved m) fires list; after = refl } in
    (r.0, r.1, rw (← view-moved moved) (Ticked same r.2))

-- ---- the whole

-- what goes on is the circuit with its own cells before the start
goes-on : {K : Type 0} {C D : Circuit K} {s : State K} → GoesOn C s D → D ≡ beginning_with D.begin C
goes-on {C} {D} g = λ i. record {
  same = fun_ext (λ a. fun_ext (λ b. g.same a b)) i;
  role = fun_ext (λ k. g.role k) i;
  first = fun_ext (λ k. g.first k) i;
  base = fun_ext (λ k. g.base k) i;
  begin = D.begin;
  place = fun_ext (λ k. g.place k) i;
  readings = fun_ext (λ given. fun_ext (λ k. g.readings given k)) i;
  shown = g.shown i;
}

-- a tick that is still to come is so again where time counts from 0
due-remaining : (time due : ℕ) → ToCome time due → due_later time (due - time) ≡ due
due-remaining time due ahead = elim (cases_eq due 0) [
  | inl e ↦ (let z : due - time ≡ 0 = omega arith in ap (due_later time) z ∙ sym e)
  | inr n ↦ (let h : time < due = ahead n in due_later-pending time (due - time) (omega arith) ∙ (let s : due - time + time ≡ due = omega arith in s))
]

-- so the start of what goes on is the last state, once this is moved back
start_moved : {K : Type 0} {C D : Circuit K} {last : State K} → IsCalm C last → GoesOn C last D → IsMovedOn C last.time (start (beginning_with D.begin C)) last
start_moved {K} {C} {D} {last} calm g = subst (IsMovedOn C last.time (start (beginning_with D.begin C))) (attend-attended C last calm.attended) (attend_moved before)
  where
    begun : State K
    begun = record { time = 0; cells = D.begin }

    cell : (k : K) (component : Component) → C.role k ≡ Some component → last.cells k ≡ moved_on last.time (remaining last.time (last.cells k))
    cell k component there = λ i. record {
      value = (last.cells k).value;
      due = sym (due-remaining last.time (last.cells k).due (calm.ahead.each k component there)) i;
      priority = (last.cells k).priority;
    }

    before : IsMovedOn C last.time begun last
    before = record {
      time = (let e : last.time ≡ 0 + last.time = omega arith in e);
      cells = λ k component there. cell k component there ∙ ap (moved_on last.time) (sym (g.begin k component there));
    }

ticks-then : (n : ℕ) (steps more : List Step) → ticks n (steps ++ more) ≡ ticks n steps ++ more
ticks-then zero steps more = refl
ticks-then (suc n) steps more = ap (λ (t : List Step). OneTick ∷ t) (ticks-then n steps more)

steps_of-then : (acts more : List Act) → steps_of (acts ++ more) ≡ steps_of acts ++ steps_of more
steps_of-then [] more = refl
steps_of-then (ClickAct pos click ∷ acts) more = ap (λ (t : List Step). ClickAt pos click ∷ t) (steps_of-then acts more)
steps_of-then (TicksAct n ∷ acts) more = ap (ticks n) (steps_of-then acts more) ∙ ticks-then n (steps_of acts) (steps_of more)

pub clicks_in-then : (acts more : List Act) → clicks_in (acts ++ more) ≡ clicks_in acts + clicks_in more
clicks_in-then [] more = omega arith
clicks_in-then (ClickAct pos click ∷ acts) more = let e : clicks_in (acts ++ more) ≡ clicks_in acts + clicks_in more = clicks_in-then acts more in omega arith
clicks_in-then (TicksAct n ∷ acts) more = clicks_in-then acts more

pub fires_in-then : {K : Type 0} (order more : List (List K)) → fires_in (order ++ more) ≡ fires_in order + fires_in more
fires_in-then [] more = omega arith
fires_in-then (fires ∷ order) more = let e : fires_in (order ++ more) ≡ fires_in order + fires_in more = fires_in-then order more in omega arith

-- Both runs one after the other are a run.
pub plays_joined : {K : Type 0} (C D : Circuit K) → IsTest C.same → (acts : List Act) (order : List (List K)) (views : List (List ℕ)) (last : State K) → Plays C acts order views last →
    GoesOn C last D → (more_acts : List Act) (more_order : List (List K)) (more_views : List (List ℕ)) (end : State K) → Plays D more_acts more_order more_views end →
    (joined : State K) × IsMovedOn C last.time end joined × Plays C (acts ++ more_acts) (order ++ more_order) (views ++ drop 1 more_views) joined
plays_joined {K} C D test acts order views last one g more_acts more_order more_views end two =
    let calm : IsCalm C last = calm_run test one.run (calm_start C) in
    let second : Run (beginning_with D.begin C) (start (beginning_with D.begin C)) (steps_of more_acts) more_order two.rest end =
    subst (λ (E : Circuit K). Run E (start E) (steps_of more_acts) more_order two.rest end) (goes-on g) two.run in
    let moved = run_moved D.begin second last (start_moved calm g) in
    let whole : Run C (start C) (steps_of (acts ++ more_acts)) (order ++ more_order) (one.rest ++ two.rest) moved.0 =
    subst (λ (steps : List Step). Run C (start C) steps (order ++ more_order) (one.rest ++ two.rest) moved.0) (sym (steps_of-then acts more_acts)) (run_then one.run moved.2) in (
      moved.0,
      moved.1,
      record { rest = one.rest ++ two.rest; at_start = rw (one.at_start, two.at_start) refl; run = whole },
    )
