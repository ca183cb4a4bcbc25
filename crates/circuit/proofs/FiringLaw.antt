-- A tick, one firing after another: what is due falls by what fired, and the keys in their order are a firing list.
use Rattle.std.proofs.Common.{◌≡◌, ℕ, ◌+◌, ◌<◌, ◌≤◌, Bool, true, false, List, Option, Some, None, refl, sym, ◌∙◌, subst, arith, cond, ◌≢◌, inl, inr}
use Rattle.std.proofs.lemmas.Bool.{cases_eq, ne_eqb}
use Rattle.circuit.specs.declared.Component.{Component}
use Rattle.circuit.specs.declared.Readings.{Readings}
use Rattle.circuit.specs.declared.Cell.{Cell}
use Rattle.circuit.specs.Component.{gets_tick, fires_again, delay_of}
use Rattle.circuit.specs.Circuit.{Circuit, State, outs, put, attended_at, fired_at, fired_in, fire, IsDue, Each, IsFiringList}
use Rattle.circuit.specs.Firing.{Fires, NoneDue, FiresNext}
use Rattle.circuit.proofs.Settled.{delay_above}
use Rattle.circuit.specs.Keys.{IsTest}
use Rattle.circuit.proofs.Keys.{cases_key, not_key, each_as, rising_as}

-- a pending tick stays as it is when all attend
pending_stays : {K : Type 0} (time : ℕ) (role : Option Component) (first : Bool) (reads : K → Readings) (k : K) (cell : Cell) → cell.due ≢ 0 →
    ((attended_at time role first reads k cell).due ≡ cell.due) × ((attended_at time role first reads k cell).priority ≡ cell.priority)
pending_stays time None first reads k cell h = (refl, refl)
pending_stays time (Some component) first reads k cell h = rw (ne_eqb cell.due 0 h) (refl, refl)

-- attending makes nothing due now
not_now : {K : Type 0} (time : ℕ) (role : Option Component) (first : Bool) (reads : K → Readings) (k : K) (cell : Cell) → cell.due ≢ time → (attended_at time role first reads k cell).due ≢ time
not_now time None first reads k cell h = h
not_now time (Some component) first reads k cell h = go (gets_tick component (reads k) cell)
  where
    go : (b : Bool) → cond b (time + delay_of component) cell.due ≢ time
    go true = λ e. omega (arith, delay_above component)
    go false = h

-- nor does firing
fired_not_now : {K : Type 0} (time : ℕ) (role : Option Component) (first : Bool) (reads : K → Readings) (k : K) (cell : Cell) → 0 < time → (component : Component) → role ≡ Some component → (fired_at time role first reads k cell).due ≢ time
fired_not_now time None first reads k cell t component there = absurd (cc)
fired_not_now time (Some c) first reads k cell t component there = go (fires_again c (reads k) cell.value)
  where
    go : (b : Bool) → cond b (time + delay_of c) 0 ≢ time
    go true = λ e. omega (arith, delay_above c)
    go false = λ e. omega arith

-- What fired isn't due any more.
pub fired_is_not_due : {K : Type 0} (C : Circuit K) → IsTest C.same → (s : State K) (key : K) → 0 < s.time → IsDue C (fire C s key) key → ⊥
fired_is_not_due {K} C t s key positive d =
    not_now s.time (C.role key) (C.first key) (C.readings (outs C mid)) key (mid.cells key)
    (subst (λ (c : Cell). c.due ≢ s.time) (sym held) (fired_not_now s.time (C.role key) (C.first key) (C.readings (outs C s)) key (s.cells key) positive d.component d.there)) d.now
  where
    mid : State K
    mid = put C s key (fired_in C s key)

    held : mid.cells key ≡ fired_in C s key
    held = rw (t.itself key) refl

-- A firing makes nothing due in its own tick.
pub fire_makes_none_due : {K : Type 0} (C : Circuit K) → IsTest C.same → (s : State K) (key : K) → 0 < s.time → (k : K) → IsDue C (fire C s key) k → (k ≢ key) × IsDue C s k
fire_makes_none_due {K} C t s key positive k d = (other, record { component = d.component; there = d.there; waits = waits; now = now })
  where
    mid : State K
    mid = put C s key (fired_in C s key)

    other : k ≢ key
    other h = fired_is_not_due C t s key positive (subst (IsDue C (fire C s key)) h d)

    held : mid.cells k ≡ s.cells k
    held = rw (not_key t k key other) refl

    now : (s.cells k).due ≡ s.time
    now = elim (cases_eq (s.cells k).due s.time) [
      | inl h ↦ h
      | inr n ↦ absurd (not_now s.time (C.role k) (C.first k) (C.readings (outs C mid)) k (mid.cells k) (subst (λ (c : Cell). c.due ≢ s.time) (sym held) n) d.now)
    ]

    waits : (s.cells k).due ≢ 0
    waits h = omega (arith, now, positive)

positive_where_due : {K : Type 0} (C : Circuit K) (s : State K) (key : K) → IsDue C s key → 0 < s.time
positive_where_due C s key d = let w : (s.cells key).due ≢ 0 = d.waits in let n : (s.cells key).due ≡ s.time = d.now in omega arith

-- a pending tick of another key stays as it is
pub same_tick : {K : Type 0} (C : Circuit K) → IsTest C.same → (s : State K) (key k : K) → k ≢ key → (s.cells k).due ≢ 0 → (((fire C s key).cells k).due ≡ (s.cells k).due) × (((fire C s key).cells k).priority ≡ (s.cells k).priority)
same_tick C t s key k n w = rw (not_key t k key n) (pending_stays s.time (C.role k) (C.first k) (C.readings (outs C (put C s key (fired_in C s key)))) k (s.cells k) w)

-- What is due and doesn't fire stays due.
pub still_due : {K : Type 0} (C : Circuit K) → IsTest C.same → (s : State K) (key k : K) → k ≢ key → IsDue C s k → IsDue C (fire C s key) k
still_due C t s key k n d =
    let e = same_tick C t s key k n d.waits in
    record { component = d.component; there = d.there; waits = λ h. d.waits (sym e.0 ∙ h); now = e.0 ∙ d.now }

-- What fires one by one, least priority first, until nothing is due, is a firing list of the state at its start.
pub fires_is_firing_list : {K : Type 0} (C : Circuit K) → IsTest C.same → (s : State K) (keys : List K) → Fires C s keys → IsFiringList C s keys
fires_is_firing_list C t s keys (NoneDue h) = record { due = tt; all = λ k d. absurd (h k d); once = tt; rising = tt }
fires_is_firing_list {K} C t s keys (FiresNext {keys = more} key d least rest) =
    let f = fires_is_firing_list C t (fire C s key) more rest in
    let before : Each (λ k. (k ≢ key) × IsDue C s k) more = each_as (IsDue C (fire C s key)) (λ k. (k ≢ key) × IsDue C s k) (fire_makes_none_due C t s key (positive_where_due C s key d)) more f.due in
    record {
      due = (d, each_as (λ k. (k ≢ key) × IsDue C s k) (IsDue C s) (λ k p. p.1) more before);
      all = λ k e. elim (cases_key t k key) [ inl h ↦ inl h | inr n ↦ inr (f.all k (still_due C t s key k n e)) ];
      once = (each_as (λ k. (k ≢ key) × IsDue C s k) (λ k. key ≢ k) (λ k p h. p.0 (sym h)) more before, f.once);
      rising = (
        each_as (λ k. (k ≢ key) × IsDue C s k) (λ k. (s.cells key).priority ≤ (s.cells k).priority) (λ k p. least k p.1) more before,
        rising_as (λ k. ((fire C s key).cells k).priority) (λ k. (s.cells k).priority) more
            (each_as (λ k. (k ≢ key) × IsDue C s k) (λ k. ((fire C s key).cells k).priority ≡ (s.cells k).priority) (λ k p. (same_tick C t s key k p.0 (p.1).waits).1) more before) f.rising,
      );
    }
