-- A tick line by line: what may fire next, told by the state now and by that in which the tick began, and when the tick is whole.
use Rattle.std.proofs.Common.{◌≡◌, ◌≢◌, ◌<◌, ◌≤◌, List, [], ◌∷◌, ◌++◌, refl, sym, ◌∙◌, ap, subst, arith, inl, inr}
use Rattle.circuit.specs.Circuit.{Circuit, State, IsDue, Each, Among, IsFiringList, fire, fire_all}
use Rattle.circuit.specs.Firing.{Fires, NoneDue, FiresNext}
use Rattle.circuit.specs.Keys.{IsTest}
use Rattle.circuit.proofs.Keys.{each_as, rising_as}
use Rattle.circuit.proofs.FiringLaw.{fire_makes_none_due, still_due, same_tick, fires_is_firing_list}
use Rattle.world_order.specs.Begun.{IsNext, Begins, IsLawful, IsLeft, IsAmiss, FiredBefore, WaitsNot, ComesLater}

late : {K : Type 0} (C : Circuit K) (s : State K) (key : K) → IsDue C s key → 0 < s.time
late C s key d = let w : (s.cells key).due ≢ 0 = d.waits in let n : (s.cells key).due ≡ s.time = d.now in omega arith

-- ---- what is due now

-- What is due after some have fired was due, and isn't one of them.
pub due_before : {K : Type 0} (C : Circuit K) → IsTest C.same → (s : State K) (fired : List K) → Begins C s fired → (k : K) → IsDue C (fire_all C s fired) k → IsLeft C s fired k
due_before C t s [] b k d = record { due = d; fresh = λ h. h }
due_before C t s (key ∷ more) b k d =
    let r = due_before C t (fire C s key) more b.1 k d in
    let one = fire_makes_none_due C t s key (late C s key b.0.due) k r.due in
    record { due = one.1; fresh = λ a. elim a [ inl e ↦ one.0 e | inr m ↦ r.fresh m ] }

-- What was due and isn't one of them is due still, with its priority.
pub due_after : {K : Type 0} (C : Circuit K) → IsTest C.same → (s : State K) (fired : List K) → (k : K) → IsLeft C s fired k →
    IsDue C (fire_all C s fired) k × (((fire_all C s fired).cells k).priority ≡ (s.cells k).priority)
due_after C t s [] k l = (l.due, refl)
due_after C t s (key ∷ more) k l =
    let other : k ≢ key = λ e. l.fresh (inl e) in
    let r = due_after C t (fire C s key) more k (record { due = still_due C t s key k other l.due; fresh = λ m. l.fresh (inr m) }) in
    (r.0, r.1 ∙ (same_tick C t s key k other l.due.waits).1)

-- ---- what may fire next

pub next_lawful : {K : Type 0} (C : Circuit K) → IsTest C.same → (s : State K) (fired : List K) → Begins C s fired → (key : K) → IsNext C (fire_all C s fired) key → IsLawful C s fired key
next_lawful {K} C t s fired b key n =
    let l = due_before C t s fired b key n.due in
    let here = due_after C t s fired key l in
    record {
      due = l.due;
      fresh = l.fresh;
      least = λ k d out.
          let there = due_after C t s fired k (record { due = d; fresh = out }) in
          let x : ((fire_all C s fired).cells key).priority ≤ ((fire_all C s fired).cells k).priority = n.least k there.0 in
          let y : ((fire_all C s fired).cells key).priority ≡ (s.cells key).priority = here.1 in
          let z : ((fire_all C s fired).cells k).priority ≡ (s.cells k).priority = there.1 in
          omega arith;
    }

pub lawful_next : {K : Type 0} (C : Circuit K) → IsTest C.same → (s : State K) (fired : List K) → Begins C s fired → (key : K) → IsLawful C s fired key → IsNext C (fire_all C s fired) key
lawful_next {K} C t s fired b key l =
    let here = due_after C t s fired key (record { due = l.due; fresh = l.fresh }) in
    record {
      due = here.0;
      least = λ k d.
          let m = due_before C t s fired b k d in
          let there = due_after C t s fired k m in
          let x : (s.cells key).priority ≤ (s.cells k).priority = l.least k m.due m.fresh in
          let y : ((fire_all C s fired).cells key).priority ≡ (s.cells key).priority = here.1 in
          let z : ((fire_all C s fired).cells k).priority ≡ (s.cells k).priority = there.1 in
          omega arith;
    }

-- ---- one more fires

pub begins_more : {K : Type 0} (C : Circuit K) (s : State K) (fired : List K) (key : K) → Begins C s fired → IsNext C (fire_all C s fired) key → Begins C s (fired ++ key ∷ [])
begins_more C s [] key b n = (n, tt)
begins_more C s (one ∷ fired) key b n = (b.0, begins_more C (fire C s one) fired key b.1 n)

pub begins_front : {K : Type 0} (C : Circuit K) (s : State K) (fired more : List K) → Begins C s (fired ++ more) → Begins C s fired × Begins C (fire_all C s fired) more
begins_front C s [] more b = (tt, b)
begins_front C s (one ∷ fired) more b = let r = begins_front C (fire C s one) fired more b.1 in ((b.0, r.0), r.1)

pub fire_all-more : {K : Type 0} (C : Circuit K) (s : State K) (fired more : List K) → fire_all C s (fired ++ more) ≡ fire_all C (fire_all C s fired) more
fire_all-more C s [] more = refl
fire_all-more C s (one ∷ fired) more = fire_all-more C (fire C s one) fired more

-- ---- whole ticks

none_due : {K : Type 0} (C : Circuit K) (s : State K) (keys : List K) → Begins C s keys → ((k : K) → IsDue C (fire_all C s keys) k → ⊥) → Fires C s keys
none_due C s [] b none = NoneDue none
none_due C s (key ∷ keys) b none = FiresNext key b.0.due b.0.least (none_due C (fire C s key) keys b.1 none)

-- a firing list without its first key is one after that key fired
pub firing_rest : {K : Type 0} (C : Circuit K) → IsTest C.same → (s : State K) (key : K) (more : List K) → IsFiringList C s (key ∷ more) → IsFiringList C (fire C s key) more
firing_rest {K} C t s key more f = record {
  due = each_as (λ k. (key ≢ k) × IsDue C s k) (IsDue C (fire C s key)) (λ k p. still_due C t s key k (λ e. p.0 (sym e)) p.1) more both;
  all = λ k d.
      let was = fire_makes_none_due C t s key (late C s key f.due.0) k d in
      elim (f.all k was.1) [ inl e ↦ absurd (was.0 e) | inr a ↦ a ];
  once = f.once.1;
  rising = rising_as (λ k. (s.cells k).priority) (λ k. ((fire C s key).cells k).priority) more
      (each_as (λ k. (key ≢ k) × IsDue C s k) (λ k. (s.cells k).priority ≡ ((fire C s key).cells k).priority) (λ k p. sym (same_tick C t s key k (λ e. p.0 (sym e)) (p.1).waits).1) more both)
      f.rising.1;
}
  where
    zip : (more : List K) → Each (λ k. key ≢ k) more → Each (IsDue C s) more → Each (λ k. (key ≢ k) × IsDue C s k) more
    zip [] a b = tt
    zip (k ∷ more) a b = ((a.0, b.0), zip more a.1 b.1)

    both : Each (λ k. (key ≢ k) × IsDue C s k) more
    both = zip more f.once.0 f.due.1

each_among : {K : Type 0} (P : K → Type 0) (keys : List K) (k : K) → Each P keys → Among keys k → P k
each_among P (one ∷ keys) k e (inl h) = subst P (sym h) e.0
each_among P (one ∷ keys) k e (inr h) = each_among P keys k e.1 h
each_among P [] k e h = absurd h

pub firing_list_begins : {K : Type 0} (C : Circuit K) → IsTest C.same → (s : State K) (keys : List K) → IsFiringList C s keys → Begins C s keys
firing_list_begins C t s [] f = tt
firing_list_begins C t s (key ∷ more) f = (
  record {
    due = f.due.0;
    least = λ k d. elim (f.all k d) [
      | inl e ↦ (let same : (s.cells k).priority ≡ (s.cells key).priority = ap (λ p. (s.cells p).priority) e in omega arith)
      | inr a ↦ each_among (λ b. (s.cells key).priority ≤ (s.cells b).priority) more k f.rising.0 a
    ];
  },
  firing_list_begins C t (fire C s key) more (firing_rest C t s key more f),
)

-- Keys that have begun a tick are a firing list where no key is due after them.
pub whole_from : {K : Type 0} (C : Circuit K) → IsTest C.same → (s : State K) (keys : List K) → Begins C s keys → ((k : K) → IsDue C (fire_all C s keys) k → ⊥) → IsFiringList C s keys
whole_from C t s keys b none = fires_is_firing_list C t s keys (none_due C s keys b none)

-- and after a firing list none is due
pub whole_none : {K : Type 0} (C : Circuit K) → IsTest C.same → (s : State K) (keys : List K) → IsFiringList C s keys → (k : K) → IsDue C (fire_all C s keys) k → ⊥
whole_none C t s keys f k d =
    let l = due_before C t s keys (firing_list_begins C t s keys f) k d in
    l.fresh (f.all k l.due)

pub firing_list_fires : {K : Type 0} (C : Circuit K) → IsTest C.same → (s : State K) (keys : List K) → IsFiringList C s keys → Fires C s keys
firing_list_fires C t s keys f = none_due C s keys (firing_list_begins C t s keys f) (whole_none C t s keys f)

-- ---- what is amiss

pub amiss_unlawful : {K : Type 0} (C : Circuit K) (s : State K) (fired : List K) (key : K) → IsAmiss C s fired key → IsLawful C s fired key → ⊥
amiss_unlawful C s fired key (FiredBefore h) l = l.fresh h
amiss_unlawful C s fired key (WaitsNot a h) l = h l.due
amiss_unlawful C s fired key (ComesLater here k there less) l = let x : (s.cells key).priority ≤ (s.cells k).priority = l.least k there.due there.fresh in omega arith

-- Where a key isn't lawful, no firing list goes on with it.
pub amiss_no_list : {K : Type 0} (C : Circuit K) → IsTest C.same → (s : State K) (fired : List K) (key : K) (more : List K) → (IsLawful C s fired key → ⊥) → IsFiringList C s (fired ++ key ∷ more) → ⊥
amiss_no_list C t s fired key more un f =
    let r = begins_front C s fired (key ∷ more) (firing_list_begins C t s (fired ++ key ∷ more) f) in
    un (next_lawful C t s fired r.0 key r.1.0)
