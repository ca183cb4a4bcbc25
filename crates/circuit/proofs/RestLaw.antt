-- A component that never changes goes, and its key gives from then on what it always gave. All else plays as before, with the order.
use Rattle.std.proofs.Common.{◌≡◌, ◌≢◌, ℕ, ◌+◌, false, List, [], ◌∷◌, ◌++◌, Option, Some, None, refl, sym, ap, subst, ◌∙◌, map, inl, inr}
use Rattle.std.proofs.Math.Path.{fun_ext}
use Rattle.circuit.specs.declared.Component.{Component}
use Rattle.circuit.specs.declared.Readings.{Readings}
use Rattle.circuit.specs.declared.Cell.{Cell}
use Rattle.circuit.specs.declared.Click.{Click}
use Rattle.circuit.specs.declared.Pos.{Pos}
use Rattle.circuit.specs.declared.Act.{Act}
use Rattle.circuit.specs.Component.{out, clicked}
use Rattle.circuit.specs.Circuit.{Circuit, State, outs, put, attended_at, attend, fired_in, fire, fire_all, with_value, set_value, Clicks, later, IsDue, Each, IsFiringList, Ticks, seen, view}
use Rattle.circuit.specs.Shows.{Refines, RefinesBy, Plays}
use Rattle.circuit.specs.Rest.{AgreeBut}
use Rattle.circuit.specs.Events.{EventsAgreeBut}
use Rattle.circuit.specs.Keys.{IsTest}
use Rattle.circuit.proofs.Simulate.{SimulatesBy, simulates_of, refines_by, refines_in_order}
use Rattle.circuit.proofs.Settled.{IsSettled, attended-settled}
use Rattle.circuit.proofs.Matches.{attended_at_alike, fired_at_alike, seen_at_alike}
use Rattle.circuit.proofs.Keys.{cases_key, not_key, each_as, rising_as}

-- A circuit, and what it is when the component under the key is gone.
pub record Rests {K : Type 0} (old new : Circuit K) (key : K) (component : Component) (value : ℕ) : Type 0 where
  pub same : new.same ≡ old.same
  pub there : old.role key ≡ Some component
  pub gone : new.role key ≡ None
  pub begins : (old.begin key).value ≡ value
  pub idle : (old.begin key).due ≡ 0
  pub idle_new : (new.begin key).due ≡ 0
  pub gives : new.base key ≡ out component value
  -- it is settled in each state that holds its value, and takes no click
  pub settled : (s : State K) → (s.cells key).value ≡ value → IsSettled component (old.readings (outs old s) key) (s.cells key)
  pub role : (k : K) → k ≢ key → new.role k ≡ old.role k
  pub first : (k : K) → k ≢ key → new.first k ≡ old.first k
  pub base : (k : K) → k ≢ key → new.base k ≡ old.base k
  pub begin : (k : K) → k ≢ key → new.begin k ≡ old.begin k
  pub place : (k : K) → k ≢ key → new.place k ≡ old.place k
  pub reads : (given : K → ℕ) (k : K) → k ≢ key → new.readings given k ≡ old.readings given k
  pub shown : new.shown ≡ old.shown
  pub unseen : Each (λ k. k ≢ key) old.shown

-- What is given is the same everywhere.
outs-agree : {K : Type 0} {old new : Circuit K} {key : K} {component : Component} {value : ℕ} → Rests old new key component value → IsTest old.same → (s2 s1 : State K) → AgreeBut key value s2 s1 → outs new s2 ≡ outs old s1
outs-agree {K} {old} {new} {key} {component} {value} r test s2 s1 a = fun_ext at
  where
    at : (k : K) → outs new s2 k ≡ outs old s1 k
    at k = elim (cases_key test k key) [
      | inl e ↦ rw (e, r.gone, r.there, r.gives, a.rests) refl
      | inr n ↦ rw (r.role k n, r.base k n, a.others k n) refl
    ]

reads-agree : {K : Type 0} {old new : Circuit K} {key : K} {component : Component} {value : ℕ} → Rests old new key component value → IsTest old.same → (s2 s1 : State K) → AgreeBut key value s2 s1 →
    (k : K) → k ≢ key → new.readings (outs new s2) k ≡ old.readings (outs old s1) k
reads-agree {K} {old} {new} r test s2 s1 a k n = ap (λ (given : K → ℕ). new.readings given k) (outs-agree r test s2 s1 a) ∙ r.reads (outs old s1) k n

attend_agrees : {K : Type 0} {old new : Circuit K} {key : K} {component : Component} {value : ℕ} → Rests old new key component value → IsTest old.same → (s2 s1 : State K) → AgreeBut key value s2 s1 →
    AgreeBut key value (attend new s2) (attend old s1)
attend_agrees {K} {old} {new} {key} {component} {value} r test s2 s1 a = record {
  time = a.time;
  others = λ k n. rw (r.role k n, r.first k n, a.others k n, a.time)
      (attended_at_alike (old.role k) (old.first k) s1.time (new.readings (outs new s2)) (old.readings (outs old s1)) k k (s1.cells k) (reads-agree r test s2 s1 a k n));
  rests = ap (λ (c : Cell). c.value) still ∙ a.rests;
  idle = ap (λ (c : Cell). c.due) still ∙ a.idle;
  idle_new = rw r.gone a.idle_new;
}
  where
    still : (attend old s1).cells key ≡ s1.cells key
    still = ap (λ (role : Option Component). attended_at s1.time role (old.first key) (old.readings (outs old s1)) key (s1.cells key)) r.there
        ∙ attended-settled s1.time component (old.first key) (old.readings (outs old s1) key) (s1.cells key) (r.settled s1 a.rests)

put_agrees : {K : Type 0} {old new : Circuit K} {key : K} {component : Component} {value : ℕ} → Rests old new key component value → IsTest old.same → (s2 s1 : State K) → AgreeBut key value s2 s1 →
    (k : K) → k ≢ key → (c2 c1 : Cell) → c2 ≡ c1 → AgreeBut key value (put new s2 k c2) (put old s1 k c1)
put_agrees {K} {old} {new} {key} r test s2 s1 a k n c2 c1 e = record {
  time = a.time;
  others = λ j d. rw (r.same, e, a.others j d) refl;
  rests = rw other a.rests;
  idle = rw other a.idle;
  idle_new = rw (r.same, other) a.idle_new;
}
  where
    other : old.same key k ≡ false
    other = not_key test key k (λ x. n (sym x))

fire_agrees : {K : Type 0} {old new : Circuit K} {key : K} {component : Component} {value : ℕ} → Rests old new key component value → IsTest old.same → (s2 s1 : State K) → AgreeBut key value s2 s1 →
    (k : K) → k ≢ key → AgreeBut key value (fire new s2 k) (fire old s1 k)
fire_agrees {K} {old} {new} r test s2 s1 a k n =
    let fires : fired_in new s2 k ≡ fired_in old s1 k =
    rw (r.role k n, r.first k n, a.others k n, a.time)
    (fired_at_alike (old.role k) (old.first k) s1.time (new.readings (outs new s2)) (old.readings (outs old s1)) k k (s1.cells k) (reads-agree r test s2 s1 a k n)) in
    attend_agrees r test (put new s2 k (fired_in new s2 k)) (put old s1 k (fired_in old s1 k)) (put_agrees r test s2 s1 a k n (fired_in new s2 k) (fired_in old s1 k) fires)

pub fire_all_agrees : {K : Type 0} {old new : Circuit K} {key : K} {component : Component} {value : ℕ} → Rests old new key component value → IsTest old.same → (keys : List K) → Each (λ k. k ≢ key) keys →
    (s2 s1 : State K) → AgreeBut key value s2 s1 → AgreeBut key value (fire_all new s2 keys) (fire_all old s1 keys)
fire_all_agrees r test [] n s2 s1 a = a
fire_all_agrees {K} {old} {new} r test (k ∷ keys) n s2 s1 a = fire_all_agrees r test keys n.1 (fire new s2 k) (fire old s1 k) (fire_agrees r test s2 s1 a k n.0)

due_in_old : {K : Type 0} {old new : Circuit K} {key : K} {component : Component} {value : ℕ} → Rests old new key component value → (s2 s1 : State K) → AgreeBut key value s2 s1 →
    (k : K) → IsDue new s2 k → (k ≢ key) × IsDue old s1 k
due_in_old {K} {old} {new} {key} r s2 s1 a k d = (
  n,
  record {
    component = d.component;
    there = sym (r.role k n) ∙ d.there;
    waits = λ z. d.waits (ap (λ (c : Cell). c.due) (a.others k n) ∙ z);
    now = ap (λ (c : Cell). c.due) (sym (a.others k n)) ∙ d.now ∙ a.time;
  },
)
  where
    n : k ≢ key
    n e = let none : Some d.component ≡ None = sym d.there ∙ ap new.role e ∙ r.gone in absurd (cc)

due_in_new : {K : Type 0} {old new : Circuit K} {key : K} {component : Component} {value : ℕ} → Rests old new key component value → (s2 s1 : State K) → AgreeBut key value s2 s1 →
    (k : K) → IsDue old s1 k → IsDue new s2 k
due_in_new {K} {old} {new} {key} r s2 s1 a k d = record {
  component = d.component;
  there = r.role k n ∙ d.there;
  waits = λ z. d.waits (ap (λ (c : Cell). c.due) (sym (a.others k n)) ∙ z);
  now = ap (λ (c : Cell). c.due) (a.others k n) ∙ d.now ∙ sym a.time;
}
  where
    n : k ≢ key
    n e = d.waits (ap (λ (j : K). (s1.cells j).due) e ∙ a.idle)

later_agrees : {K : Type 0} {key : K} {value : ℕ} (s2 s1 : State K) → AgreeBut key value s2 s1 → AgreeBut key value (later s2) (later s1)
later_agrees s2 s1 a = record { time = ap (λ n. n + 1) a.time; others = a.others; rests = a.rests; idle = a.idle; idle_new = a.idle_new }

fires_agree : {K : Type 0} {old new : Circuit K} {key : K} {component : Component} {value : ℕ} → Rests old new key component value → (s2 s1 : State K) → AgreeBut key value s2 s1 → (keys : List K) →
    IsFiringList new s2 keys → IsFiringList old s1 keys × Each (λ k. k ≢ key) keys
fires_agree {K} {old} {new} {key} r s2 s1 a keys f = (
  record {
    due = each_as (λ k. (k ≢ key) × IsDue old s1 k) (IsDue old s1) (λ k p. p.1) keys both;
    all = λ k d. f.all k (due_in_new r s2 s1 a k d);
    once = f.once;
    rising = rising_as (λ k. (s2.cells k).priority) (λ k. (s1.cells k).priority) keys
        (each_as (λ k. k ≢ key) (λ k. (s2.cells k).priority ≡ (s1.cells k).priority) (λ k n. ap (λ (c : Cell). c.priority) (a.others k n)) keys apart) f.rising;
  },
  apart,
)
  where
    both : Each (λ k. (k ≢ key) × IsDue old s1 k) keys
    both = each_as (IsDue new s2) (λ k. (k ≢ key) × IsDue old s1 k) (due_in_old r s2 s1 a) keys f.due

    apart : Each (λ k. k ≢ key) keys
    apart = each_as (λ k. (k ≢ key) × IsDue old s1 k) (λ k. k ≢ key) (λ k p. p.0) keys both

map_but : {K A : Type 0} (P : K → Type 0) (f g : K → A) → ((k : K) → P k → f k ≡ g k) → (keys : List K) → Each P keys → map f keys ≡ map g keys
map_but P f g h [] l = refl
map_but P f g h (k ∷ keys) l = λ i. h k l.0 i ∷ map_but P f g h keys l.1 i

-- The law with the order: the firing lists are the same.
pub rests_simulates : {K : Type 0} {old new : Circuit K} {key : K} {component : Component} {value : ℕ} → Rests old new key component value → IsTest old.same → SimulatesBy old new (λ keys. keys) (AgreeBut key value)
rests_simulates {K} {old} {new} {key} {component} {value} r test = record {
  begins = attend_agrees r test (record { time = 0; cells = new.begin }) (record { time = 0; cells = old.begin })
      (record { time = refl; others = r.begin; rests = r.begins; idle = r.idle; idle_new = r.idle_new });
  views = λ s2 s1 a. ap (map (seen new s2)) r.shown ∙ map_but (λ k. k ≢ key) (seen new s2) (seen old s1) (one s2 s1 a) old.shown r.unseen;
  clicks = λ pos click s2 s1 t2 a c.
      let n : c.key ≢ key = λ e. gone c.component (sym c.there ∙ ap new.role e ∙ r.gone) in
      let cells : s2.cells c.key ≡ s1.cells c.key = a.others c.key n in (
        set_value old s1 c.key c.value,
        record {
          key = c.key;
          component = c.component;
          value = c.value;
          there = sym (r.role c.key n) ∙ c.there;
          place = sym (r.place c.key n) ∙ c.place;
          takes = ap (λ (x : Cell). clicked c.component click x.value) (sym cells) ∙ c.takes;
          after = refl;
        },
        subst (λ (x : State K). AgreeBut key value x (set_value old s1 c.key c.value)) (sym c.after)
            (attend_agrees r test (put new s2 c.key (with_value (s2.cells c.key) c.value)) (put old s1 c.key (with_value (s1.cells c.key) c.value))
            (put_agrees r test s2 s1 a c.key n (with_value (s2.cells c.key) c.value) (with_value (s1.cells c.key) c.value) (ap (λ (x : Cell). with_value x c.value) cells))),
      );
  ticks = λ fires s2 s1 t2 a c.
      let b : AgreeBut key value (later s2) (later s1) = later_agrees s2 s1 a in
      let f = fires_agree r (later s2) (later s1) b fires c.order in (
        fire_all old (later s1) fires,
        record { order = f.0; after = refl },
        subst (λ (x : State K). AgreeBut key value x (fire_all old (later s1) fires)) (sym c.after) (fire_all_agrees r test fires f.1 (later s2) (later s1) b),
      );
}
  where
    gone : (component : Component) → Some component ≡ None → ⊥
    gone component e = cc

    one : (s2 s1 : State K) → AgreeBut key value s2 s1 → (k : K) → k ≢ key → seen new s2 k ≡ seen old s1 k
    one s2 s1 a k n = rw (r.role k n, a.others k n)
        (seen_at_alike (old.role k) (new.readings (outs new s2)) (old.readings (outs old s1)) k k (s1.cells k) (reads-agree r test s2 s1 a k n))

pub rests_refines : {K : Type 0} {old new : Circuit K} {key : K} {component : Component} {value : ℕ} → Rests old new key component value → IsTest old.same → Refines old new
rests_refines r test = refines_by (simulates_of (rests_simulates r test))

pub rests_in_order : {K : Type 0} {old new : Circuit K} {key : K} {component : Component} {value : ℕ} → Rests old new key component value → IsTest old.same → RefinesBy old new (λ order. order) (AgreeBut key value)
rests_in_order {K} {old} {new} {key} {component} {value} r test = record {
  plays = λ acts order views last p.
      let q = (refines_in_order (rests_simulates r test)).plays acts order views last p in
      (q.0, subst (λ (o : List (List K)). Plays old acts o views q.0) (itself order) q.1, q.2);
}
  where
    itself : (order : List (List K)) → map (λ (keys : List K). keys) order ≡ order
    itself [] = refl
    itself (keys ∷ order) = ap (λ (rest : List (List K)). keys ∷ rest) (itself order)

-- and so it is after each firing
pub rests_at_events : {K : Type 0} {old new : Circuit K} {key : K} {component : Component} {value : ℕ} → Rests old new key component value → IsTest old.same → EventsAgreeBut key value old new
rests_at_events {K} {old} {new} {key} {component} {value} r test = record {
  fires = λ s2 s1 a done left f.
      let b : AgreeBut key value (later s2) (later s1) = later_agrees s2 s1 a in
      fire_all_agrees r test done (front done left (fires_agree r (later s2) (later s1) b (done ++ left) f).1) (later s2) (later s1) b;
}
  where
    front : (done left : List K) → Each (λ k. k ≢ key) (done ++ left) → Each (λ k. k ≢ key) done
    front [] left e = tt
    front (k ∷ done) left e = (e.0, front done left e.1)
