-- Two components that always do the same become one: its firing stands for theirs, one right after the other.
use Rattle.std.proofs.Common.{◌≡◌, ◌≢◌, ℕ, ◌+◌, ◌≤◌, Bool, List, [], ◌∷◌, Option, Some, None, refl, sym, ap, ap₂, ◌∙◌, subst, arith, map, ◌⊎◌, inl, inr, if◌then◌else◌}
use Rattle.std.proofs.Math.Path.{fun_ext}
use Rattle.std.proofs.lemmas.Bool.{cases_lt}
use Rattle.circuit.specs.declared.Component.{Component}
use Rattle.circuit.specs.declared.Readings.{Readings}
use Rattle.circuit.specs.declared.Cell.{Cell}
use Rattle.circuit.specs.declared.Pos.{Pos}
use Rattle.circuit.specs.declared.Click.{Click}
use Rattle.circuit.specs.Component.{goal, locked, attended, fired_value, fires_again, fired, clicked}
use Rattle.circuit.specs.Circuit.{Circuit, State, outs, out_at, put, attended_at, attend, fired_at, fired_in, fire, fire_all, with_value, set_value, Clicks, later, IsDue, Each, EachBefore, Among, IsFiringList, Ticks, seen, view}
use Rattle.circuit.specs.Bounds.{BoundedAt, Bounded, IsBounded}
use Rattle.circuit.specs.Shows.{RefinesBy}
use Rattle.circuit.specs.Keys.{IsTest}
use Rattle.circuit.specs.KeySteps.{cases_key, is_key, not_key, each_as, rising_as}
use Rattle.circuit.specs.Settled.{IsSettled, attended-settled, settled_attended, outs-attend}
use Rattle.circuit.specs.Simulate.{SimulatesBy, refines_in_order}
use Rattle.circuit.specs.Matches.{attended_at_alike, fired_at_alike, seen_at_alike}
use Rattle.circuit.specs.Bounded.{bounded_is_invariant, put_bounded}
use Rattle.circuit.specs.Between.{Path3, attended_twice}

-- a component makes the same of these two readings
pub record ActsAs (component : Component) (r q : Readings) : Type 0 where
  pub goals : goal component r ≡ goal component q
  pub locks : locked component r ≡ locked component q
  pub fires : (value : ℕ) → fired_value component r value ≡ fired_value component q value
  pub again : (value : ℕ) → fires_again component r value ≡ fires_again component q value

-- What each key gives where first one of two keys changes and then the other: both give more, or both give less.
pub record Moves {K : Type 0} (keep gone : K) (rest mid last : K → ℕ) : Type 0 where
  pub early : (k : K) → k ≢ keep → mid k ≡ rest k
  pub late : (k : K) → k ≢ gone → last k ≡ mid k
  pub way : ((k : K) → (rest k ≤ mid k) × (mid k ≤ last k)) ⊎ ((k : K) → (last k ≤ mid k) × (mid k ≤ rest k))

-- A circuit, and what it becomes where `keep` takes the part of `gone`.
pub record Merged {K : Type 0} (keep gone : K) (old new : Circuit K) : Type 0 where
  pub differ : keep ≢ gone
  pub same : new.same ≡ old.same
  pub dropped : new.role gone ≡ None
  pub role : (k : K) → k ≢ gone → new.role k ≡ old.role k
  pub first : (k : K) → k ≢ gone → new.first k ≡ old.first k
  pub base : (k : K) → k ≢ gone → new.base k ≡ old.base k
  pub begin : (k : K) → k ≢ gone → new.begin k ≡ old.begin k
  pub place : (k : K) → k ≢ gone → new.place k ≡ old.place k
  -- the two are one component, which begins alike and takes no click
  pub component : Component
  pub there : old.role keep ≡ Some component
  pub twin_there : old.role gone ≡ Some component
  pub twin_first : old.first gone ≡ old.first keep
  pub twin_begin : old.begin gone ≡ old.begin keep
  pub unclicked : (click : Click) (value result : ℕ) → clicked component click value ≡ Some result → ⊥
  -- where both are given the same, each other key reads in the new circuit what it reads in the old one
  pub reads : (given2 given1 : K → ℕ) → given1 gone ≡ given1 keep → ((k : K) → k ≢ gone → given2 k ≡ given1 k) →
      (k : K) → k ≢ gone → new.readings given2 k ≡ old.readings given1 k
  -- the two read neither of them, and make the same of what they read
  pub apart : (one two : K → ℕ) → ((k : K) → k ≢ keep → k ≢ gone → one k ≡ two k) →
      (old.readings one keep ≡ old.readings two keep) × (old.readings one gone ≡ old.readings two gone)
  pub alike : (s : State K) → Bounded old s → ActsAs component (old.readings (outs old s) keep) (old.readings (outs old s) gone)
  -- between the firings of the two each other key reads what it read, or what it will read, or lies between in one group alone
  pub path : (rest mid last : K → ℕ) → Moves keep gone rest mid last → (k : K) → k ≢ keep → k ≢ gone →
      Path3 (old.readings rest k) (old.readings mid k) (old.readings last k)
  pub shown : new.shown ≡ old.shown
  pub seen : Each (λ k. k ≢ gone) old.shown

-- The states have equal values, pending ticks and times at all keys but one, which holds in the old circuit what its twin holds.
pub record TwinStates {K : Type 0} (keep gone : K) (s2 s1 : State K) : Type 0 where
  pub time : s2.time ≡ s1.time
  pub cells : (k : K) → k ≢ gone → s2.cells k ≡ s1.cells k
  pub twin : s1.cells gone ≡ s1.cells keep

-- the list with one key put right after another
abbrev pub with_twin : {K : Type 0} → (K → K → Bool) → K → K → List K → List K
with_twin same keep gone [] = []
with_twin same keep gone (key ∷ keys) = if same key keep then key ∷ gone ∷ with_twin same keep gone keys else key ∷ with_twin same keep gone keys

-- They are so, all has attended in the old circuit, and its values are within their bounds.
pub record Settles {K : Type 0} (keep gone : K) (old : Circuit K) (s2 s1 : State K) : Type 0 where
  pub twins : TwinStates keep gone s2 s1
  pub settled : (k : K) (component : Component) → old.role k ≡ Some component → IsSettled component (old.readings (outs old s1) k) (s1.cells k)
  pub bound : Bounded old s1

-- what is given and read in twin states
outs_twins : {K : Type 0} {keep gone : K} {old new : Circuit K} → Merged keep gone old new → (s2 s1 : State K) → TwinStates keep gone s2 s1 → (k : K) → k ≢ gone → outs new s2 k ≡ outs old s1 k
outs_twins m s2 s1 a k n = rw (m.role k n, m.base k n, a.cells k n) refl

outs_of_both : {K : Type 0} {keep gone : K} {old new : Circuit K} → Merged keep gone old new → (s2 s1 : State K) → TwinStates keep gone s2 s1 → outs old s1 gone ≡ outs old s1 keep
outs_of_both m s2 s1 a = rw (m.twin_there, m.there, a.twin) refl

reads_twins : {K : Type 0} {keep gone : K} {old new : Circuit K} → Merged keep gone old new → (s2 s1 : State K) → TwinStates keep gone s2 s1 → (k : K) → k ≢ gone →
    new.readings (outs new s2) k ≡ old.readings (outs old s1) k
reads_twins {old} {new} m s2 s1 a k n = m.reads (outs new s2) (outs old s1) (outs_of_both m s2 s1 a) (outs_twins m s2 s1 a) k n

-- the pair attends and fires alike
attended_acts : (time : ℕ) (component : Component) (first : Bool) (r q : Readings) (cell : Cell) → ActsAs component r q → attended time component first q cell ≡ attended time component first r cell
attended_acts time component first r q cell h = rw (h.goals, h.locks) refl

fired_acts : (time : ℕ) (component : Component) (first : Bool) (r q : Readings) (cell : Cell) → ActsAs component r q → fired time component first q cell ≡ fired time component first r cell
fired_acts time component first r q cell h = rw (h.fires cell.value, h.again cell.value) refl

attended_pair : {K : Type 0} (time : ℕ) (role twin : Option Component) (component : Component) (first twin_first : Bool) (reads twin_reads : K → Readings) (k j : K) (cell twin_cell : Cell) →
    role ≡ Some component → twin ≡ Some component → twin_first ≡ first → twin_cell ≡ cell → ActsAs component (reads k) (twin_reads j) →
    attended_at time twin twin_first twin_reads j twin_cell ≡ attended_at time role first reads k cell
attended_pair time role twin component first twin_first reads twin_reads k j cell twin_cell a b c d h =
    rw (a, b, c, d) (attended_acts time component first (reads k) (twin_reads j) cell h)

fired_pair : {K : Type 0} (time : ℕ) (role twin : Option Component) (component : Component) (first twin_first : Bool) (reads twin_reads : K → Readings) (k j : K) (cell : Cell) →
    role ≡ Some component → twin ≡ Some component → twin_first ≡ first → ActsAs component (reads k) (twin_reads j) →
    fired_at time twin twin_first twin_reads j cell ≡ fired_at time role first reads k cell
fired_pair time role twin component first twin_first reads twin_reads k j cell a b c h =
    rw (a, b, c) (fired_acts time component first (reads k) (twin_reads j) cell h)

settled_at : {K : Type 0} (time : ℕ) (role : Option Component) (first : Bool) (reads : K → Readings) (k : K) (cell : Cell) (component : Component) → role ≡ Some component →
    IsSettled component (reads k) (attended_at time role first reads k cell)
settled_at time None first reads k cell component there = absurd (cc)
settled_at time (Some c) first reads k cell component there =
    let same : c ≡ component = cc in
    subst (λ x. IsSettled x (reads k) (attended time c first (reads k) cell)) same (settled_attended time c first (reads k) cell)

still_at : {K : Type 0} (time : ℕ) (role : Option Component) (first : Bool) (reads : K → Readings) (k : K) (cell : Cell) →
    ((component : Component) → role ≡ Some component → IsSettled component (reads k) cell) → attended_at time role first reads k cell ≡ cell
still_at time None first reads k cell h = refl
still_at time (Some c) first reads k cell h = attended-settled time c first (reads k) cell (h c refl)

-- twin states settle where all attend
attend_twins : {K : Type 0} {keep gone : K} {old new : Circuit K} → Merged keep gone old new → IsTest old.same → IsBounded old → (s2 s1 : State K) → TwinStates keep gone s2 s1 → Bounded old s1 →
    Settles keep gone old (attend new s2) (attend old s1)
attend_twins {K} {keep} {gone} {old} {new} m test within s2 s1 a bound = record {
  twins = record {
    time = a.time;
    cells = λ k n.
        rw (m.role k n, m.first k n, a.cells k n, a.time)
        (attended_at_alike (old.role k) (old.first k) s1.time (new.readings (outs new s2)) (old.readings (outs old s1)) k k (s1.cells k) (reads_twins m s2 s1 a k n));
    twin = attended_pair s1.time (old.role keep) (old.role gone) m.component (old.first keep) (old.first gone) (old.readings (outs old s1)) (old.readings (outs old s1)) keep gone (s1.cells keep) (s1.cells gone)
        m.there m.twin_there m.twin_first a.twin (m.alike s1 bound);
  };
  settled = λ k component there.
      subst (λ given. IsSettled component (old.readings given k) ((attend old s1).cells k)) (sym (outs-attend old s1))
      (settled_at s1.time (old.role k) (old.first k) (old.readings (outs old s1)) k (s1.cells k) component there);
  bound = (bounded_is_invariant old test within).attends s1 bound;
}

put_twins : {K : Type 0} {keep gone : K} {old new : Circuit K} → Merged keep gone old new → IsTest old.same → (s2 s1 : State K) (key : K) (c2 c1 : Cell) → TwinStates keep gone s2 s1 → key ≢ keep → key ≢ gone → c2 ≡ c1 →
    TwinStates keep gone (put new s2 key c2) (put old s1 key c1)
put_twins {keep} {gone} m test s2 s1 key c2 c1 a nk ng e = record {
  time = a.time;
  cells = λ k n. rw (m.same, e, a.cells k n) refl;
  twin = rw (not_key test gone key (λ h. ng (sym h)), not_key test keep key (λ h. nk (sym h))) a.twin;
}

fired_twins : {K : Type 0} {keep gone : K} {old new : Circuit K} → Merged keep gone old new → (s2 s1 : State K) → TwinStates keep gone s2 s1 → (k : K) → k ≢ gone → fired_in new s2 k ≡ fired_in old s1 k
fired_twins {old} {new} m s2 s1 a k n = rw (m.role k n, m.first k n, a.cells k n, a.time)
    (fired_at_alike (old.role k) (old.first k) s1.time (new.readings (outs new s2)) (old.readings (outs old s1)) k k (s1.cells k) (reads_twins m s2 s1 a k n))

-- another key fires in both circuits
fire_other : {K : Type 0} {keep gone : K} {old new : Circuit K} → Merged keep gone old new → IsTest old.same → IsBounded old → (s2 s1 : State K) → Settles keep gone old s2 s1 → (key : K) → key ≢ keep → key ≢ gone →
    Settles keep gone old (fire new s2 key) (fire old s1 key)
fire_other {old} {new} m test within s2 s1 t key nk ng =
    attend_twins m test within (put new s2 key (fired_in new s2 key)) (put old s1 key (fired_in old s1 key))
    (put_twins m test s2 s1 key (fired_in new s2 key) (fired_in old s1 key) t.twins nk ng (fired_twins m s2 s1 t.twins key ng))
    ((bounded_is_invariant old test within).fires s1 key t.bound)

-- what is given after one key changed
outs_put_other : {K : Type 0} (C : Circuit K) → IsTest C.same → (s : State K) (key : K) (c : Cell) (k : K) → k ≢ key → outs C (put C s key c) k ≡ outs C s k
outs_put_other C test s key c k n = rw (not_key test k key n) refl

outs_put_same : {K : Type 0} (C : Circuit K) → IsTest C.same → (s : State K) (key : K) (c : Cell) → outs C (put C s key c) key ≡ out_at (C.role key) (C.base key) c
outs_put_same C test s key c = rw (test.itself key) refl

put_out_up : {K : Type 0} (C : Circuit K) → IsTest C.same → (s : State K) (key : K) (c : Cell) → outs C s key ≤ out_at (C.role key) (C.base key) c → (k : K) → outs C s k ≤ outs C (put C s key c) k
put_out_up C test s key c h k = elim (cases_key test k key) [
  | inl e ↦ subst (λ j. outs C s j ≤ outs C (put C s key c) j) (sym e) (omega (arith, h, outs_put_same C test s key c))
  | inr n ↦ omega (arith, outs_put_other C test s key c k n)
]

put_out_down : {K : Type 0} (C : Circuit K) → IsTest C.same → (s : State K) (key : K) (c : Cell) → out_at (C.role key) (C.base key) c ≤ outs C s key → (k : K) → outs C (put C s key c) k ≤ outs C s k
put_out_down C test s key c h k = elim (cases_key test k key) [
  | inl e ↦ subst (λ j. outs C (put C s key c) j ≤ outs C s j) (sym e) (omega (arith, h, outs_put_same C test s key c))
  | inr n ↦ omega (arith, outs_put_other C test s key c k n)
]

out_of_pair : (role twin : Option Component) (component : Component) (base twin_base : ℕ) (c : Cell) → role ≡ Some component → twin ≡ Some component → out_at twin twin_base c ≡ out_at role base c
out_of_pair role twin component base twin_base c a b = rw (a, b) refl

moves : {K : Type 0} {keep gone : K} {old new : Circuit K} → Merged keep gone old new → IsTest old.same → (s2 s1 : State K) → TwinStates keep gone s2 s1 → (c : Cell) →
    Moves keep gone (outs old s1) (outs old (put old s1 keep c)) (outs old (put old (put old s1 keep c) gone c))
moves {K} {keep} {gone} {old} m test s2 s1 a c = record {
  early = outs_put_other old test s1 keep c;
  late = outs_put_other old test mid gone c;
  way = elim (cases_lt (outs old s1 keep) (out_at (old.role keep) (old.base keep) c)) [
    | inl h ↦ inl (λ k. (put_out_up old test s1 keep c (omega (arith, h)) k, put_out_up old test mid gone c (omega (arith, h, before, gives)) k))
    | inr h ↦ inr (λ k. (put_out_down old test mid gone c (omega (arith, h, before, gives)) k, put_out_down old test s1 keep c (omega (arith, h)) k))
  ];
}
  where
    mid : State K
    mid = put old s1 keep c

    before : outs old mid gone ≡ outs old s1 keep
    before = outs_put_other old test s1 keep c gone (λ e. m.differ (sym e)) ∙ outs_of_both m s2 s1 a

    gives : out_at (old.role gone) (old.base gone) c ≡ out_at (old.role keep) (old.base keep) c
    gives = out_of_pair (old.role keep) (old.role gone) m.component (old.base keep) (old.base gone) c m.there m.twin_there

-- attending again to the same changes nothing
attended_again : (time : ℕ) (component : Component) (first : Bool) (mid last : Readings) (cell : Cell) → last ≡ mid → attended time component first last (attended time component first mid cell) ≡ attended time component first last cell
attended_again time component first mid last cell e =
    rw e (attended-settled time component first mid (attended time component first mid cell) (settled_attended time component first mid cell))

-- The firings of the two, one right after the other, are as if both had changed and then all attended once.
pair_is_both : {K : Type 0} {keep gone : K} {old new : Circuit K} → Merged keep gone old new → IsTest old.same → (s2 s1 : State K) → Settles keep gone old s2 s1 →
    fire old (fire old s1 keep) gone ≡ attend old (put old (put old s1 keep (fired_in old s1 keep)) gone (fired_in old s1 keep))
pair_is_both {K} {keep} {gone} {old} {new} m test s2 s1 t = λ i. record { time = s1.time; cells = λ k. cell k i }
  where
    c : Cell
    c = fired_in old s1 keep

    mid : State K
    mid = put old s1 keep c

    last : State K
    last = put old mid gone c

    -- both read what they read
    source_mid : old.readings (outs old mid) gone ≡ old.readings (outs old s1) gone
    source_mid = (m.apart (outs old mid) (outs old s1) (λ k nk ng. outs_put_other old test s1 keep c k nk)).1

    source_last : old.readings (outs old last) keep ≡ old.readings (outs old mid) keep
    source_last = (m.apart (outs old last) (outs old mid) (λ k nk ng. outs_put_other old test mid gone c k ng)).0

    -- in between the second holds what it held
    held : mid.cells gone ≡ s1.cells gone
    held = rw (not_key test gone keep (λ e. m.differ (sym e))) refl

    rest : (fire old s1 keep).cells gone ≡ s1.cells gone
    rest = ap (λ (x : Cell). attended_at s1.time (old.role gone) (old.first gone) (old.readings (outs old mid)) gone x) held
        ∙ still_at s1.time (old.role gone) (old.first gone) (old.readings (outs old mid)) gone (s1.cells gone)
        (λ component there. subst (λ r. IsSettled component r (s1.cells gone)) (sym source_mid) (t.settled gone component there))

    -- and fires to the same
    fires : fired_in old (fire old s1 keep) gone ≡ c
    fires = ap₂ (λ (reads : K → Readings) (x : Cell). fired_at s1.time (old.role gone) (old.first gone) reads gone x) (ap old.readings (outs-attend old mid)) (rest ∙ t.twins.twin)
        ∙ fired_pair s1.time (old.role keep) (old.role gone) m.component (old.first keep) (old.first gone) (old.readings (outs old s1)) (old.readings (outs old mid)) keep gone (s1.cells keep)
        m.there m.twin_there m.twin_first (subst (λ q. ActsAs m.component (old.readings (outs old s1) keep) q) (sym source_mid) (m.alike s1 t.bound))

    ends : State K
    ends = put old (fire old s1 keep) gone (fired_in old (fire old s1 keep) gone)

    gives : (k : K) → outs old ends k ≡ outs old last k
    gives k = elim (cases_key test k gone) [
      | inl e ↦ rw (is_key test k gone e) (ap (out_at (old.role k) (old.base k)) fires)
      | inr n ↦ rw (not_key test k gone n) (ap (λ (f : K → ℕ). f k) (outs-attend old mid))
    ]

    same_outs : outs old ends ≡ outs old last
    same_outs = fun_ext gives

    twice : (k : K) → k ≢ gone → (role : Option Component) → old.role k ≡ role →
        attended_at s1.time role (old.first k) (old.readings (outs old last)) k (attended_at s1.time role (old.first k) (old.readings (outs old mid)) k (mid.cells k))
        ≡ attended_at s1.time role (old.first k) (old.readings (outs old last)) k (mid.cells k)
    twice k ng None there = refl
    twice k ng (Some component) there = elim (cases_key test k keep) [
      | inl e ↦ attended_again s1.time component (old.first k) (old.readings (outs old mid) k) (old.readings (outs old last) k) (mid.cells k)
          (subst (λ j. old.readings (outs old last) j ≡ old.readings (outs old mid) j) (sym e) source_last)
      | inr nk ↦
          subst (λ (x : Cell). attended s1.time component (old.first k) (old.readings (outs old last) k) (attended s1.time component (old.first k) (old.readings (outs old mid) k) x)
          ≡ attended s1.time component (old.first k) (old.readings (outs old last) k) x)
          (sym (not_there k nk))
          (attended_twice s1.time component (old.first k) (old.readings (outs old s1) k) (old.readings (outs old mid) k) (old.readings (outs old last) k) (s1.cells k)
          (m.path (outs old s1) (outs old mid) (outs old last) (moves m test s2 s1 t.twins c) k nk ng) (t.settled k component there))
    ]
      where
        not_there : (k : K) → k ≢ keep → mid.cells k ≡ s1.cells k
        not_there k n = rw (not_key test k keep n) refl

    cell : (k : K) → (fire old (fire old s1 keep) gone).cells k ≡ (attend old last).cells k
    cell k = ap (λ (reads : K → Readings). attended_at s1.time (old.role k) (old.first k) reads k (ends.cells k)) (ap old.readings same_outs)
        ∙ elim (cases_key test k gone) [
          | inl e ↦ ap (attended_at s1.time (old.role k) (old.first k) (old.readings (outs old last)) k) (rw (is_key test k gone e) fires)
          | inr n ↦ rw (not_key test k gone n) (twice k n (old.role k) refl)
        ]

bounded_as : (role twin : Option Component) (component : Component) (c : Cell) → role ≡ Some component → twin ≡ Some component → BoundedAt role c → BoundedAt twin c
bounded_as role twin component c a b h = subst (λ r. BoundedAt r c) (a ∙ sym b) h

-- A firing of the kept key stands for that of both.
fire_pair : {K : Type 0} {keep gone : K} {old new : Circuit K} → Merged keep gone old new → IsTest old.same → IsBounded old → (s2 s1 : State K) → Settles keep gone old s2 s1 →
    Settles keep gone old (fire new s2 keep) (fire old (fire old s1 keep) gone)
fire_pair {K} {keep} {gone} {old} {new} m test within s2 s1 t =
    subst (Settles keep gone old (fire new s2 keep)) (sym (pair_is_both m test s2 s1 t))
    (attend_twins m test within (put new s2 keep (fired_in new s2 keep)) (put old mid gone c)
    (record {
      time = t.twins.time;
      cells = λ k n.
          ap (λ (f : K → K → Bool). if f k keep then fired_in new s2 keep else s2.cells k) m.same
          ∙ ap₂ (λ (x : Cell) (y : Cell). if old.same k keep then x else y) (fired_twins m s2 s1 t.twins keep m.differ) (t.twins.cells k n)
          ∙ sym (other k n);
      twin = rw (test.itself gone, not_key test keep gone m.differ, test.itself keep) refl;
    })
    (put_bounded old test mid gone c kept (bounded_as (old.role keep) (old.role gone) m.component c m.there m.twin_there (subst (BoundedAt (old.role keep)) here (kept.each keep)))))
  where
    c : Cell
    c = fired_in old s1 keep

    mid : State K
    mid = put old s1 keep c

    kept : Bounded old mid
    kept = (bounded_is_invariant old test within).fires s1 keep t.bound

    here : mid.cells keep ≡ c
    here = rw (test.itself keep) refl

    other : (k : K) → k ≢ gone → (put old mid gone c).cells k ≡ mid.cells k
    other k n = rw (not_key test k gone n) refl

-- So a firing list of the new circuit stands for the list with the second right after the first.
pub fire_all_twins : {K : Type 0} {keep gone : K} {old new : Circuit K} → Merged keep gone old new → IsTest old.same → IsBounded old → (keys : List K) (s2 s1 : State K) → Each (λ k. k ≢ gone) keys → Settles keep gone old s2 s1 →
    Settles keep gone old (fire_all new s2 keys) (fire_all old s1 (with_twin old.same keep gone keys))
fire_all_twins m test within [] s2 s1 n t = t
fire_all_twins {K} {keep} {gone} {old} {new} m test within (key ∷ keys) s2 s1 n t = elim (cases_key test key keep) [
  | inl e ↦ rw (is_key test key keep e) (fire_all_twins m test within keys (fire new s2 key) (fire old (fire old s1 key) gone) n.1
      (subst (λ k. Settles keep gone old (fire new s2 k) (fire old (fire old s1 k) gone)) (sym e) (fire_pair m test within s2 s1 t)))
  | inr d ↦ rw (not_key test key keep d) (fire_all_twins m test within keys (fire new s2 key) (fire old s1 key) n.1 (fire_other m test within s2 s1 t key d n.0))
]

each_with_twin : {K : Type 0} {same : K → K → Bool} → IsTest same → (keep gone : K) (P : K → Type 0) → (P keep → P gone) → (keys : List K) → Each P keys → Each P (with_twin same keep gone keys)
each_with_twin test keep gone P f [] e = tt
each_with_twin test keep gone P f (key ∷ keys) e = elim (cases_key test key keep) [
  | inl h ↦ rw (is_key test key keep h) (e.0, (f (subst P h e.0), each_with_twin test keep gone P f keys e.1))
  | inr h ↦ rw (not_key test key keep h) (e.0, each_with_twin test keep gone P f keys e.1)
]

not_put_in : {K : Type 0} {same : K → K → Bool} → IsTest same → (keep gone : K) (keys : List K) → Each (λ k. k ≢ keep) keys → with_twin same keep gone keys ≡ keys
not_put_in test keep gone [] e = refl
not_put_in test keep gone (key ∷ keys) e = rw (not_key test key keep e.0, not_put_in test keep gone keys e.1) refl

among_with_twin : {K : Type 0} {same : K → K → Bool} → IsTest same → (keep gone : K) (keys : List K) (k : K) → Among keys k → Among (with_twin same keep gone keys) k
among_with_twin test keep gone [] k a = absurd a
among_with_twin test keep gone (key ∷ keys) k a = elim (cases_key test key keep) [
  | inl h ↦ rw (is_key test key keep h) (elim a [ inl e ↦ inl e | inr b ↦ inr (inr (among_with_twin test keep gone keys k b)) ])
  | inr h ↦ rw (not_key test key keep h) (elim a [ inl e ↦ inl e | inr b ↦ inr (among_with_twin test keep gone keys k b) ])
]

twin_among : {K : Type 0} {same : K → K → Bool} → IsTest same → (keep gone : K) (keys : List K) → Among keys keep → Among (with_twin same keep gone keys) gone
twin_among test keep gone [] a = absurd a
twin_among test keep gone (key ∷ keys) a = elim (cases_key test key keep) [
  | inl h ↦ rw (is_key test key keep h) (inr (inl refl))
  | inr h ↦ rw (not_key test key keep h) (elim a [ inl e ↦ absurd (h (sym e)) | inr b ↦ inr (twin_among test keep gone keys b) ])
]

once_with_twin : {K : Type 0} {same : K → K → Bool} → IsTest same → (keep gone : K) → keep ≢ gone → (keys : List K) → Each (λ k. k ≢ gone) keys → EachBefore (λ a b. a ≢ b) keys →
    EachBefore (λ a b. a ≢ b) (with_twin same keep gone keys)
once_with_twin test keep gone d [] n e = tt
once_with_twin {same} test keep gone d (key ∷ keys) n e = elim (cases_key test key keep) [
  | inl h ↦
      (let none : with_twin same keep gone keys ≡ keys = not_put_in test keep gone keys (each_as (λ k. key ≢ k) (λ k. k ≢ keep) (λ k f g. f (h ∙ sym g)) keys e.0) in
      rw (is_key test key keep h, none) (((λ x. d (sym h ∙ x)), e.0), (each_as (λ k. k ≢ gone) (λ k. gone ≢ k) (λ k f g. f (sym g)) keys n.1, e.1)))
  | inr h ↦ rw (not_key test key keep h) (each_with_twin test keep gone (λ k. key ≢ k) (λ x. n.0) keys e.0, once_with_twin test keep gone d keys n.1 e.1)
]

rising_with_twin : {K : Type 0} {same : K → K → Bool} → IsTest same → (keep gone : K) (p : K → ℕ) → p gone ≡ p keep → (keys : List K) → EachBefore (λ a b. p a ≤ p b) keys →
    EachBefore (λ a b. p a ≤ p b) (with_twin same keep gone keys)
rising_with_twin test keep gone p same_p [] e = tt
rising_with_twin {same} test keep gone p same_p (key ∷ keys) e = elim (cases_key test key keep) [
  | inl h ↦
      (let key_p : p key ≡ p keep = ap p h in
      let rest = each_with_twin test keep gone (λ k. p key ≤ p k) (λ x. omega arith) keys e.0 in
      rw (is_key test key keep h) (
        (omega arith, rest),
        (each_as (λ k. p key ≤ p k) (λ k. p gone ≤ p k) (λ k x. omega arith) (with_twin same keep gone keys) rest, rising_with_twin test keep gone p same_p keys e.1),
      ))
  | inr h ↦ rw (not_key test key keep h) (each_with_twin test keep gone (λ k. p key ≤ p k) (λ x. omega arith) keys e.0, rising_with_twin test keep gone p same_p keys e.1)
]

not_gone : {K : Type 0} {keep gone : K} {old new : Circuit K} → Merged keep gone old new → (k : K) (component : Component) → new.role k ≡ Some component → k ≢ gone
not_gone {new} m k component there e = let none : Some component ≡ None = sym there ∙ ap new.role e ∙ m.dropped in absurd (cc)

due_in_old : {K : Type 0} {keep gone : K} {old new : Circuit K} → Merged keep gone old new → (s2 s1 : State K) → TwinStates keep gone s2 s1 → (k : K) → IsDue new s2 k → (k ≢ gone) × IsDue old s1 k
due_in_old m s2 s1 a k d =
    let n = not_gone m k d.component d.there in
    let e : (s2.cells k).due ≡ (s1.cells k).due = ap (λ (c : Cell). c.due) (a.cells k n) in
    (n, record { component = d.component; there = sym (m.role k n) ∙ d.there; waits = λ z. d.waits (e ∙ z); now = sym e ∙ d.now ∙ a.time })

due_in_new : {K : Type 0} {keep gone : K} {old new : Circuit K} → Merged keep gone old new → (s2 s1 : State K) → TwinStates keep gone s2 s1 → (k : K) → k ≢ gone → IsDue old s1 k → IsDue new s2 k
due_in_new m s2 s1 a k n d =
    let e : (s2.cells k).due ≡ (s1.cells k).due = ap (λ (c : Cell). c.due) (a.cells k n) in
    record { component = d.component; there = m.role k n ∙ d.there; waits = λ z. d.waits (sym e ∙ z); now = e ∙ d.now ∙ sym a.time }

due_as_twin : {K : Type 0} {keep gone : K} {old new : Circuit K} → Merged keep gone old new → (s2 s1 : State K) → TwinStates keep gone s2 s1 → (IsDue old s1 keep → IsDue old s1 gone) × (IsDue old s1 gone → IsDue old s1 keep)
due_as_twin {keep} {gone} m s2 s1 a =
    let e : (s1.cells gone).due ≡ (s1.cells keep).due = ap (λ (c : Cell). c.due) a.twin in (
      (λ d. record { component = m.component; there = m.twin_there; waits = λ z. d.waits (sym e ∙ z); now = e ∙ d.now }),
      (λ d. record { component = m.component; there = m.there; waits = λ z. d.waits (e ∙ z); now = sym e ∙ d.now }),
    )

firing_list_in_old : {K : Type 0} {keep gone : K} {old new : Circuit K} → Merged keep gone old new → IsTest old.same → (s2 s1 : State K) → TwinStates keep gone s2 s1 → (keys : List K) →
    IsFiringList new s2 keys → IsFiringList old s1 (with_twin old.same keep gone keys)
firing_list_in_old {K} {keep} {gone} {old} {new} m test s2 s1 a keys f = record {
  due = each_with_twin test keep gone (IsDue old s1) (due_as_twin m s2 s1 a).0 keys
      (each_as (λ k. (k ≢ gone) × IsDue old s1 k) (IsDue old s1) (λ k p. p.1) keys dues);
  all = λ k d. elim (cases_key test k gone) [
    | inl e ↦ subst (Among (with_twin old.same keep gone keys)) (sym e)
        (twin_among test keep gone keys (f.all keep (due_in_new m s2 s1 a keep m.differ ((due_as_twin m s2 s1 a).1 (subst (IsDue old s1) e d)))))
    | inr n ↦ among_with_twin test keep gone keys k (f.all k (due_in_new m s2 s1 a k n d))
  ];
  once = once_with_twin test keep gone m.differ keys (each_as (λ k. (k ≢ gone) × IsDue old s1 k) (λ k. k ≢ gone) (λ k p. p.0) keys dues) f.once;
  rising = rising_with_twin test keep gone (λ k. (s1.cells k).priority) (ap (λ (c : Cell). c.priority) a.twin) keys
      (rising_as (λ k. (s2.cells k).priority) (λ k. (s1.cells k).priority) keys
      (each_as (λ k. (k ≢ gone) × IsDue old s1 k) (λ k. (s2.cells k).priority ≡ (s1.cells k).priority) (λ k p. ap (λ (c : Cell). c.priority) (a.cells k p.0)) keys dues) f.rising);
}
  where
    dues : Each (λ k. (k ≢ gone) × IsDue old s1 k) keys
    dues = each_as (IsDue new s2) (λ k. (k ≢ gone) × IsDue old s1 k) (due_in_old m s2 s1 a) keys f.due

later_twins : {K : Type 0} {keep gone : K} {old : Circuit K} (s2 s1 : State K) → Settles keep gone old s2 s1 → Settles keep gone old (later s2) (later s1)
later_twins s2 s1 t = record {
  twins = record { time = ap (λ n. n + 1) t.twins.time; cells = t.twins.cells; twin = t.twins.twin };
  settled = t.settled;
  bound = record { each = t.bound.each };
}

tick_twins : {K : Type 0} {keep gone : K} {old new : Circuit K} → Merged keep gone old new → IsTest old.same → IsBounded old → (fires : List K) (s2 s1 t2 : State K) → Settles keep gone old s2 s1 → Ticks new fires s2 t2 →
    (t1 : State K) × Ticks old (with_twin old.same keep gone fires) s1 t1 × Settles keep gone old t2 t1
tick_twins {K} {keep} {gone} {old} {new} m test within fires s2 s1 t2 t c = (
  fire_all old (later s1) order,
  record { order = firing_list_in_old m test (later s2) (later s1) twins.twins fires c.order; after = refl },
  subst (λ (x : State K). Settles keep gone old x (fire_all old (later s1) order)) (sym c.after) (fire_all_twins m test within fires (later s2) (later s1) others twins),
)
  where
    order : List K
    order = with_twin old.same keep gone fires

    twins : Settles keep gone old (later s2) (later s1)
    twins = later_twins s2 s1 t

    others : Each (λ k. k ≢ gone) fires
    others = each_as (IsDue new (later s2)) (λ k. k ≢ gone) (λ k d. (due_in_old m (later s2) (later s1) twins.twins k d).0) fires c.order.due

click_twins : {K : Type 0} {keep gone : K} {old new : Circuit K} → Merged keep gone old new → IsTest old.same → IsBounded old → (pos : Pos) (click : Click) (s2 s1 t2 : State K) → Settles keep gone old s2 s1 → Clicks new pos click s2 t2 →
    (t1 : State K) × Clicks old pos click s1 t1 × Settles keep gone old t2 t1
click_twins {K} {keep} {gone} {old} {new} m test within pos click s2 s1 t2 t c = (
  set_value old s1 c.key c.value,
  record { key = c.key; component = c.component; value = c.value; there = there; place = sym (m.place c.key n) ∙ c.place; takes = takes; after = refl },
  subst (λ (x : State K). Settles keep gone old x (set_value old s1 c.key c.value)) (sym c.after)
      (attend_twins m test within (put new s2 c.key (with_value (s2.cells c.key) c.value)) (put old s1 c.key (with_value (s1.cells c.key) c.value))
      (put_twins m test s2 s1 c.key (with_value (s2.cells c.key) c.value) (with_value (s1.cells c.key) c.value) t.twins other n (ap (λ (x : Cell). with_value x c.value) cells))
      ((bounded_is_invariant old test within).clicks s1 c.key c.component click c.value t.bound there takes)),
)
  where
    n : c.key ≢ gone
    n = not_gone m c.key c.component c.there

    there : old.role c.key ≡ Some c.component
    there = sym (m.role c.key n) ∙ c.there

    cells : s2.cells c.key ≡ s1.cells c.key
    cells = t.twins.cells c.key n

    takes : clicked c.component click (s1.cells c.key).value ≡ Some c.value
    takes = ap (λ (x : Cell). clicked c.component click x.value) (sym cells) ∙ c.takes

    other : c.key ≢ keep
    other e =
        let both : Some c.component ≡ Some m.component = sym there ∙ ap old.role e ∙ m.there in
        let one : c.component ≡ m.component = cc in
        m.unclicked click (s1.cells c.key).value c.value (ap (λ x. clicked x click (s1.cells c.key).value) (sym one) ∙ takes)

map_kept : {K A : Type 0} (L : K → Type 0) (f g : K → A) → ((k : K) → L k → f k ≡ g k) → (keys : List K) → Each L keys → map f keys ≡ map g keys
map_kept L f g h [] l = refl
map_kept L f g h (k ∷ keys) l = λ i. h k l.0 i ∷ map_kept L f g h keys l.1 i

view_twins : {K : Type 0} {keep gone : K} {old new : Circuit K} → Merged keep gone old new → (s2 s1 : State K) → Settles keep gone old s2 s1 → view new s2 ≡ view old s1
view_twins {K} {keep} {gone} {old} {new} m s2 s1 t = ap (map (seen new s2)) m.shown ∙ map_kept (λ k. k ≢ gone) (seen new s2) (seen old s1) one old.shown m.seen
  where
    one : (k : K) → k ≢ gone → seen new s2 k ≡ seen old s1 k
    one k n = rw (m.role k n, t.twins.cells k n)
        (seen_at_alike (old.role k) (new.readings (outs new s2)) (old.readings (outs old s1)) k k (s1.cells k) (reads_twins m s2 s1 t.twins k n))

-- The law with the order: each tick of the new circuit is one of the old, in whose firing list the dropped key stands right after the kept one.
pub merged_simulates : {K : Type 0} {keep gone : K} {old new : Circuit K} → Merged keep gone old new → IsTest old.same → IsBounded old → SimulatesBy old new (with_twin old.same keep gone) (Settles keep gone old)
merged_simulates {K} {keep} {gone} {old} {new} m test within = record {
  begins = attend_twins m test within (record { time = 0; cells = new.begin }) (record { time = 0; cells = old.begin })
      (record { time = refl; cells = m.begin; twin = m.twin_begin }) (bounded_is_invariant old test within).begins;
  views = view_twins m;
  clicks = click_twins m test within;
  ticks = tick_twins m test within;
}

-- So all that the new circuit plays, the old one plays, to twin states.
pub merged_refines : {K : Type 0} {keep gone : K} {old new : Circuit K} → Merged keep gone old new → IsTest old.same → IsBounded old →
    RefinesBy old new (map (with_twin old.same keep gone)) (TwinStates keep gone)
merged_refines m test within = record {
  plays = λ acts order views last plays.
      let r = (refines_in_order (merged_simulates m test within)).plays acts order views last plays in
      (r.0, r.1, r.2.twins);
}
