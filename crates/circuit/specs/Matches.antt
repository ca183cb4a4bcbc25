-- Two circuits whose components match, key by key, and read the same where they are given the same, show the same in the same order.
use Rattle.std.proofs.Common.{◌≡◌, ◌≢◌, ℕ, ◌+◌, ◌≤◌, Bool, true, List, [], ◌∷◌, Option, Some, None, refl, sym, ap, subst, ◌∙◌, map, inl, inr}
use Rattle.std.proofs.lemmas.Bool.{cases_Bool, false≢true}
use Rattle.circuit.specs.declared.Component.{Component}
use Rattle.circuit.specs.declared.Component.TheVariants.{Wire}
use Rattle.circuit.specs.declared.Readings.{Readings}
use Rattle.circuit.specs.declared.Cell.{Cell}
use Rattle.circuit.specs.declared.Click.{Click}
use Rattle.circuit.specs.Component.{attended, fired, clicked}
use Rattle.circuit.specs.Circuit.{Circuit, State, outs, put, attended_at, attend, fired_at, fired_in, fire, fire_all, with_value, set_value, later, IsDue, Each, EachBefore, Among, IsFiringList, seen_at, seen, view}
use Rattle.circuit.specs.Shows.{Refines, RefinesBy}
use Rattle.circuit.specs.Keys.{IsTest}
use Rattle.circuit.specs.Simulate.{SimulatesBy, simulates_of, refines_by, refines_in_order}

-- a fact of states that holds at the start and that every event keeps
pub record IsInvariant {K : Type 0} (C : Circuit K) (I : State K → Type 0) : Type 0 where
  pub begins : I (record { time = 0; cells = C.begin })
  pub attends : (s : State K) → I s → I (attend C s)
  pub fires : (s : State K) (key : K) → I s → I (put C s key (fired_in C s key))
  pub clicks : (s : State K) (key : K) (component : Component) (click : Click) (value : ℕ) → I s → C.role key ≡ Some component →
      clicked component click (s.cells key).value ≡ Some value → I (put C s key (with_value (s.cells key) value))
  pub passes : (s : State K) → I s → I (later s)

-- which may say nothing
pub any_is_invariant : {K : Type 0} (C : Circuit K) → IsInvariant C (λ s. Unit {0})
any_is_invariant C = record { begins = tt; attends = λ s b. tt; fires = λ s key b. tt; clicks = λ s key component click value b there takes. tt; passes = λ s b. tt }

-- Each live key of the new circuit stands for a key of the old one, and each component of the old one is so met. Both begin alike, and read the same in
-- every state with the fact I. Nothing is said of other keys, which have no component.
pub record Matches {K J : Type 0} (old : Circuit K) (new : Circuit J) (at : J → K) (Live : J → Type 0) (I : State K → Type 0) : Type 0 where
  pub apart : (a b : J) → Live a → Live b → at a ≡ at b → a ≡ b
  pub lives : (k : J) (component : Component) → new.role k ≡ Some component → Live k
  pub covers : (p : K) (component : Component) → old.role p ≡ Some component → (k : J) × Live k × (at k ≡ p)
  pub role : (k : J) → Live k → new.role k ≡ old.role (at k)
  pub first : (k : J) → Live k → new.first k ≡ old.first (at k)
  pub base : (k : J) → Live k → new.base k ≡ old.base (at k)
  pub begin : (k : J) → Live k → new.begin k ≡ old.begin (at k)
  pub place : (k : J) → Live k → new.place k ≡ old.place (at k)
  pub reads : (s : State K) → I s → (outs2 : J → ℕ) → ((k : J) → Live k → outs2 k ≡ outs old s (at k)) →
      (k : J) → Live k → new.readings outs2 k ≡ old.readings (outs old s) (at k)
  pub shown : old.shown ≡ map at new.shown
  pub shown_live : Each Live new.shown

-- Two states agree, cell by cell.
pub record Alike {K J : Type 0} (at : J → K) (Live : J → Type 0) (I : State K → Type 0) (s2 : State J) (s1 : State K) : Type 0 where
  pub time : s2.time ≡ s1.time
  pub cells : (k : J) → Live k → s2.cells k ≡ s1.cells (at k)
  pub kept : I s1

-- lists of keys, and of the keys that they stand for
pub each_map : {K J : Type 0} (P : J → Type 0) (Q : K → Type 0) (at : J → K) → ((k : J) → P k → Q (at k)) → (keys : List J) → Each P keys → Each Q (map at keys)
each_map P Q at f [] e = tt
each_map P Q at f (k ∷ keys) e = (f k e.0, each_map P Q at f keys e.1)

each_two : {K J : Type 0} (L P : J → Type 0) (Q : K → Type 0) (at : J → K) → ((k : J) → L k → P k → Q (at k)) → (keys : List J) → Each L keys → Each P keys → Each Q (map at keys)
each_two L P Q at f [] l e = tt
each_two L P Q at f (k ∷ keys) l e = (f k l.0 e.0, each_two L P Q at f keys l.1 e.1)

before_map : {K J : Type 0} (L : J → Type 0) (R : J → J → Type 0) (S : K → K → Type 0) (at : J → K) → ((a b : J) → L a → L b → R a b → S (at a) (at b)) →
    (keys : List J) → Each L keys → EachBefore R keys → EachBefore S (map at keys)
before_map L R S at f [] l e = tt
before_map L R S at f (k ∷ keys) l e = (each_two L (R k) (S (at k)) at (λ b m r. f k b l.0 m r) keys l.1 e.0, before_map L R S at f keys l.1 e.1)

among_map : {K J : Type 0} (at : J → K) (keys : List J) (k : J) → Among keys k → Among (map at keys) (at k)
among_map at [] k h = absurd h
among_map at (one ∷ keys) k h = elim h [ inl e ↦ inl (ap at e) | inr m ↦ inr (among_map at keys k m) ]

map_each : {K J A : Type 0} (L : J → Type 0) (at : J → K) (f : J → A) (g : K → A) → ((k : J) → L k → f k ≡ g (at k)) → (keys : List J) → Each L keys → map f keys ≡ map g (map at keys)
map_each L at f g h [] l = refl
map_each L at f g h (k ∷ keys) l = λ i. h k l.0 i ∷ map_each L at f g h keys l.1 i

-- one test answers as the other
same_test : {K J : Type 0} (old : Circuit K) (new : Circuit J) (at : J → K) → IsTest old.same → IsTest new.same → (a b : J) → (at a ≡ at b → a ≡ b) → new.same a b ≡ old.same (at a) (at b)
same_test old new at t1 t2 a b apart = elim (cases_Bool (old.same (at a) (at b))) [
  | inl h ↦ (let e : a ≡ b = apart (t1.one (at a) (at b) h) in subst (λ c. new.same a c ≡ true) e (t2.itself a)) ∙ sym h
  | inr h ↦ elim (cases_Bool (new.same a b)) [
    | inl n ↦ absurd (false≢true (sym h ∙ subst (λ c. old.same (at a) (at c) ≡ true) (t2.one a b n) (t1.itself (at a))))
    | inr n ↦ n ∙ sym h
  ]
]

outs_alike : {K J : Type 0} {old : Circuit K} {new : Circuit J} {at : J → K} {Live : J → Type 0} {I : State K → Type 0} → Matches old new at Live I →
    (s2 : State J) (s1 : State K) → Alike at Live I s2 s1 → (k : J) → Live k → outs new s2 k ≡ outs old s1 (at k)
outs_alike {at} m s2 s1 a k l = rw (m.role k l, m.base k l, a.cells k l) refl

reads_alike : {K J : Type 0} {old : Circuit K} {new : Circuit J} {at : J → K} {Live : J → Type 0} {I : State K → Type 0} → Matches old new at Live I →
    (s2 : State J) (s1 : State K) → Alike at Live I s2 s1 → (k : J) → Live k → new.readings (outs new s2) k ≡ old.readings (outs old s1) (at k)
reads_alike {new} m s2 s1 a k l = m.reads s1 a.kept (outs new s2) (outs_alike m s2 s1 a) k l

-- Equal readings give equal cells, firings and views.
pub attended_at_alike : {K J : Type 0} (role : Option Component) (first : Bool) (time : ℕ) (reads2 : J → Readings) (reads1 : K → Readings) (k : J) (p : K) (cell : Cell) →
    reads2 k ≡ reads1 p → attended_at time role first reads2 k cell ≡ attended_at time role first reads1 p cell
attended_at_alike None first time reads2 reads1 k p cell e = refl
attended_at_alike (Some component) first time reads2 reads1 k p cell e = ap (λ (r : Readings). attended time component first r cell) e

pub fired_at_alike : {K J : Type 0} (role : Option Component) (first : Bool) (time : ℕ) (reads2 : J → Readings) (reads1 : K → Readings) (k : J) (p : K) (cell : Cell) →
    reads2 k ≡ reads1 p → fired_at time role first reads2 k cell ≡ fired_at time role first reads1 p cell
fired_at_alike None first time reads2 reads1 k p cell e = refl
fired_at_alike (Some component) first time reads2 reads1 k p cell e = ap (λ (r : Readings). fired time component first r cell) e

pub seen_at_alike : {K J : Type 0} (role : Option Component) (reads2 : J → Readings) (reads1 : K → Readings) (k : J) (p : K) (cell : Cell) →
    reads2 k ≡ reads1 p → seen_at role reads2 k cell ≡ seen_at role reads1 p cell
seen_at_alike None reads2 reads1 k p cell e = refl
seen_at_alike (Some Wire) reads2 reads1 k p cell e = ap (λ (r : Readings). r.back) e
seen_at_alike (Some _) reads2 reads1 k p cell e = refl

pub attend_alike : {K J : Type 0} {old : Circuit K} {new : Circuit J} {at : J → K} {Live : J → Type 0} {I : State K → Type 0} → Matches old new at Live I → IsInvariant old I →
    (s2 : State J) (s1 : State K) → Alike at Live I s2 s1 → Alike at Live I (attend new s2) (attend old s1)
attend_alike {K} {J} {old} {new} {at} {Live} m keeps s2 s1 a = record { time = a.time; cells = cell; kept = keeps.attends s1 a.kept }
  where
    cell : (k : J) → Live k → (attend new s2).cells k ≡ (attend old s1).cells (at k)
    cell k l = rw (m.role k l, m.first k l, a.cells k l, a.time)
        (attended_at_alike (old.role (at k)) (old.first (at k)) s1.time (new.readings (outs new s2)) (old.readings (outs old s1)) k (at k) (s1.cells (at k)) (reads_alike m s2 s1 a k l))

pub put_alike : {K J : Type 0} {old : Circuit K} {new : Circuit J} {at : J → K} {Live : J → Type 0} {I : State K → Type 0} → Matches old new at Live I → IsTest old.same → IsTest new.same →
    (s2 : State J) (s1 : State K) → Alike at Live I s2 s1 → (key : J) → Live key → (c2 c1 : Cell) → c2 ≡ c1 → I (put old s1 (at key) c1) → Alike at Live I (put new s2 key c2) (put old s1 (at key) c1)
put_alike {K} {J} {old} {new} {at} {Live} m t1 t2 s2 s1 a key alive c2 c1 e kept = record { time = a.time; cells = cell; kept = kept }
  where
    cell : (k : J) → Live k → (put new s2 key c2).cells k ≡ (put old s1 (at key) c1).cells (at k)
    cell k l = rw (same_test old new at t1 t2 k key (m.apart k key l alive), e, a.cells k l) refl

pub fired_alike : {K J : Type 0} {old : Circuit K} {new : Circuit J} {at : J → K} {Live : J → Type 0} {I : State K → Type 0} → Matches old new at Live I →
    (s2 : State J) (s1 : State K) → Alike at Live I s2 s1 → (k : J) → Live k → fired_in new s2 k ≡ fired_in old s1 (at k)
fired_alike {old} {new} {at} m s2 s1 a k l = rw (m.role k l, m.first k l, a.cells k l, a.time)
    (fired_at_alike (old.role (at k)) (old.first (at k)) s1.time (new.readings (outs new s2)) (old.readings (outs old s1)) k (at k) (s1.cells (at k)) (reads_alike m s2 s1 a k l))

pub fire_alike : {K J : Type 0} {old : Circuit K} {new : Circuit J} {at : J → K} {Live : J → Type 0} {I : State K → Type 0} → Matches old new at Live I → IsInvariant old I → IsTest old.same → IsTest new.same →
    (s2 : State J) (s1 : State K) → Alike at Live I s2 s1 → (key : J) → Live key → Alike at Live I (fire new s2 key) (fire old s1 (at key))
fire_alike {old} {new} {at} m keeps t1 t2 s2 s1 a key l =
    attend_alike m keeps (put new s2 key (fired_in new s2 key)) (put old s1 (at key) (fired_in old s1 (at key)))
    (put_alike m t1 t2 s2 s1 a key l (fired_in new s2 key) (fired_in old s1 (at key)) (fired_alike m s2 s1 a key l) (keeps.fires s1 (at key) a.kept))

pub fire_all_alike : {K J : Type 0} {old : Circuit K} {new : Circuit J} {at : J → K} {Live : J → Type 0} {I : State K → Type 0} → Matches old new at Live I → IsInvariant old I → IsTest old.same → IsTest new.same →
    (keys : List J) → Each Live keys → (s2 : State J) (s1 : State K) → Alike at Live I s2 s1 → Alike at Live I (fire_all new s2 keys) (fire_all old s1 (map at keys))
fire_all_alike m keeps t1 t2 [] l s2 s1 a = a
fire_all_alike {old} {new} {at} m keeps t1 t2 (key ∷ keys) l s2 s1 a =
    fire_all_alike m keeps t1 t2 keys l.1 (fire new s2 key) (fire old s1 (at key)) (fire_alike m keeps t1 t2 s2 s1 a key l.0)

due_live : {K J : Type 0} {old : Circuit K} {new : Circuit J} {at : J → K} {Live : J → Type 0} {I : State K → Type 0} → Matches old new at Live I →
    (s2 : State J) (keys : List J) → Each (IsDue new s2) keys → Each Live keys
due_live m s2 [] e = tt
due_live m s2 (k ∷ keys) e = (m.lives k (e.0).component (e.0).there, due_live m s2 keys e.1)

due_in_old : {K J : Type 0} {old : Circuit K} {new : Circuit J} {at : J → K} {Live : J → Type 0} {I : State K → Type 0} → Matches old new at Live I →
    (s2 : State J) (s1 : State K) → Alike at Live I s2 s1 → (k : J) → IsDue new s2 k → IsDue old s1 (at k)
due_in_old {at} m s2 s1 a k d =
    let l = m.lives k d.component d.there in
    let e : (s2.cells k).due ≡ (s1.cells (at k)).due = ap (λ (c : Cell). c.due) (a.cells k l) in
    record { component = d.component; there = sym (m.role k l) ∙ d.there; waits = λ h. d.waits (e ∙ h); now = sym e ∙ d.now ∙ a.time }

due_in_new : {K J : Type 0} {old : Circuit K} {new : Circuit J} {at : J → K} {Live : J → Type 0} {I : State K → Type 0} → Matches old new at Live I →
    (s2 : State J) (s1 : State K) → Alike at Live I s2 s1 → (k : J) → Live k → IsDue old s1 (at k) → IsDue new s2 k
due_in_new {at} m s2 s1 a k l d =
    let e : (s2.cells k).due ≡ (s1.cells (at k)).due = ap (λ (c : Cell). c.due) (a.cells k l) in
    record { component = d.component; there = m.role k l ∙ d.there; waits = λ h. d.waits (sym e ∙ h); now = e ∙ d.now ∙ sym a.time }

pub firing_list_alike : {K J : Type 0} {old : Circuit K} {new : Circuit J} {at : J → K} {Live : J → Type 0} {I : State K → Type 0} → Matches old new at Live I →
    (s2 : State J) (s1 : State K) → Alike at Live I s2 s1 → (keys : List J) → IsFiringList new s2 keys → IsFiringList old s1 (map at keys)
firing_list_alike {K} {J} {old} {new} {at} {Live} m s2 s1 a keys f =
    let live : Each Live keys = due_live m s2 keys f.due in
    record {
      due = each_map (IsDue new s2) (IsDue old s1) at (due_in_old m s2 s1 a) keys f.due;
      all = λ p d.
          let c = m.covers p d.component d.there in
          subst (Among (map at keys)) c.2 (among_map at keys c.0 (f.all c.0 (due_in_new m s2 s1 a c.0 c.1 (subst (IsDue old s1) (sym c.2) d))));
      once = before_map Live (λ x y. x ≢ y) (λ x y. x ≢ y) at (λ x y lx ly n e. n (m.apart x y lx ly e)) keys live f.once;
      rising = before_map Live (λ x y. (s2.cells x).priority ≤ (s2.cells y).priority) (λ p q. (s1.cells p).priority ≤ (s1.cells q).priority) at
          (λ x y lx ly r. subst (λ (c : Cell). c.priority ≤ (s1.cells (at y)).priority) (a.cells x lx) (subst (λ (c : Cell). (s2.cells x).priority ≤ c.priority) (a.cells y ly) r)) keys live f.rising;
    }

pub view_alike : {K J : Type 0} {old : Circuit K} {new : Circuit J} {at : J → K} {Live : J → Type 0} {I : State K → Type 0} → Matches old new at Live I →
    (s2 : State J) (s1 : State K) → Alike at Live I s2 s1 → view new s2 ≡ view old s1
view_alike {K} {J} {old} {new} {at} {Live} m s2 s1 a = rw m.shown (map_each Live at (seen new s2) (seen old s1) one new.shown m.shown_live)
  where
    one : (k : J) → Live k → seen new s2 k ≡ seen old s1 (at k)
    one k l = rw (m.role k l, a.cells k l)
        (seen_at_alike (old.role (at k)) (new.readings (outs new s2)) (old.readings (outs old s1)) k (at k) (s1.cells (at k)) (reads_alike m s2 s1 a k l))

-- The law with the order: the firing lists are the same by place, and so are all cells.
pub matches_simulates : {K J : Type 0} {old : Circuit K} {new : Circuit J} {at : J → K} {Live : J → Type 0} {I : State K → Type 0} → Matches old new at Live I → IsInvariant old I → IsTest old.same → IsTest new.same →
    SimulatesBy old new (map at) (Alike at Live I)
matches_simulates {K} {J} {old} {new} {at} {Live} {I} m keeps t1 t2 = record {
  begins = attend_alike m keeps (record { time = 0; cells = new.begin }) (record { time = 0; cells = old.begin }) (record { time = refl; cells = m.begin; kept = keeps.begins });
  views = view_alike m;
  clicks = λ pos click s2 s1 r2 a c.
      let l = m.lives c.key c.component c.there in
      let takes : clicked c.component click (s1.cells (at c.key)).value ≡ Some c.value = subst (λ (x : Cell). clicked c.component click x.value ≡ Some c.value) (a.cells c.key l) c.takes in
      let there : old.role (at c.key) ≡ Some c.component = sym (m.role c.key l) ∙ c.there in
      let after : Alike at Live I (set_value new s2 c.key c.value) (set_value old s1 (at c.key) c.value) =
      attend_alike m keeps (put new s2 c.key (with_value (s2.cells c.key) c.value)) (put old s1 (at c.key) (with_value (s1.cells (at c.key)) c.value))
      (put_alike m t1 t2 s2 s1 a c.key l (with_value (s2.cells c.key) c.value) (with_value (s1.cells (at c.key)) c.value) (ap (λ (x : Cell). with_value x c.value) (a.cells c.key l))
      (keeps.clicks s1 (at c.key) c.component click c.value a.kept there takes)) in (
        set_value old s1 (at c.key) c.value,
        record { key = at c.key; component = c.component; value = c.value; there = there; place = sym (m.place c.key l) ∙ c.place; takes = takes; after = refl },
        subst (λ t. Alike at Live I t (set_value old s1 (at c.key) c.value)) (sym c.after) after,
      );
  ticks = λ fires s2 s1 r2 a c.
      let b : Alike at Live I (later s2) (later s1) = record { time = ap (λ n. n + 1) a.time; cells = a.cells; kept = keeps.passes s1 a.kept } in
      let live : Each Live fires = due_live m (later s2) fires c.order.due in (
        fire_all old (later s1) (map at fires),
        record { order = firing_list_alike m (later s2) (later s1) b fires c.order; after = refl },
        subst (λ t. Alike at Live I t (fire_all old (later s1) (map at fires))) (sym c.after) (fire_all_alike m keeps t1 t2 fires live (later s2) (later s1) b),
      );
}

-- So the new circuit refines the old one.
pub matches_refines : {K J : Type 0} {old : Circuit K} {new : Circuit J} (at : J → K) (Live : J → Type 0) (I : State K → Type 0) → Matches old new at Live I → IsInvariant old I → IsTest old.same → IsTest new.same → Refines old new
matches_refines at Live I m keeps t1 t2 = refines_by (simulates_of (matches_simulates m keeps t1 t2))

-- and so it does in the same order, key by key, and to the same last states
pub matches_in_order : {K J : Type 0} {old : Circuit K} {new : Circuit J} (at : J → K) (Live : J → Type 0) (I : State K → Type 0) → Matches old new at Live I → IsInvariant old I → IsTest old.same → IsTest new.same →
    RefinesBy old new (map (map at)) (Alike at Live I)
matches_in_order at Live I m keeps t1 t2 = refines_in_order (matches_simulates m keeps t1 t2)
