-- Some components go that no other reads and no view shows. What is left shows nothing new: in the old circuit what goes fires last within its priority.
use Rattle.std.proofs.Common.{◌≡◌, ◌≢◌, ℕ, ◌+◌, Bool, true, false, List, [], ◌∷◌, Option, Some, None, refl, sym, ap, subst, ◌∙◌, map, inl, inr, if◌then◌else◌}
use Rattle.std.specs.Prelude.{nat_le}
use Rattle.std.proofs.lemmas.Bool.{cases_Bool, false≢true}
use Rattle.circuit.specs.declared.Component.{Component}
use Rattle.circuit.specs.declared.Readings.{Readings}
use Rattle.circuit.specs.declared.Cell.{Cell}
use Rattle.circuit.specs.declared.Pos.{Pos}
use Rattle.circuit.specs.declared.Click.{Click}
use Rattle.circuit.specs.Component.{clicked, attended}
use Rattle.circuit.specs.Circuit.{Circuit, State, outs, out_at, put, attended_at, attend, fired_in, fire, fire_all, with_value, set_value, Clicks, later, IsDue, Each, EachBefore, Among, IsFiringList, Ticks, seen, view}
use Rattle.circuit.specs.Shows.{Refines}
use Rattle.circuit.proofs.Simulate.{Simulates, refines_by}
use Rattle.circuit.proofs.Settled.{IsSettled, attended-settled, settled_attended, outs-attend}
use Rattle.circuit.specs.Keys.{IsTest}
use Rattle.circuit.specs.Firing.{due_at}
use Rattle.circuit.specs.PutLast.{with_due}
use Rattle.circuit.proofs.Runs.{due_at-true, due_at_from, due_among}
use Rattle.circuit.proofs.Matches.{attended_at_alike, fired_at_alike, seen_at_alike}
use Rattle.circuit.proofs.Keys.{not_key, each_as, rising_as, put_last, put_all_last, each_put_all_last, among_put_all_last, once_put_all_last, rising_put_all_last, each_filter, among_filter, once_filter}

-- A circuit and what is left of it when some keys go.
pub record Left {K : Type 0} (gone : K → Bool) (old new : Circuit K) : Type 0 where
  pub same : new.same ≡ old.same
  pub role : (k : K) → gone k ≡ false → new.role k ≡ old.role k
  pub dropped : (k : K) → gone k ≡ true → new.role k ≡ None
  pub first : (k : K) → gone k ≡ false → new.first k ≡ old.first k
  pub base : (k : K) → gone k ≡ false → new.base k ≡ old.base k
  pub begin : (k : K) → gone k ≡ false → new.begin k ≡ old.begin k
  pub place : (k : K) → gone k ≡ false → new.place k ≡ old.place k
  -- what is kept reads what is kept alone
  pub reads : (given2 given1 : K → ℕ) → ((k : K) → gone k ≡ false → given2 k ≡ given1 k) → (k : K) → gone k ≡ false → new.readings given2 k ≡ old.readings given1 k
  pub shown : new.shown ≡ old.shown
  pub seen : Each (λ k. gone k ≡ false) old.shown
  -- the keys that go
  pub keys : List K
  pub each : Each (λ k. gone k ≡ true) keys
  pub once : EachBefore (λ a b. a ≢ b) keys
  pub all : (k : K) → gone k ≡ true → (component : Component) → old.role k ≡ Some component → Among keys k

-- The states agree on all that is kept.
pub record Agree {K : Type 0} (gone : K → Bool) (s2 s1 : State K) : Type 0 where
  pub time : s2.time ≡ s1.time
  pub cells : (k : K) → gone k ≡ false → s2.cells k ≡ s1.cells k

-- They agree, and all that is kept has attended in the old one.
pub record Twins {K : Type 0} (gone : K → Bool) (old : Circuit K) (s2 s1 : State K) : Type 0 where
  pub agree : Agree gone s2 s1
  pub settled : (k : K) (component : Component) → gone k ≡ false → old.role k ≡ Some component → IsSettled component (old.readings (outs old s1) k) (s1.cells k)

pub outs_agree : {K : Type 0} {gone : K → Bool} {old new : Circuit K} → Left gone old new → (s2 s1 : State K) → Agree gone s2 s1 → (k : K) → gone k ≡ false → outs new s2 k ≡ outs old s1 k
outs_agree left s2 s1 a k h = rw (left.role k h, left.base k h, a.cells k h) refl

reads_agree : {K : Type 0} {gone : K → Bool} {old new : Circuit K} → Left gone old new → (s2 s1 : State K) → Agree gone s2 s1 → (k : K) → gone k ≡ false → new.readings (outs new s2) k ≡ old.readings (outs old s1) k
reads_agree {old} {new} left s2 s1 a k h = left.reads (outs new s2) (outs old s1) (outs_agree left s2 s1 a) k h

settled_at : {K : Type 0} (time : ℕ) (role : Option Component) (first : Bool) (reads : K → Readings) (k : K) (cell : Cell) (component : Component) → role ≡ Some component →
    IsSettled component (reads k) (attended_at time role first reads k cell)
settled_at time None first reads k cell component there = absurd (cc)
settled_at time (Some c) first reads k cell component there =
    let same : c ≡ component = cc in
    subst (λ x. IsSettled x (reads k) (attended time c first (reads k) cell)) same (settled_attended time c first (reads k) cell)

pub attend_twins : {K : Type 0} {gone : K → Bool} {old new : Circuit K} → Left gone old new → (s2 s1 : State K) → Agree gone s2 s1 → Twins gone old (attend new s2) (attend old s1)
attend_twins {old} {new} left s2 s1 a = record {
  agree = record {
    time = a.time;
    cells = λ k h.
        rw (left.role k h, left.first k h, a.cells k h, a.time)
        (attended_at_alike (old.role k) (old.first k) s1.time (new.readings (outs new s2)) (old.readings (outs old s1)) k k (s1.cells k) (reads_agree left s2 s1 a k h));
  };
  settled = λ k component h there.
      subst (λ given. IsSettled component (old.readings given k) ((attend old s1).cells k)) (sym (outs-attend old s1))
      (settled_at s1.time (old.role k) (old.first k) (old.readings (outs old s1)) k (s1.cells k) component there);
}

put_agree : {K : Type 0} {gone : K → Bool} {old new : Circuit K} → Left gone old new → (s2 s1 : State K) (key : K) (c2 c1 : Cell) → Agree gone s2 s1 → c2 ≡ c1 → Agree gone (put new s2 key c2) (put old s1 key c1)
put_agree left s2 s1 key c2 c1 a e = record { time = a.time; cells = λ k h. rw (left.same, e, a.cells k h) refl }

-- What is kept fires in both circuits.
fire_kept : {K : Type 0} {gone : K → Bool} {old new : Circuit K} → Left gone old new → (s2 s1 : State K) → Twins gone old s2 s1 → (key : K) → gone key ≡ false → Twins gone old (fire new s2 key) (fire old s1 key)
fire_kept {K} {gone} {old} {new} left s2 s1 t key h =
    let fires : fired_in new s2 key ≡ fired_in old s1 key =
    rw (left.role key h, left.first key h, t.agree.cells key h, t.agree.time)
    (fired_at_alike (old.role key) (old.first key) s1.time (new.readings (outs new s2)) (old.readings (outs old s1)) key key (s1.cells key) (reads_agree left s2 s1 t.agree key h)) in
    attend_twins left (put new s2 key (fired_in new s2 key)) (put old s1 key (fired_in old s1 key)) (put_agree left s2 s1 key (fired_in new s2 key) (fired_in old s1 key) t.agree fires)

still_at : {K : Type 0} (time : ℕ) (role : Option Component) (first : Bool) (reads : K → Readings) (k : K) (cell : Cell) →
    ((component : Component) → role ≡ Some component → IsSettled component (reads k) cell) → attended_at time role first reads k cell ≡ cell
still_at time None first reads k cell h = refl
still_at time (Some c) first reads k cell h = attended-settled time c first (reads k) cell (h c refl)

-- What goes fires in the old circuit alone, and changes nothing that is kept: that has attended already, and reads what it read.
fire_dropped : {K : Type 0} {gone : K → Bool} {old new : Circuit K} → Left gone old new → IsTest old.same → (s2 s1 : State K) → Twins gone old s2 s1 → (key : K) → gone key ≡ true → Twins gone old s2 (fire old s1 key)
fire_dropped {K} {gone} {old} {new} left test s2 s1 t key g = record {
  agree = record { time = t.agree.time; cells = λ k h. t.agree.cells k h ∙ sym (stays k h) };
  settled = λ k component h there. rw (stays k h)
      (subst (λ r. IsSettled component r (s1.cells k)) (sym (ap (λ (given : K → ℕ). old.readings given k) (outs-attend old mid) ∙ reads k h)) (t.settled k component h there));
}
  where
    mid : State K
    mid = put old s1 key (fired_in old s1 key)

    apart : (k : K) → gone k ≡ false → k ≢ key
    apart k h e = false≢true (sym h ∙ ap gone e ∙ g)

    here : (k : K) → gone k ≡ false → mid.cells k ≡ s1.cells k
    here k h = rw (not_key test k key (apart k h)) refl

    reads : (k : K) → gone k ≡ false → old.readings (outs old mid) k ≡ old.readings (outs old s1) k
    reads k h = sym (left.reads (outs new s2) (outs old mid) (λ j i. outs_agree left s2 s1 t.agree j i ∙ ap (λ (c : Cell). out_at (old.role j) (old.base j) c) (sym (here j i))) k h)
        ∙ reads_agree left s2 s1 t.agree k h

    stays : (k : K) → gone k ≡ false → (fire old s1 key).cells k ≡ s1.cells k
    stays k h = ap (λ (c : Cell). attended_at s1.time (old.role k) (old.first k) (old.readings (outs old mid)) k c) (here k h)
        ∙ still_at s1.time (old.role k) (old.first k) (old.readings (outs old mid)) k (s1.cells k)
        (λ component there. subst (λ r. IsSettled component r (s1.cells k)) (sym (reads k h)) (t.settled k component h there))

-- what a list keeps when those keys go
abbrev pub kept_of : {K : Type 0} → (K → Bool) → List K → List K
kept_of gone [] = []
kept_of gone (key ∷ keys) = if gone key then kept_of gone keys else key ∷ kept_of gone keys

fire_all_twins : {K : Type 0} {gone : K → Bool} {old new : Circuit K} → Left gone old new → IsTest old.same → (keys : List K) (s2 s1 : State K) → Twins gone old s2 s1 → Twins gone old (fire_all new s2 (kept_of gone keys)) (fire_all old s1 keys)
fire_all_twins left test [] s2 s1 t = t
fire_all_twins {K} {gone} {old} {new} left test (key ∷ keys) s2 s1 t = elim (cases_Bool (gone key)) [
  | inl h ↦ rw h (fire_all_twins left test keys s2 (fire old s1 key) (fire_dropped left test s2 s1 t key h))
  | inr h ↦ rw h (fire_all_twins left test keys (fire new s2 key) (fire old s1 key) (fire_kept left s2 s1 t key h))
]

kept_of-put_last : {K : Type 0} (gone : K → Bool) (priority : K → ℕ) (key : K) (keys : List K) → gone key ≡ true → kept_of gone (put_last priority key keys) ≡ kept_of gone keys
kept_of-put_last gone priority key [] h = rw h refl
kept_of-put_last gone priority key (one ∷ keys) h = elim (cases_Bool (nat_le (priority one) (priority key))) [
  | inl e ↦ rw (e, kept_of-put_last gone priority key keys h) refl
  | inr e ↦ rw (e, h) refl
]

pub kept_of-put_all_last : {K : Type 0} (gone : K → Bool) (priority : K → ℕ) (more keys : List K) → Each (λ k. gone k ≡ true) more → kept_of gone (put_all_last priority more keys) ≡ kept_of gone keys
kept_of-put_all_last gone priority [] keys h = refl
kept_of-put_all_last gone priority (one ∷ more) keys h =
    kept_of-put_all_last gone priority more (put_last priority one keys) h.1 ∙ kept_of-put_last gone priority one keys h.0

pub kept_of-kept : {K : Type 0} (gone : K → Bool) (keys : List K) → Each (λ k. gone k ≡ false) keys → kept_of gone keys ≡ keys
kept_of-kept gone [] h = refl
kept_of-kept gone (key ∷ keys) h = rw (h.0, kept_of-kept gone keys h.1) refl

due_gone_is : {K : Type 0} {gone : K → Bool} {old new : Circuit K} (left : Left gone old new) (s : State K) → Each (λ k. (gone k ≡ true) × IsDue old s k) (due_among left.keys old s)
due_gone_is {K} {gone} {old} left s = each_filter (λ k. gone k ≡ true) (λ k. (gone k ≡ true) × IsDue old s k) (λ k. due_at (old.role k) (s.cells k) s.time)
    (λ k g h. let d = due_at-true (old.role k) (s.cells k) s.time h in (g, record { component = d.0; there = d.1; waits = d.2; now = d.3 })) left.keys left.each

due_is_gone : {K : Type 0} {gone : K → Bool} {old new : Circuit K} (left : Left gone old new) (s : State K) (k : K) → gone k ≡ true → IsDue old s k → Among (due_among left.keys old s) k
due_is_gone {old} left s k h d = among_filter (λ j. due_at (old.role j) (s.cells j) s.time) left.keys k (left.all k h d.component d.there)
    (rw d.there (due_at_from d.component (s.cells k) s.time d.waits d.now))

kept_due : {K : Type 0} {gone : K → Bool} {old new : Circuit K} → Left gone old new → (s2 s1 : State K) → Agree gone s2 s1 → (k : K) → IsDue new s2 k → (gone k ≡ false) × IsDue old s1 k
kept_due {gone} left s2 s1 a k d = elim (cases_Bool (gone k)) [
  | inl e ↦ (let none : Some d.component ≡ None = sym d.there ∙ left.dropped k e in absurd (cc))
  | inr e ↦ (e, record { component = d.component; there = sym (left.role k e) ∙ d.there; waits = λ z. d.waits (ap (λ (c : Cell). c.due) (a.cells k e) ∙ z); now = ap (λ (c : Cell). c.due) (sym (a.cells k e)) ∙ d.now ∙ a.time })
]

due_kept : {K : Type 0} {gone : K → Bool} {old new : Circuit K} → Left gone old new → (s2 s1 : State K) → Agree gone s2 s1 → (k : K) → gone k ≡ false → IsDue old s1 k → IsDue new s2 k
due_kept left s2 s1 a k e d = record {
  component = d.component;
  there = left.role k e ∙ d.there;
  waits = λ z. d.waits (ap (λ (c : Cell). c.due) (sym (a.cells k e)) ∙ z);
  now = ap (λ (c : Cell). c.due) (a.cells k e) ∙ d.now ∙ sym a.time;
}

-- In the old circuit's firing list the keys that go and are due stand last within their priority.
old_order_is_firing_list : {K : Type 0} {gone : K → Bool} {old new : Circuit K} (left : Left gone old new) (s2 s1 : State K) → Agree gone s2 s1 → (keys : List K) →
    IsFiringList new s2 keys → IsFiringList old s1 (with_due left.keys old s1 keys)
old_order_is_firing_list {K} {gone} {old} {new} left s2 s1 a keys f = record {
  due = each_put_all_last (IsDue old s1) prio more keys
      (each_as (λ k. (gone k ≡ true) × IsDue old s1 k) (IsDue old s1) (λ k p. p.1) more (due_gone_is left s1))
      (each_as (λ k. (gone k ≡ false) × IsDue old s1 k) (IsDue old s1) (λ k p. p.1) keys kept);
  all = λ k d. among_put_all_last prio more keys k (elim (cases_Bool (gone k)) [
    | inl e ↦ inl (due_is_gone left s1 k e d)
    | inr e ↦ inr (f.all k (due_kept left s2 s1 a k e d))
  ]);
  once = once_put_all_last prio more keys (once_filter _ left.keys left.once)
      (each_as (λ k. (gone k ≡ true) × IsDue old s1 k) (λ m. Each (λ k. k ≢ m) keys)
      (λ m p. each_as (λ k. (gone k ≡ false) × IsDue old s1 k) (λ k. k ≢ m) (λ k q e. false≢true (sym q.0 ∙ ap gone e ∙ p.0)) keys kept) more (due_gone_is left s1))
      f.once;
  rising = rising_put_all_last prio more keys
      (rising_as (λ k. (s2.cells k).priority) prio keys (each_as (λ k. (gone k ≡ false) × IsDue old s1 k) (λ k. (s2.cells k).priority ≡ prio k) (λ k p. ap (λ (c : Cell). c.priority) (a.cells k p.0)) keys kept) f.rising);
}
  where
    prio : K → ℕ
    prio k = (s1.cells k).priority

    more : List K
    more = due_among left.keys old s1

    kept : Each (λ k. (gone k ≡ false) × IsDue old s1 k) keys
    kept = each_as (IsDue new s2) (λ k. (gone k ≡ false) × IsDue old s1 k) (kept_due left s2 s1 a) keys f.due

later_twins : {K : Type 0} {gone : K → Bool} {old : Circuit K} (s2 s1 : State K) → Twins gone old s2 s1 → Twins gone old (later s2) (later s1)
later_twins s2 s1 t = record { agree = record { time = ap (λ n. n + 1) t.agree.time; cells = t.agree.cells }; settled = t.settled }

pub click_twins : {K : Type 0} {gone : K → Bool} {old new : Circuit K} → Left gone old new → (pos : Pos) (click : Click) (s2 s1 t2 : State K) → Twins gone old s2 s1 → Clicks new pos click s2 t2 →
    (t1 : State K) × Clicks old pos click s1 t1 × Twins gone old t2 t1
click_twins {K} {gone} {old} {new} left pos click s2 s1 t2 t c = elim (cases_Bool (gone c.key)) [
  | inl e ↦ (let none : Some c.component ≡ None = sym c.there ∙ left.dropped c.key e in absurd (cc))
  | inr e ↦
      (let cells : s2.cells c.key ≡ s1.cells c.key = t.agree.cells c.key e in (
        set_value old s1 c.key c.value,
        record {
          key = c.key;
          component = c.component;
          value = c.value;
          there = sym (left.role c.key e) ∙ c.there;
          place = sym (left.place c.key e) ∙ c.place;
          takes = ap (λ (x : Cell). clicked c.component click x.value) (sym cells) ∙ c.takes;
          after = refl;
        },
        subst (λ (x : State K). Twins gone old x (set_value old s1 c.key c.value)) (sym c.after)
            (attend_twins left (put new s2 c.key (with_value (s2.cells c.key) c.value)) (put old s1 c.key (with_value (s1.cells c.key) c.value))
            (put_agree left s2 s1 c.key (with_value (s2.cells c.key) c.value) (with_value (s1.cells c.key) c.value) t.agree (ap (λ (x : Cell). with_value x c.value) cells))),
      ))
]

pub tick_twins : {K : Type 0} {gone : K → Bool} {old new : Circuit K} (left : Left gone old new) → IsTest old.same → (fires : List K) (s2 s1 t2 : State K) → Twins gone old s2 s1 → Ticks new fires s2 t2 →
    (t1 : State K) × Ticks old (with_due left.keys old (later s1) fires) s1 t1 × Twins gone old t2 t1
tick_twins {K} {gone} {old} {new} left test fires s2 s1 t2 t c = (
  fire_all old (later s1) order,
  record { order = old_order_is_firing_list left (later s2) (later s1) twins.agree fires c.order; after = refl },
  subst (λ (x : State K). Twins gone old x (fire_all old (later s1) order)) (sym c.after)
      (subst (λ keys. Twins gone old (fire_all new (later s2) keys) (fire_all old (later s1) order)) kept
      (fire_all_twins left test order (later s2) (later s1) twins)),
)
  where
    order : List K
    order = with_due left.keys old (later s1) fires

    twins : Twins gone old (later s2) (later s1)
    twins = later_twins s2 s1 t

    kept : kept_of gone order ≡ fires
    kept = kept_of-put_all_last gone (λ k. ((later s1).cells k).priority) (due_among left.keys old (later s1)) fires
        (each_as (λ k. (gone k ≡ true) × IsDue old (later s1) k) (λ k. gone k ≡ true) (λ k p. p.0) _ (due_gone_is left (later s1)))
        ∙ kept_of-kept gone fires
        (each_as (IsDue new (later s2)) (λ k. gone k ≡ false) (λ k d. (kept_due left (later s2) (later s1) twins.agree k d).0) fires c.order.due)

map_kept : {K A : Type 0} (L : K → Type 0) (f g : K → A) → ((k : K) → L k → f k ≡ g k) → (keys : List K) → Each L keys → map f keys ≡ map g keys
map_kept L f g h [] l = refl
map_kept L f g h (k ∷ keys) l = λ i. h k l.0 i ∷ map_kept L f g h keys l.1 i

pub view_twins : {K : Type 0} {gone : K → Bool} {old new : Circuit K} → Left gone old new → (s2 s1 : State K) → Twins gone old s2 s1 → view new s2 ≡ view old s1
view_twins {K} {gone} {old} {new} left s2 s1 t = ap (map (seen new s2)) left.shown ∙ map_kept (λ k. gone k ≡ false) (seen new s2) (seen old s1) one old.shown left.seen
  where
    one : (k : K) → gone k ≡ false → seen new s2 k ≡ seen old s1 k
    one k h = rw (left.role k h, t.agree.cells k h)
        (seen_at_alike (old.role k) (new.readings (outs new s2)) (old.readings (outs old s1)) k k (s1.cells k) (reads_agree left s2 s1 t.agree k h))

-- The law, with the order: each tick of the new circuit is one of the old, in whose firing list the kept keys stand as in the new one.
pub left_simulates : {K : Type 0} {gone : K → Bool} {old new : Circuit K} → Left gone old new → IsTest old.same → Simulates old new (Twins gone old)
left_simulates {K} {gone} {old} {new} left test = record {
  begins = attend_twins left (record { time = 0; cells = new.begin }) (record { time = 0; cells = old.begin }) (record { time = refl; cells = left.begin });
  views = view_twins left;
  clicks = click_twins left;
  ticks = λ fires s2 s1 t2 t c. let a = tick_twins left test fires s2 s1 t2 t c in (with_due left.keys old (later s1) fires, a.0, a.1, a.2);
}

-- So what is left refines the old circuit.
pub left_refines : {K : Type 0} {gone : K → Bool} {old new : Circuit K} → Left gone old new → IsTest old.same → Refines old new
left_refines left test = refines_by (left_simulates left test)
