-- What the cells of wires hold is never seen: a circuit that begins with other cells there shows the same. Where such a cell has a tick, the wire fires, and nothing changes.
use Rattle.std.proofs.Common.{◌≡◌, ◌≢◌, ℕ, ◌+◌, ◌≤◌, Bool, true, false, List, [], ◌∷◌, Option, Some, None, refl, sym, ap, subst, ◌∙◌, map, inl, inr, if◌then◌else◌}
use Rattle.std.specs.Prelude.{filter}
use Rattle.std.proofs.Math.Path.{fun_ext}
use Rattle.std.proofs.lemmas.Bool.{cases_Bool, false≢true}
use Rattle.circuit.specs.declared.Component.{Component}
use Rattle.circuit.specs.declared.Component.TheVariants.{Wire}
use Rattle.circuit.specs.declared.Readings.{Readings}
use Rattle.circuit.specs.declared.Cell.{Cell}
use Rattle.circuit.specs.declared.Pos.{Pos}
use Rattle.circuit.specs.declared.Click.{Click}
use Rattle.circuit.specs.Component.{out, clicked}
use Rattle.circuit.specs.Circuit.{Circuit, State, outs, out_at, put, attended_at, attend, fired_at, fired_in, fire, fire_all, with_value, set_value, Clicks, later, IsDue, Each, EachBefore, Among, IsFiringList, Ticks, seen_at, seen, view}
use Rattle.circuit.specs.Shows.{Refines}
use Rattle.circuit.specs.Keys.{IsTest, IsListed}
use Rattle.circuit.specs.Firing.{due_at}
use Rattle.circuit.proofs.Simulate.{Simulates, refines_by}
use Rattle.circuit.proofs.Keys.{not_key, each_as, rising_as, put_all_last, each_put_all_last, among_put_all_last, once_put_all_last, rising_put_all_last, each_filter, among_filter, once_filter}
use Rattle.circuit.proofs.Runs.{due_at-true, due_at_from, due_among}
use Rattle.circuit.proofs.LeftLaw.{Agree, kept_of, kept_of-put_all_last, kept_of-kept}
use Rattle.circuit.proofs.Joining.{IsAttended, attended_attend, attended_fire_all, attend-attended, beginning_with}

abbrev pub is_wire : Option Component → Bool
is_wire (Some Wire) = true
is_wire _ = false

-- the keys of wires
abbrev pub wire_key : {K : Type 0} → Circuit K → K → Bool
wire_key C k = is_wire (C.role k)

agree_sym : {K : Type 0} {gone : K → Bool} {s t : State K} → Agree gone s t → Agree gone t s
agree_sym a = record { time = sym a.time; cells = λ k h. sym (a.cells k h) }

agree_then : {K : Type 0} {gone : K → Bool} {s t u : State K} → Agree gone s t → Agree gone t u → Agree gone s u
agree_then a b = record { time = a.time ∙ b.time; cells = λ k h. a.cells k h ∙ b.cells k h }

-- ---- states that agree but for the cells of wires

out_at-agree : (role : Option Component) (base : ℕ) (one other : Cell) → (is_wire role ≡ false → one ≡ other) → out_at role base one ≡ out_at role base other
out_at-agree None base one other h = refl
out_at-agree (Some Wire) base one other h = refl
out_at-agree (Some component) base one other h = ap (λ (c : Cell). out component c.value) (h refl)

outs_agree : {K : Type 0} (C : Circuit K) (s t : State K) → Agree (wire_key C) s t → outs C s ≡ outs C t
outs_agree C s t a = fun_ext (λ k. out_at-agree (C.role k) (C.base k) (s.cells k) (t.cells k) (a.cells k))

attend_agree : {K : Type 0} (C : Circuit K) (s t : State K) → Agree (wire_key C) s t → Agree (wire_key C) (attend C s) (attend C t)
attend_agree C s t a = record {
  time = a.time;
  cells = λ k h i. attended_at (a.time i) (C.role k) (C.first k) (C.readings (outs_agree C s t a i)) k (a.cells k h i);
}

put_agree : {K : Type 0} (C : Circuit K) (s t : State K) (key : K) (one other : Cell) → one ≡ other → Agree (wire_key C) s t → Agree (wire_key C) (put C s key one) (put C t key other)
put_agree C s t key one other e a = record { time = a.time; cells = λ k h i. if C.same k key then e i else a.cells k h i }

fire_agree : {K : Type 0} (C : Circuit K) (s t : State K) (key : K) → wire_key C key ≡ false → Agree (wire_key C) s t → Agree (wire_key C) (fire C s key) (fire C t key)
fire_agree C s t key h a =
    let fires : fired_in C s key ≡ fired_in C t key = λ i. fired_at (a.time i) (C.role key) (C.first key) (C.readings (outs_agree C s t a i)) key (a.cells key h i) in
    attend_agree C (put C s key (fired_in C s key)) (put C t key (fired_in C t key)) (put_agree C s t key (fired_in C s key) (fired_in C t key) fires a)

-- A wire that fires changes nothing else, where all have attended.
fire_wire : {K : Type 0} (C : Circuit K) → IsTest C.same → (s : State K) → IsAttended C s → (key : K) → wire_key C key ≡ true → Agree (wire_key C) s (fire C s key)
fire_wire {K} C test s attended key w =
    subst (λ (t : State K). Agree (wire_key C) t (fire C s key)) (attend-attended C s attended)
    (attend_agree C s (put C s key (fired_in C s key)) (record { time = refl; cells = λ k h. rw (not_key test k key (apart k h)) refl }))
  where
    apart : (k : K) → wire_key C k ≡ false → k ≢ key
    apart k h e = false≢true (sym h ∙ ap (wire_key C) e ∙ w)

-- So it doesn't matter whether wires fire.
fire_but_wires : {K : Type 0} (C : Circuit K) → IsTest C.same → (keys : List K) (s t : State K) → IsAttended C t → Agree (wire_key C) s t →
    Agree (wire_key C) (fire_all C s (kept_of (wire_key C) keys)) (fire_all C t keys)
fire_but_wires C test [] s t attended a = a
fire_but_wires C test (key ∷ keys) s t attended a = elim (cases_Bool (wire_key C key)) [
  | inl w ↦ rw w (fire_but_wires C test keys s (fire C t key) (attended_attend C (put C t key (fired_in C t key))) (agree_then a (fire_wire C test t attended key w)))
  | inr w ↦ rw w (fire_but_wires C test keys (fire C s key) (fire C t key) (attended_attend C (put C t key (fired_in C t key))) (fire_agree C s t key w a))
]

-- Two lists that are one but for wires lead to states that agree.
fire_all_agree : {K : Type 0} (C : Circuit K) → IsTest C.same → (keys others : List K) → kept_of (wire_key C) others ≡ kept_of (wire_key C) keys →
    (s t : State K) → IsAttended C s → IsAttended C t → Agree (wire_key C) s t → Agree (wire_key C) (fire_all C s keys) (fire_all C t others)
fire_all_agree {K} C test keys others e s t attended also a =
    agree_then (agree_sym (fire_but_wires C test keys t s attended (agree_sym a)))
    (subst (λ (ks : List K). Agree (wire_key C) (fire_all C t ks) (fire_all C t others)) e
    (fire_but_wires C test others t t also (record { time = refl; cells = λ k h. refl })))

-- ---- what is left of a list without some keys

each_is : {K : Type 0} (keys : List K) → Each (λ k. Unit {0}) keys
each_is [] = tt
each_is (k ∷ keys) = (tt, each_is keys)

each_kept : {K : Type 0} (gone : K → Bool) (P : K → Type 0) (keys : List K) → Each P keys → Each (λ k. (gone k ≡ false) × P k) (kept_of gone keys)
each_kept gone P [] e = tt
each_kept gone P (key ∷ keys) e = elim (cases_Bool (gone key)) [
  | inl h ↦ rw h (each_kept gone P keys e.1)
  | inr h ↦ rw h ((h, e.0), each_kept gone P keys e.1)
]

before_kept : {K : Type 0} (gone : K → Bool) (R : K → K → Type 0) (keys : List K) → EachBefore R keys → EachBefore R (kept_of gone keys)
before_kept gone R [] e = tt
before_kept gone R (key ∷ keys) e = elim (cases_Bool (gone key)) [
  | inl h ↦ rw h (before_kept gone R keys e.1)
  | inr h ↦ rw h (each_as (λ k. (gone k ≡ false) × R key k) (R key) (λ k p. p.1) (kept_of gone keys) (each_kept gone (R key) keys e.0), before_kept gone R keys e.1)
]

among_kept : {K : Type 0} (gone : K → Bool) (keys : List K) (k : K) → Among keys k → gone k ≡ false → Among (kept_of gone keys) k
among_kept gone [] k a h = absurd a
among_kept gone (one ∷ keys) k a h = elim a [
  | inl e ↦ (let here : gone one ≡ false = subst (λ j. gone j ≡ false) e h in rw here (inl e))
  | inr b ↦ elim (cases_Bool (gone one)) [ inl e ↦ rw e (among_kept gone keys k b h) | inr e ↦ rw e (inr (among_kept gone keys k b h)) ]
]

-- ---- firing lists

due_agree : {K : Type 0} (C : Circuit K) (s t : State K) → Agree (wire_key C) s t → (k : K) → wire_key C k ≡ false → IsDue C s k → IsDue C t k
due_agree C s t a k h d =
    let e : (s.cells k).due ≡ (t.cells k).due = ap (λ (c : Cell). c.due) (a.cells k h) in
    record { component = d.component; there = d.there; waits = λ z. d.waits (e ∙ z); now = sym e ∙ d.now ∙ a.time }

-- the wires that are due, among the keys
abbrev due_wires : {K : Type 0} → List K → Circuit K → State K → List K
due_wires keys C s = filter (wire_key C) (due_among keys C s)

-- The firing list of a state that agrees: its own wires, in place of the others.
abbrev with_wires : {K : Type 0} → List K → Circuit K → State K → List K → List K
with_wires keys C s fires = put_all_last (λ k. (s.cells k).priority) (due_wires keys C s) (kept_of (wire_key C) fires)

due_wires_are : {K : Type 0} (C : Circuit K) (keys : List K) (s : State K) → Each (λ k. (wire_key C k ≡ true) × IsDue C s k) (due_wires keys C s)
due_wires_are {K} C keys s =
    each_filter (IsDue C s) (λ k. (wire_key C k ≡ true) × IsDue C s k) (wire_key C) (λ k d h. (h, d)) (due_among keys C s)
    (each_filter (λ k. Unit {0}) (IsDue C s) (λ k. due_at (C.role k) (s.cells k) s.time)
    (λ k u h. let d = due_at-true (C.role k) (s.cells k) s.time h in record { component = d.0; there = d.1; waits = d.2; now = d.3 }) keys (each_is keys))

firing_list_agrees : {K : Type 0} (C : Circuit K) (keys : List K) → IsListed C keys → (s t : State K) → Agree (wire_key C) s t → (fires : List K) →
    IsFiringList C s fires → IsFiringList C t (with_wires keys C t fires)
firing_list_agrees {K} C keys listed s t a fires f = record {
  due = each_put_all_last (IsDue C t) priority wires others
      (each_as (λ k. (wire_key C k ≡ true) × IsDue C t k) (IsDue C t) (λ k p. p.1) wires (due_wires_are C keys t))
      (each_as (λ k. (wire_key C k ≡ false) × IsDue C s k) (IsDue C t) (λ k p. due_agree C s t a k p.0 p.1) others kept);
  all = λ k d. among_put_all_last priority wires others k (elim (cases_Bool (wire_key C k)) [
    | inl w ↦ inl (among_filter (wire_key C) (due_among keys C t) k
        (among_filter (λ j. due_at (C.role j) (t.cells j) t.time) keys k (listed.all k d.component d.there) (rw d.there (due_at_from d.component (t.cells k) t.time d.waits d.now))) w)
    | inr w ↦ inr (among_kept (wire_key C) fires k (f.all k (due_agree C t s (agree_sym a) k w d)) w)
  ]);
  once = once_put_all_last priority wires others
      (once_filter (wire_key C) (due_among keys C t) (once_filter (λ k. due_at (C.role k) (t.cells k) t.time) keys listed.once))
      (each_as (λ k. (wire_key C k ≡ true) × IsDue C t k) (λ m. Each (λ k. k ≢ m) others)
      (λ m p. each_as (λ k. (wire_key C k ≡ false) × IsDue C s k) (λ k. k ≢ m) (λ k q e. false≢true (sym q.0 ∙ ap (wire_key C) e ∙ p.0)) others kept) wires (due_wires_are C keys t))
      (before_kept (wire_key C) (λ x y. x ≢ y) fires f.once);
  rising = rising_put_all_last priority wires others
      (rising_as (λ k. (s.cells k).priority) priority others
      (each_as (λ k. (wire_key C k ≡ false) × IsDue C s k) (λ k. (s.cells k).priority ≡ priority k) (λ k p. ap (λ (c : Cell). c.priority) (a.cells k p.0)) others kept)
      (before_kept (wire_key C) (λ x y. (s.cells x).priority ≤ (s.cells y).priority) fires f.rising));
}
  where
    priority : K → ℕ
    priority k = (t.cells k).priority

    wires : List K
    wires = due_wires keys C t

    others : List K
    others = kept_of (wire_key C) fires

    kept : Each (λ k. (wire_key C k ≡ false) × IsDue C s k) others
    kept = each_kept (wire_key C) (IsDue C s) fires f.due

same_but_wires : {K : Type 0} (C : Circuit K) (keys : List K) (s : State K) (fires : List K) → kept_of (wire_key C) (with_wires keys C s fires) ≡ kept_of (wire_key C) fires
same_but_wires C keys s fires =
    kept_of-put_all_last (wire_key C) (λ k. (s.cells k).priority) (due_wires keys C s) (kept_of (wire_key C) fires)
    (each_as (λ k. (wire_key C k ≡ true) × IsDue C s k) (λ k. wire_key C k ≡ true) (λ k p. p.0) (due_wires keys C s) (due_wires_are C keys s))
    ∙ kept_of-kept (wire_key C) (kept_of (wire_key C) fires)
    (each_as (λ k. (wire_key C k ≡ false) × Unit {0}) (λ k. wire_key C k ≡ false) (λ k p. p.0) (kept_of (wire_key C) fires) (each_kept (wire_key C) (λ k. Unit {0}) fires (each_is fires)))

-- ---- the simulation

-- The states agree but for the cells of wires, and all have attended in both.
record Twins {K : Type 0} (C : Circuit K) (s t : State K) : Type 0 where
  agree : Agree (wire_key C) s t
  attended : IsAttended C s
  also : IsAttended C t

twins_attend : {K : Type 0} (C : Circuit K) (s t : State K) → Agree (wire_key C) s t → Twins C (attend C s) (attend C t)
twins_attend C s t a = record { agree = attend_agree C s t a; attended = attended_attend C s; also = attended_attend C t }

seen_at-agree : {K : Type 0} (role : Option Component) (reads : K → Readings) (k : K) (one other : Cell) → (is_wire role ≡ false → one ≡ other) →
    seen_at role reads k one ≡ seen_at role reads k other
seen_at-agree None reads k one other h = refl
seen_at-agree (Some Wire) reads k one other h = refl
seen_at-agree (Some component) reads k one other h = ap (λ (c : Cell). c.value) (h refl)

view_agree : {K : Type 0} (C : Circuit K) (s t : State K) → Agree (wire_key C) s t → view C s ≡ view C t
view_agree {K} C s t a = ap (λ (f : K → ℕ). map f C.shown) (fun_ext one)
  where
    one : (k : K) → seen C s k ≡ seen C t k
    one k = ap (λ (given : K → ℕ). seen_at (C.role k) (C.readings given) k (s.cells k)) (outs_agree C s t a)
        ∙ seen_at-agree (C.role k) (C.readings (outs C t)) k (s.cells k) (t.cells k) (a.cells k)

-- no wire takes a click
clicked_no_wire : (component : Component) (click : Click) (value new : ℕ) → clicked component click value ≡ Some new → is_wire (Some component) ≡ false
clicked_no_wire Wire click value new e = absurd (cc)
clicked_no_wire _ click value new e = refl

click_twins : {K : Type 0} (C : Circuit K) (begin : K → Cell) (pos : Pos) (click : Click) (s t next : State K) → Twins C s t → Clicks C pos click s next →
    (end : State K) × Clicks (beginning_with begin C) pos click t end × Twins C next end
click_twins {K} C begin pos click s t next twins c =
    let w : wire_key C c.key ≡ false = ap is_wire c.there ∙ clicked_no_wire c.component click (s.cells c.key).value c.value c.takes in
    let cell : s.cells c.key ≡ t.cells c.key = twins.agree.cells c.key w in (
      set_value C t c.key c.value,
      record {
        key = c.key;
        component = c.component;
        value = c.value;
        there = c.there;
        place = c.place;
        takes = ap (λ (x : Cell). clicked c.component click x.value) (sym cell) ∙ c.takes;
        after = refl;
      },
      subst (λ (x : State K). Twins C x (set_value C t c.key c.value)) (sym c.after)
          (twins_attend C (put C s c.key (with_value (s.cells c.key) c.value)) (put C t c.key (with_value (t.cells c.key) c.value))
          (put_agree C s t c.key (with_value (s.cells c.key) c.value) (with_value (t.cells c.key) c.value) (ap (λ (x : Cell). with_value x c.value) cell) twins.agree)),
    )

-- no event looks at what a circuit holds before the start
firing_list_with : {K : Type 0} {C : Circuit K} (begin : K → Cell) (s : State K) (keys : List K) → IsFiringList C s keys → IsFiringList (beginning_with begin C) s keys
firing_list_with {C} begin s keys f = record {
  due = each_as (IsDue C s) (IsDue (beginning_with begin C) s) (λ k d. record { component = d.component; there = d.there; waits = d.waits; now = d.now }) keys f.due;
  all = λ k d. f.all k (record { component = d.component; there = d.there; waits = d.waits; now = d.now });
  once = f.once;
  rising = f.rising;
}

tick_twins : {K : Type 0} (C : Circuit K) → IsTest C.same → (keys : List K) → IsListed C keys → (begin : K → Cell) (fires : List K) (s t next : State K) → Twins C s t → Ticks C fires s next →
    (others : List K) × (end : State K) × Ticks (beginning_with begin C) others t end × Twins C next end
tick_twins {K} C test keys listed begin fires s t next twins tick = (
  others,
  fire_all C (later t) others,
  record { order = firing_list_with begin (later t) others (firing_list_agrees C keys listed (later s) (later t) agree fires tick.order); after = refl },
  subst (λ (x : State K). Twins C x (fire_all C (later t) others)) (sym tick.after) (record {
    agree = fire_all_agree C test fires others (same_but_wires C keys (later t) fires) (later s) (later t) attended also agree;
    attended = attended_fire_all C fires (later s) attended;
    also = attended_fire_all C others (later t) also;
  }),
)
  where
    others : List K
    others = with_wires keys C (later t) fires

    agree : Agree (wire_key C) (later s) (later t)
    agree = record { time = ap (λ n. n + 1) twins.agree.time; cells = twins.agree.cells }

    attended : IsAttended C (later s)
    attended = record { each = twins.attended.each }

    also : IsAttended C (later t)
    also = record { each = twins.also.each }

-- A circuit that begins with other cells for its wires shows the same.
pub wire_cells_unseen : {K : Type 0} (C : Circuit K) → IsTest C.same → (keys : List K) → IsListed C keys → (begin : K → Cell) →
    ((k : K) → wire_key C k ≡ false → C.begin k ≡ begin k) → Refines (beginning_with begin C) C
wire_cells_unseen {K} C test keys listed begin same = refines_by sim
  where
    sim : Simulates (beginning_with begin C) C (Twins C)
    sim = record {
      begins = twins_attend C (record { time = 0; cells = C.begin }) (record { time = 0; cells = begin }) (record { time = refl; cells = same });
      views = λ s t twins. view_agree C s t twins.agree;
      clicks = click_twins C begin;
      ticks = tick_twins C test keys listed begin;
    }
