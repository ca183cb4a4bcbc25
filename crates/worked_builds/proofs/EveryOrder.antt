-- All runs of a script, tested by computing: whether they show these views, in whatever order what is due together fires.
use Rattle.std.proofs.Common.{◌≡◌, ◌≢◌, ℕ, zero, suc, ◌+◌, ◌≤◌, Bool, true, false, List, [], ◌∷◌, length, Option, Some, None, refl, sym, ap, subst, ◌∙◌, arith, inl, inr}
use Rattle.std.specs.Prelude.{not, ◌&&◌, ◌||◌, ◌==◌, nat_le, filter}
use Rattle.std.proofs.lemmas.Bool.{and_parts, and_from, or_cases, both_ways, cases_Bool, not-true, not_from_false, eqb-true, le-leb, false≢true}
use Rattle.circuit.specs.declared.Act.{Act}
use Rattle.circuit.specs.declared.Pos.{Pos}
use Rattle.circuit.specs.declared.Click.{Click}
use Rattle.circuit.specs.declared.Component.{Component}
use Rattle.circuit.specs.declared.Step.{Step}
use Rattle.circuit.specs.declared.Step.TheVariants.{Click as ClickAt, Tick as OneTick}
use Rattle.circuit.specs.Component.{clicked}
use Rattle.circuit.specs.Circuit.{Circuit, State, Clicks, IsDue, Each, EachBefore, Among, IsFiringList, start, set_value, later, fire, fire_all, view}
use Rattle.circuit.specs.Firing.{due_at}
use Rattle.circuit.specs.Keys.{IsTest, IsListed}
use Rattle.circuit.specs.Shows.{Run, Ended, Clicked, Ticked, Shows, steps_of, clicks_in, fires_in}
use Rattle.circuit.proofs.Keys.{is_key, not_key, each_as, among_filter}
use Rattle.circuit.proofs.Runs.{due_among, due_at-true, due_at_from, tick_exists}
use Rattle.build.specs.Plan.{Plan, places}
use Rattle.power_rules.specs.World.{world_circuit}
use Rattle.power_rules.proofs.Joining.{test_of_places}
use Rattle.power_rules.proofs.Listed.{world_listed}
use Rattle.worked_builds.specs.ShowsOnly.{ShowsOnly}

-- ---- tests

abbrev each : (Pos → Bool) → List Pos → Bool
each test [] = true
each test (key ∷ keys) = test key && each test keys

-- whether none of the keys has a lesser priority
abbrev leads : (Pos → ℕ) → List Pos → Pos → Bool
leads priority keys key = each (λ other. nat_le (priority key) (priority other)) keys

abbrev without : (Pos → Pos → Bool) → Pos → List Pos → List Pos
without same key keys = filter (λ other. not (same key other)) keys

-- whether each state passes the test to which these keys lead, in whatever order they fire by priority; no more than n may be left
abbrev all_fired : Circuit Pos → (Pos → ℕ) → (State Pos → Bool) → ℕ → List Pos → State Pos → Bool
all_fired C priority test n [] s = test s
all_fired C priority test zero (key ∷ due) s = false
all_fired C priority test (suc n) (key ∷ due) s =
    each (λ next. not (leads priority (key ∷ due) next) || all_fired C priority test n (without C.same next (key ∷ due)) (fire C s next)) (key ∷ due)

abbrev all_ticked : Circuit Pos → List Pos → (State Pos → Bool) → State Pos → Bool
all_ticked C keys test s = all_fired C (λ key. (s.cells key).priority) test (length (due_among keys C s)) (due_among keys C s) s

-- the value that a component takes by a click
abbrev taken : Option Component → Click → ℕ → Option ℕ
taken None click value = None
taken (Some component) click value = clicked component click value

-- whether a value is taken, and the state passes the test to which that leads
abbrev all_clicked : Circuit Pos → (State Pos → Bool) → State Pos → Pos → Option ℕ → Bool
all_clicked C test s p None = false
all_clicked C test s p (Some value) = test (set_value C s p value)

abbrev same_list : List ℕ → List ℕ → Bool
same_list [] [] = true
same_list (x ∷ xs) (y ∷ ys) = (x == y) && same_list xs ys
same_list xs ys = false

-- whether all runs of the steps show these views, and there is one
abbrev all_show : Circuit Pos → List Pos → List Step → List (List ℕ) → State Pos → Bool
all_show C keys [] [] s = true
all_show C keys [] (one ∷ views) s = false
all_show C keys (step ∷ steps) [] s = false
all_show C keys (ClickAt p click ∷ steps) (one ∷ views) s =
    all_clicked C (λ next. same_list (view C next) one && all_show C keys steps views next) s p (taken (C.role p) click (s.cells p).value)
all_show C keys (OneTick ∷ steps) (one ∷ views) s =
    all_ticked C keys (λ next. same_list (view C next) one && all_show C keys steps views next) (later s)

abbrev all_play : Circuit Pos → List Pos → List Act → List (List ℕ) → Bool
all_play C keys acts [] = false
all_play C keys acts (one ∷ views) = same_list (view C (start C)) one && all_show C keys (steps_of acts) views (start C)

-- ---- lists

each_of : (test : Pos → Bool) (keys : List Pos) (key : Pos) → each test keys ≡ true → Among keys key → test key ≡ true
each_of test [] key h a = absurd a
each_of test (one ∷ keys) key h a =
    let parts = and_parts (test one) (each test keys) h in
    elim a [ inl e ↦ subst (λ k. test k ≡ true) (sym e) parts.0 | inr b ↦ each_of test keys key parts.1 b ]

each_from : (test : Pos → Bool) (keys : List Pos) → ((key : Pos) → Among keys key → test key ≡ true) → each test keys ≡ true
each_from test [] h = refl
each_from test (one ∷ keys) h = and_from (test one) (each test keys) (h one (inl refl)) (each_from test keys (λ key a. h key (inr a)))

each_there : (P : Pos → Type 0) (keys : List Pos) (key : Pos) → Each P keys → Among keys key → P key
each_there P [] key e a = absurd a
each_there P (one ∷ keys) key e a = elim a [ inl h ↦ subst P (sym h) e.0 | inr b ↦ each_there P keys key e.1 b ]

each_both : (P Q R : Pos → Type 0) → ((key : Pos) → P key → Q key → R key) → (keys : List Pos) → Each P keys → Each Q keys → Each R keys
each_both P Q R f [] p q = tt
each_both P Q R f (one ∷ keys) p q = (f one p.0 q.0, each_both P Q R f keys p.1 q.1)

filter_among : (test : Pos → Bool) (keys : List Pos) (key : Pos) → Among (filter test keys) key → Among keys key × (test key ≡ true)
filter_among test [] key a = absurd a
filter_among test (one ∷ keys) key a = elim (cases_Bool (test one)) [
  | inl h ↦ elim (rw h at a) [
    | inl e ↦ (inl e, subst (λ k. test k ≡ true) (sym e) h)
    | inr b ↦ (let more = filter_among test keys key b in (inr more.0, more.1))
  ]
  | inr h ↦ (let more = filter_among test keys key (rw h at a) in (inr more.0, more.1))
]

same_list_is : (xs ys : List ℕ) → same_list xs ys ≡ true → xs ≡ ys
same_list_is [] [] h = refl
same_list_is [] (y ∷ ys) h = absurd (false≢true h)
same_list_is (x ∷ xs) [] h = absurd (false≢true h)
same_list_is (x ∷ xs) (y ∷ ys) h =
    let parts = and_parts (x == y) (same_list xs ys) h in
    let first : x ≡ y = eqb-true x y parts.0 in
    let rest : xs ≡ ys = same_list_is xs ys parts.1 in
    cc

-- ---- one tick

leads_where : (priority : Pos → ℕ) (key : Pos) (fires : List Pos) → Each (λ other. priority key ≤ priority other) fires → (other : Pos) → Among (key ∷ fires) other → priority key ≤ priority other
leads_where priority key fires rises other a = elim a [
  | inl e ↦ (let same : priority other ≡ priority key = ap priority e in omega arith)
  | inr b ↦ each_there (λ k. priority key ≤ priority k) fires other rises b
]

-- what passes for each order passes for one
fired_in_order : (C : Circuit Pos) → IsTest C.same → (priority : Pos → ℕ) (test : State Pos → Bool) (n : ℕ) (due : List Pos) (s : State Pos) (fires : List Pos) →
    all_fired C priority test n due s ≡ true → Each (Among due) fires → ((key : Pos) → Among due key → Among fires key) →
    EachBefore (λ a b. a ≢ b) fires → EachBefore (λ a b. priority a ≤ priority b) fires → test (fire_all C s fires) ≡ true
fired_in_order C t priority test n [] s [] h each all once rises = h
fired_in_order C t priority test n [] s (key ∷ fires) h each all once rises = absurd each.0
fired_in_order C t priority test n (one ∷ due) s [] h each all once rises = absurd (all one (inl refl))
fired_in_order C t priority test zero (one ∷ due) s (key ∷ fires) h each all once rises = absurd (false≢true h)
fired_in_order C t priority test (suc n) (one ∷ due) s (key ∷ fires) h each all once rises =
    fired_in_order C t priority test n (without C.same key (one ∷ due)) (fire C s key) fires passes
    (each_both (Among (one ∷ due)) (λ k. key ≢ k) (Among (without C.same key (one ∷ due)))
    (λ k a apart. among_filter (λ other. not (C.same key other)) (one ∷ due) k a (not_from_false (C.same key k) (not_key t key k apart))) fires each.1 once.0)
    (λ k a. left k (filter_among (λ other. not (C.same key other)) (one ∷ due) k a)) once.1 rises.1
  where
    lead : leads priority (one ∷ due) key ≡ true
    lead = each_from (λ other. nat_le (priority key) (priority other)) (one ∷ due)
        (λ other a. le-leb (priority key) (priority other) (leads_where priority key fires rises.0 other (all other a)))

    passes : all_fired C priority test n (without C.same key (one ∷ due)) (fire C s key) ≡ true
    passes = elim (or_cases (not (leads priority (one ∷ due) key)) (all_fired C priority test n (without C.same key (one ∷ due)) (fire C s key))
        (each_of (λ next. not (leads priority (one ∷ due) next) || all_fired C priority test n (without C.same next (one ∷ due)) (fire C s next)) (one ∷ due) key h each.0)) [
          | inl e ↦ absurd (both_ways (leads priority (one ∷ due) key) (not-true (leads priority (one ∷ due) key) e) lead)
          | inr e ↦ e
        ]

    left : (k : Pos) → Among (one ∷ due) k × (not (C.same key k) ≡ true) → Among fires k
    left k a = elim (all k a.0) [
      | inl e ↦ absurd (both_ways (C.same key k) (not-true (C.same key k) a.1) (is_key t key k (sym e)))
      | inr b ↦ b
    ]

-- and so for each firing list
ticked_in_order : (C : Circuit Pos) → IsTest C.same → (keys : List Pos) → IsListed C keys → (test : State Pos → Bool) (s : State Pos) (fires : List Pos) →
    all_ticked C keys test s ≡ true → IsFiringList C s fires → test (fire_all C s fires) ≡ true
ticked_in_order C t keys listed test s fires h f =
    fired_in_order C t (λ key. (s.cells key).priority) test (length (due_among keys C s)) (due_among keys C s) s fires h
    (each_as (IsDue C s) (Among (due_among keys C s)) (λ k d. among_filter is_due keys k (listed.all k d.component d.there) (rw d.there (due_at_from d.component (s.cells k) s.time d.waits d.now))) fires f.due)
    (λ k a. let d = due_at-true (C.role k) (s.cells k) s.time (filter_among is_due keys k a).1 in f.all k (record { component = d.0; there = d.1; waits = d.2; now = d.3 }))
    f.once f.rising
  where
    is_due : Pos → Bool
    is_due key = due_at (C.role key) (s.cells key) s.time

-- ---- runs

-- what passed at a click that is taken
clicked_passes : (C : Circuit Pos) (test : State Pos → Bool) (s : State Pos) (p : Pos) (found : Option ℕ) → all_clicked C test s p found ≡ true →
    (value : ℕ) × (found ≡ Some value) × (test (set_value C s p value) ≡ true)
clicked_passes C test s p None h = absurd (false≢true h)
clicked_passes C test s p (Some value) h = (value, refl, h)

clicks_where : (C : Circuit Pos) → ((p : Pos) → C.place p ≡ p) → (s : State Pos) (p : Pos) (click : Click) (value : ℕ) (role : Option Component) → C.role p ≡ role →
    taken role click (s.cells p).value ≡ Some value → Clicks C p click s (set_value C s p value)
clicks_where C at s p click value None there e = absurd (cc)
clicks_where C at s p click value (Some component) there e = record { key = p; component = component; value = value; there = there; place = at p; takes = e; after = refl }

-- a click leads to one state
clicks_to : (C : Circuit Pos) → ((p : Pos) → C.place p ≡ p) → (s next : State Pos) (p : Pos) (click : Click) (value : ℕ) →
    taken (C.role p) click (s.cells p).value ≡ Some value → Clicks C p click s next → next ≡ set_value C s p value
clicks_to C at s next p click value e c =
    let key : c.key ≡ p = sym (at c.key) ∙ c.place in
    let there : C.role p ≡ Some c.component = subst (λ (k : Pos). C.role k ≡ Some c.component) key c.there in
    let takes : clicked c.component click (s.cells p).value ≡ Some c.value = subst (λ (k : Pos). clicked c.component click (s.cells k).value ≡ Some c.value) key c.takes in
    let same : ◌≡◌ {A = Option ℕ} (Some c.value) (Some value) = sym takes ∙ sym (ap (λ (role : Option Component). taken role click (s.cells p).value) there) ∙ e in
    let value_is : c.value ≡ value = cc in
    c.after ∙ ap (λ (k : Pos). set_value C s k c.value) key ∙ ap (set_value C s p) value_is

-- There is a run that shows the views.
one_run : (C : Circuit Pos) → IsTest C.same → (keys : List Pos) → IsListed C keys → ((p : Pos) → C.place p ≡ p) →
    (steps : List Step) (views : List (List ℕ)) (s : State Pos) → all_show C keys steps views s ≡ true → (order : List (List Pos)) × (last : State Pos) × Run C s steps order views last
one_run C t keys listed at [] [] s h = ([], s, Ended)
one_run C t keys listed at [] (one ∷ views) s h = absurd (false≢true h)
one_run C t keys listed at (ClickAt p click ∷ steps) [] s h = absurd (false≢true h)
one_run C t keys listed at (OneTick ∷ steps) [] s h = absurd (false≢true h)
one_run C t keys listed at (ClickAt p click ∷ steps) (one ∷ views) s h =
    let hit = clicked_passes C (λ next. same_list (view C next) one && all_show C keys steps views next) s p (taken (C.role p) click (s.cells p).value) h in
    let next : State Pos = set_value C s p hit.0 in
    let parts = and_parts (same_list (view C next) one) (all_show C keys steps views next) hit.2 in
    let more = one_run C t keys listed at steps views next parts.1 in (
      more.0,
      more.1,
      subst (λ (v : List ℕ). Run C s (ClickAt p click ∷ steps) more.0 (v ∷ views) more.1) (same_list_is (view C next) one parts.0)
          (Clicked (clicks_where C at s p click hit.0 (C.role p) refl hit.1) more.2),
    )
one_run C t keys listed at (OneTick ∷ steps) (one ∷ views) s h =
    let tick = tick_exists listed s in
    let fires : List Pos = tick.0 in
    let next : State Pos = fire_all C (later s) fires in
    let parts = and_parts (same_list (view C next) one) (all_show C keys steps views next)
    (ticked_in_order C t keys listed (λ next. same_list (view C next) one && all_show C keys steps views next) (later s) fires h tick.2.order) in
    let more = one_run C t keys listed at steps views next parts.1 in (
      fires ∷ more.0,
      more.1,
      subst (λ (v : List ℕ). Run C s (OneTick ∷ steps) (fires ∷ more.0) (v ∷ views) more.1) (same_list_is (view C next) one parts.0)
          (Ticked (record { order = tick.2.order; after = refl }) more.2),
    )

-- Each run shows them.
each_run : (C : Circuit Pos) → IsTest C.same → (keys : List Pos) → IsListed C keys → ((p : Pos) → C.place p ≡ p) →
    {s last : State Pos} {steps : List Step} {order : List (List Pos)} {others : List (List ℕ)} → Run C s steps order others last →
    (views : List (List ℕ)) → all_show C keys steps views s ≡ true → others ≡ views
each_run C t keys listed at Ended [] h = refl
each_run C t keys listed at Ended (one ∷ views) h = absurd (false≢true h)
each_run C t keys listed at (Clicked hit run) [] h = absurd (false≢true h)
each_run C t keys listed at (Ticked tick run) [] h = absurd (false≢true h)
each_run C t keys listed at {s} (Clicked {next} {pos = p} {click} {steps} {views = more} hit run) (one ∷ views) h =
    let found = clicked_passes C (λ next. same_list (view C next) one && all_show C keys steps views next) s p (taken (C.role p) click (s.cells p).value) h in
    let passes : (same_list (view C next) one && all_show C keys steps views next) ≡ true =
    subst (λ (x : State Pos). (same_list (view C x) one && all_show C keys steps views x) ≡ true) (sym (clicks_to C at s next p click found.0 found.1 hit)) found.2 in
    let parts = and_parts (same_list (view C next) one) (all_show C keys steps views next) passes in
    let first : view C next ≡ one = same_list_is (view C next) one parts.0 in
    let rest : more ≡ views = each_run C t keys listed at run views parts.1 in
    cc
each_run C t keys listed at {s} (Ticked {next} {fires} {steps} {views = more} tick run) (one ∷ views) h =
    let passes : (same_list (view C next) one && all_show C keys steps views next) ≡ true =
    subst (λ (x : State Pos). (same_list (view C x) one && all_show C keys steps views x) ≡ true) (sym tick.after)
    (ticked_in_order C t keys listed (λ next. same_list (view C next) one && all_show C keys steps views next) (later s) fires h tick.order) in
    let parts = and_parts (same_list (view C next) one) (all_show C keys steps views next) passes in
    let first : view C next ≡ one = same_list_is (view C next) one parts.0 in
    let rest : more ≡ views = each_run C t keys listed at run views parts.1 in
    cc

may_show : (C : Circuit Pos) → IsTest C.same → (keys : List Pos) → IsListed C keys → ((p : Pos) → C.place p ≡ p) → (acts : List Act) (views : List (List ℕ)) →
    all_play C keys acts views ≡ true → (events : ℕ) × Shows C acts views events
may_show C t keys listed at acts [] h = absurd (false≢true h)
may_show C t keys listed at acts (one ∷ views) h =
    let parts = and_parts (same_list (view C (start C)) one) (all_show C keys (steps_of acts) views (start C)) h in
    let first : view C (start C) ≡ one = same_list_is (view C (start C)) one parts.0 in
    let run = one_run C t keys listed at (steps_of acts) views (start C) parts.1 in
    (clicks_in acts + fires_in run.0, record { order = run.0; last = run.1; plays = record { rest = views; at_start = ap (λ (v : List ℕ). v ∷ views) (sym first); run = run.2 }; count = refl })

shows_alone : (C : Circuit Pos) → IsTest C.same → (keys : List Pos) → IsListed C keys → ((p : Pos) → C.place p ≡ p) → (acts : List Act) (views : List (List ℕ)) →
    all_play C keys acts views ≡ true → (other : List (List ℕ)) (events : ℕ) → Shows C acts other events → other ≡ views
shows_alone C t keys listed at acts [] h other events sh = absurd (false≢true h)
shows_alone C t keys listed at acts (one ∷ views) h other events sh =
    let parts = and_parts (same_list (view C (start C)) one) (all_show C keys (steps_of acts) views (start C)) h in
    let first : view C (start C) ≡ one = same_list_is (view C (start C)) one parts.0 in
    let rest : sh.plays.rest ≡ views = each_run C t keys listed at sh.plays.run views parts.1 in
    sh.plays.at_start ∙ ap (λ (v : List ℕ). v ∷ sh.plays.rest) first ∙ ap (λ (v : List (List ℕ)). one ∷ v) rest

-- Where the test passes, the build shows the views and no others.
pub shows_only : (b : Plan) (marks : List Pos) {acts : List Act} {views : List (List ℕ)} → all_play (world_circuit b marks) (places b) acts views ≡ true → ShowsOnly b marks acts views
shows_only b marks {acts} {views} h = record {
  may = may_show (world_circuit b marks) test_of_places (places b) (world_listed b marks) (λ p. refl) acts views h;
  alone = λ other shown. shows_alone (world_circuit b marks) test_of_places (places b) (world_listed b marks) (λ p. refl) acts views h other shown.0 shown.1;
}
