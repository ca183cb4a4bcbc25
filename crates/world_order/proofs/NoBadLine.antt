-- No text of an order has a bad line.
use Rattle.std.proofs.Common.{◌≡◌, ◌≢◌, ℕ, suc, ◌+◌, ◌<◌, ◌≤◌, ◌^◌, not, Bool, true, false, List, [], ◌∷◌, ◌++◌, length, map, refl, sym, ◌∙◌, ap, subst, arith, inl, inr}
use Rattle.std.specs.Prelude.{codes, decimal, ◌==◌}
use Rattle.report.specs.PlaceText.{place_text}
use Rattle.std.specs.List.{flat_map, list_all}
use Rattle.std.proofs.lemmas.Bool.{and_parts, false≢true, eqb-true, eqb-false, not-true}
use Rattle.std.proofs.lemmas.List.{append_assoc, append_cancel_left, append-nil}
use Rattle.std.proofs.lemmas.List.Folds.{list_all-append}
use Rattle.circuit.specs.declared.Click.{Click}
use Rattle.circuit.specs.declared.Pos.{Pos}
use Rattle.circuit.specs.declared.Step.{Step}
use Rattle.circuit.specs.declared.Step.TheVariants.{Click as ClickAt, Tick as OneTick}
use Rattle.circuit.specs.Circuit.{Circuit, State, Clicks, Ticks, Each, Among, IsFiringList, fire_all, start, view}
use Rattle.circuit.specs.Shows.{Run, Ended, Clicked, Ticked, steps_of}
use Rattle.build.specs.Plan.{Plan, IsWhole}
use Rattle.build.specs.declared.OutPlace.{OutPlace}
use Rattle.build.specs.Outputs.{outputs}
use Rattle.power_rules.specs.World.{world_circuit}
use Rattle.power_rules.proofs.Joining.{test_of_places}
use Rattle.report.specs.declared.Cause.{Cause}
use Rattle.report.specs.declared.Cause.TheVariants.{Start, Tick}
use Rattle.report.specs.declared.OrderKind.{OrderKind}
use Rattle.report.specs.declared.OrderKind.TheVariants.{Short, Differs, Form, NotDue, Twice, Priority, Left, Trailing}
use Rattle.report.specs.FireLine.{fire_line}
use Rattle.report.specs.Header.{header, count_line, output_line, kind_text}
use Rattle.report.specs.Trailers.{world_trailer}
use Rattle.report.specs.ViewLine.{view_line, cause_of, cause_text, value_text}
use Rattle.script.specs.Acts.{Meaning}
use Rattle.world_order.specs.Begun.{Begins, IsLawful, IsLeft}
use Rattle.world_order.specs.OrderText.{steps_text, run_lines, order_text, is_break, IsCounts, NoLine, OneLine, IsOrder}
use Rattle.world_order.specs.BadLine.{is_fire, begins_with, is_unended, HasNumbers, Names, Due, Line, Firing, Counted, End, Past, heading, written, InHeading, HasRun, Stands, HasKind}
use Rattle.world_order.proofs.Begun.{next_lawful, begins_front, firing_list_begins}
use Rattle.world_order.proofs.Texts.{Lacks, cut, head_same, same_place, fires_after, fire_begins, view_no_fire, IsNoFire}
use Rattle.world_order.proofs.Following.{Follows, follow, world_click, due_numbers, begun_numbers}

-- ---- lines end

not_unended : (front more : List ℕ) → is_unended ((front ++ codes "\n") ++ more) ≡ true → ⊥
not_unended front more h =
    let p : ℕ → Bool = λ b. not (is_break b) in
    let one = and_parts (list_all p (front ++ codes "\n")) (list_all p more) (sym (list_all-append p (front ++ codes "\n") more) ∙ h) in
    let two = and_parts (list_all p front) (list_all p (codes "\n")) (sym (list_all-append p front (codes "\n")) ∙ one.0) in
    false≢true two.1

view_ended : (time : ℕ) (cause : Cause) (values more : List ℕ) → is_unended (view_line time cause values ++ more) ≡ true → ⊥
unfolding view_line
view_ended time cause values more h = not_unended (decimal time ++ codes " " ++ cause_text cause ++ flat_map value_text values) more h

fire_ended : (p : Pos) (more : List ℕ) → is_unended (fire_line p ++ more) ≡ true → ⊥
unfolding fire_line
fire_ended p more h = not_unended (codes "fire " ++ place_text p) more h

-- ---- the line of a firing or none

fire_is : (p : Pos) (more : List ℕ) → is_fire (fire_line p ++ more) ≡ true
unfolding fire_line
fire_is p more = refl

fire_head : (X : List ℕ) → is_fire X ≡ true → IsNoFire X → ⊥
fire_head [] h none = false≢true h
fire_head (x ∷ X) h none = let p = and_parts (102 == x) _ h in none X (ap (λ b. b ∷ X) (sym (eqb-true 102 x p.0)))

-- ---- what comes next in a run

click_next : (b : Plan) (marks : List Pos) {mid last : State Pos} {place : Pos} {click : Click} {left : List Step} {more : List (List Pos)} {shows : List (List ℕ)} →
    Run (world_circuit b marks) mid (ClickAt place click ∷ left) more shows last → (A B : List ℕ) → A ≡ steps_text mid.time (ClickAt place click ∷ left) more shows ++ B →
    (next : State Pos) × Clicks (world_circuit b marks) place click mid next × (Z : List ℕ) × (A ≡ view_line mid.time (cause_of click) (view (world_circuit b marks) next) ++ Z)
click_next b marks {mid} {click} {left} (Clicked {next} {order} {views} hit run) A B e =
    (next, hit, _, e ∙ append_assoc (view_line mid.time (cause_of click) (view (world_circuit b marks) next)) (steps_text mid.time left order views) B)

tick_next : (b : Plan) (marks : List Pos) {mid last : State Pos} {left : List Step} {more : List (List Pos)} {shows : List (List ℕ)} →
    Run (world_circuit b marks) mid (OneTick ∷ left) more shows last → (A B : List ℕ) → A ≡ steps_text mid.time (OneTick ∷ left) more shows ++ B →
    (fires : List Pos) × (next : State Pos) × Ticks (world_circuit b marks) fires mid next × (Z : List ℕ) × (A ≡ flat_map fire_line fires ++ (view_line (mid.time + 1) Tick (view (world_circuit b marks) next) ++ Z))
tick_next b marks {mid} {left} (Ticked {next} {fires} {order} {views} tick run) A B e =
    let line : List ℕ = view_line (mid.time + 1) Tick (view (world_circuit b marks) next) in
    let rest : List ℕ = steps_text (mid.time + 1) left order views in
    (fires, next, tick, _, e ∙ append_assoc (flat_map fire_line fires) (line ++ rest) B ∙ ap (λ x. flat_map fire_line fires ++ x) (append_assoc line rest B))

none_next : (b : Plan) (marks : List Pos) {mid last : State Pos} {more : List (List Pos)} {shows : List (List ℕ)} →
    Run (world_circuit b marks) mid [] more shows last → (A B : List ℕ) → A ≡ steps_text mid.time [] more shows ++ B → A ≡ B
none_next b marks Ended A B e = e

-- ---- what stands behind the text of a run

after_run : (b : Plan) → IsWhole b → (script : Meaning) → length (steps_of script.acts) < 2 ^ 63 → (text : List ℕ) (order : List (List Pos)) → (o : IsOrder b script text order) →
    (done left : List Step) (mid : State Pos) (front : List ℕ) (tick : ℕ) → (h : HasRun b script done left mid front tick) → (rest : List ℕ) → text ≡ front ++ rest →
    (last : State Pos) × Follows b script.marks mid last left h.order order rest (o.counts ++ world_trailer)
unfolding order_text
after_run b w script few text order o done left mid front tick h rest is =
    let C = world_circuit b script.marks in
    let p = o.plays.1 in
    let last : State Pos = o.plays.0 in
    let T : List ℕ = o.counts ++ world_trailer in
    let head : List ℕ = header (outputs b script.marks) in
    let line : List ℕ = view_line 0 Start (view C (start C)) in
    let S1 : List ℕ = steps_text 0 done h.order h.views in
    let S2 : List ℕ = steps_text 0 (done ++ left) order p.rest in
    let whole : Run C (start C) (done ++ left) order p.rest last = subst (λ (steps : List Step). Run C (start C) steps order p.rest last) h.steps p.run in
    let one : head ++ (line ++ (S1 ++ rest)) ≡ text =
    ap (λ x. head ++ x) (sym (append_assoc line S1 rest)) ∙ sym (append_assoc head (line ++ S1) rest) ∙ ap (λ x. x ++ rest) (sym h.is) ∙ sym is in
    let two : text ≡ head ++ (line ++ (S2 ++ T)) =
    o.is ∙ ap (λ v. head ++ (run_lines (steps_of script.acts) order v ++ T)) p.at_start ∙ ap (λ (steps : List Step). head ++ ((line ++ steps_text 0 steps order p.rest) ++ T)) h.steps
    ∙ ap (λ x. head ++ x) (append_assoc line S2 T) in
    let e : S1 ++ rest ≡ S2 ++ T = append_cancel_left line (S1 ++ rest) (S2 ++ T) (append_cancel_left head (line ++ (S1 ++ rest)) (line ++ (S2 ++ T)) (one ∙ two)) in
    let early : 0 + length (done ++ left) < 2 ^ 63 = (let same : length (steps_of script.acts) ≡ length (done ++ left) = ap length h.steps in omega arith) in
    (last, follow b w script.marks h.run {left = left} refl whole early rest T e)

-- ---- nothing is wrong

is_past : Due → Bool
is_past Past = true
is_past _ = false

line_case : (b : Plan) (marks : List Pos) (due rest Z : List ℕ) → (is_unended (due ++ Z) ≡ true → ⊥) → rest ≡ due ++ Z → (kind : OrderKind) → HasKind b marks (Line due) rest kind → ⊥
line_case b marks due rest Z ended e Short h = ended (ap is_unended (sym e) ∙ h)
line_case b marks due rest Z ended e Differs h = h (Z, e)
line_case b marks due rest Z ended e Trailing h = cc
line_case b marks due rest Z ended e Form h = h
line_case b marks due rest Z ended e Twice h = h
line_case b marks due rest Z ended e NotDue h = h
line_case b marks due rest Z ended e Priority h = h
line_case b marks due rest Z ended e Left h = h

fire_case : (b : Plan) (marks : List Pos) (s : State Pos) (fired : List Pos) (p : Pos) → HasNumbers p → IsLawful (world_circuit b marks) s fired p →
    (rest Z : List ℕ) → rest ≡ fire_line p ++ Z → (kind : OrderKind) → HasKind b marks (Firing s fired) rest kind → ⊥
fire_case b marks s fired p n l rest Z e Short h = fire_ended p Z (ap is_unended (sym e) ∙ h)
fire_case b marks s fired p n l rest Z e Differs h = false≢true (sym h.0 ∙ ap is_fire e ∙ fire_is p Z)
fire_case b marks s fired p n l rest Z e Trailing h = cc
fire_case b marks s fired p n l rest Z e Form h = h.1 p (record { numbers = n; more = Z; text = e })
fire_case b marks s fired p n l rest Z e Twice h =
    let same = same_place p h.0 n h.1.numbers Z h.1.more (sym e ∙ h.1.text) in l.fresh (subst (Among fired) (sym same.0) h.2)
fire_case b marks s fired p n l rest Z e NotDue h =
    let same = same_place p h.0 n h.1.numbers Z h.1.more (sym e ∙ h.1.text) in h.2 (subst (IsLeft (world_circuit b marks) s fired) same.0 (record { due = l.due; fresh = l.fresh }))
fire_case b marks s fired p n l rest Z e Priority h =
    let same = same_place p h.0 n h.1.numbers Z h.1.more (sym e ∙ h.1.text) in
    let x : (s.cells p).priority ≤ (s.cells h.2).priority = l.least h.2 h.3.due h.3.fresh in
    let y : (s.cells h.2).priority < (s.cells h.0).priority = h.4 in
    let z : (s.cells p).priority ≡ (s.cells h.0).priority = ap (λ q. (s.cells q).priority) same.0 in
    absurd (omega arith)
fire_case b marks s fired p n l rest Z e Left h = false≢true (sym h.0 ∙ ap is_fire e ∙ fire_is p Z)

names_none : (rest X : List ℕ) (place : Pos) → IsNoFire X → rest ≡ X → Names rest place → ⊥
names_none rest X place none e n = let f = fire_begins place n.more in none f.0 (sym e ∙ n.text ∙ f.1)

view_case : (b : Plan) (marks : List Pos) (s next : State Pos) (fired : List Pos) → IsFiringList (world_circuit b marks) s fired → next ≡ fire_all (world_circuit b marks) s fired → s.time < 2 ^ 64 →
    (rest Z : List ℕ) → rest ≡ view_line s.time Tick (view (world_circuit b marks) next) ++ Z → (kind : OrderKind) → HasKind b marks (Firing s fired) rest kind → ⊥
view_case b marks s next fired f after early rest Z e kind h = go kind h
  where
    shown : List ℕ
    shown = view (world_circuit b marks) next

    none : IsNoFire (view_line s.time Tick shown ++ Z)
    none = view_no_fire s.time Tick shown Z early

    go : (kind : OrderKind) → HasKind b marks (Firing s fired) rest kind → ⊥
    go Short h = view_ended s.time Tick shown Z (ap is_unended (sym e) ∙ h)
    go Differs h = h.1 (Z, e ∙ ap (λ (x : State Pos). view_line s.time Tick (view (world_circuit b marks) x) ++ Z) after)
    go Trailing h = cc
    go Form h = fire_head (view_line s.time Tick shown ++ Z) (ap is_fire (sym e) ∙ h.0) none
    go Twice h = names_none rest (view_line s.time Tick shown ++ Z) h.0 none e h.1
    go NotDue h = names_none rest (view_line s.time Tick shown ++ Z) h.0 none e h.1
    go Priority h = names_none rest (view_line s.time Tick shown ++ Z) h.0 none e h.1
    go Left h = h.2.fresh (f.all h.1 h.2.due)

tick_case : (b : Plan) → IsWhole b → (marks : List Pos) (s next : State Pos) (fired fires : List Pos) → Begins (world_circuit b marks) s fired → IsFiringList (world_circuit b marks) s fires →
    next ≡ fire_all (world_circuit b marks) s fires → s.time < 2 ^ 64 → (rest Z : List ℕ) →
    flat_map fire_line fired ++ rest ≡ flat_map fire_line fires ++ (view_line s.time Tick (view (world_circuit b marks) next) ++ Z) → (kind : OrderKind) → HasKind b marks (Firing s fired) rest kind → ⊥
tick_case b w marks s next fired fires begun f after early rest Z e kind h = split r.0 r.1 r.2
  where
    C : Circuit Pos
    C = world_circuit b marks

    tail : List ℕ
    tail = view_line s.time Tick (view C next) ++ Z

    r : (more : List Pos) × (fires ≡ fired ++ more) × (rest ≡ flat_map fire_line more ++ tail)
    r = fires_after fired fires (begun_numbers b w marks s fired begun) (due_numbers b w marks s fires f.due) rest tail (view_no_fire s.time Tick (view C next) Z early) e

    split : (more : List Pos) → fires ≡ fired ++ more → rest ≡ flat_map fire_line more ++ tail → ⊥
    split [] same text =
        let all : fires ≡ fired = same ∙ append-nil fired in
        view_case b marks s next fired (subst (IsFiringList C s) all f) (after ∙ ap (fire_all C s) all) early rest Z text kind h
    split (p ∷ ps) same text =
        let g : IsFiringList C s (fired ++ (p ∷ ps)) = subst (IsFiringList C s) same f in
        let front = begins_front C s fired (p ∷ ps) (firing_list_begins C test_of_places s (fired ++ (p ∷ ps)) g) in
        let lawful = next_lawful C test_of_places s fired begun p front.1.0 in
        fire_case b marks s fired p (begun_numbers b w marks (fire_all C s fired) (p ∷ ps) front.1).0 lawful rest (flat_map fire_line ps ++ tail)
        (text ∙ append_assoc (fire_line p) (flat_map fire_line ps) tail) kind h

end_ended : is_unended world_trailer ≡ true → ⊥
end_ended h = false≢true h

counted_case : (b : Plan) (marks : List Pos) (counts rest : List ℕ) → IsCounts counts → rest ≡ counts ++ world_trailer → (kind : OrderKind) → HasKind b marks Counted rest kind → ⊥
counted_case b marks counts rest NoLine e Short h = end_ended (ap is_unended (sym e) ∙ h)
counted_case b marks counts rest (OneLine r lacks) e Short h = not_unended r world_trailer (ap is_unended (sym e) ∙ h)
counted_case b marks counts rest NoLine e Differs h = h.1 ([], e ∙ sym (append-nil world_trailer))
counted_case b marks counts rest (OneLine r lacks) e Differs h = false≢true (sym h.0 ∙ ap (begins_with (codes "nodes ")) e)
counted_case b marks counts rest c e Trailing h = cc
counted_case b marks counts rest c e Form h = h
counted_case b marks counts rest c e Twice h = h
counted_case b marks counts rest c e NotDue h = h
counted_case b marks counts rest c e Priority h = h
counted_case b marks counts rest c e Left h = h

abbrev is_letter : ℕ → Bool
is_letter b = b == 101

letters : ◌≡◌ {A = ℕ} 101 110 → ⊥
letters h = let clash : true ≡ false = ap is_letter h in false≢true (sym clash)

lacks_break : (r : List ℕ) → list_all (λ b. not (is_break b)) r ≡ true → Lacks 10 r
lacks_break [] h = tt
lacks_break (x ∷ r) h =
    let p = and_parts (not (is_break x)) (list_all (λ b. not (is_break b)) r) h in
    (eqb-false x 10 (not-true (is_break x) p.0), lacks_break r p.1)

-- what stands behind two lines of counts of one text is one text
line_rest : (r q X Y : List ℕ) → list_all (λ b. not (is_break b)) r ≡ true → list_all (λ b. not (is_break b)) q ≡ true →
    (codes "nodes " ++ (r ++ codes "\n")) ++ X ≡ (codes "nodes " ++ (q ++ codes "\n")) ++ Y → X ≡ Y
line_rest r q X Y l m e =
    let f : (r ++ codes "\n") ++ X ≡ (q ++ codes "\n") ++ Y = append_cancel_left (codes "nodes ") ((r ++ codes "\n") ++ X) ((q ++ codes "\n") ++ Y) e in
    (cut 10 r q X Y (lacks_break r l) (lacks_break q m) (sym (append_assoc r (codes "\n") X) ∙ f ∙ append_assoc q (codes "\n") Y)).1

counts_rest : (one two rest : List ℕ) → IsCounts one → (one ≢ []) → IsCounts two → one ++ rest ≡ two ++ world_trailer → rest ≡ world_trailer
counts_rest one two rest NoLine some d e = absurd (some refl)
counts_rest one two rest (OneLine r l) some NoLine e = absurd (letters (sym (head_same _ _ _ _ e)))
counts_rest one two rest (OneLine r l) some (OneLine q m) e = line_rest r q rest world_trailer l m e

-- two lines of counts before these texts are one, and what stands behind them is one text
counts_same : (one two X Y : List ℕ) → IsCounts one → IsCounts two → (one ++ (world_trailer ++ X)) ≡ (two ++ (world_trailer ++ Y)) → X ≡ Y
counts_same one two X Y NoLine NoLine e = append_cancel_left world_trailer X Y e
counts_same one two X Y NoLine (OneLine r l) e = absurd (letters (head_same _ _ _ _ e))
counts_same one two X Y (OneLine r l) NoLine e = absurd (letters (sym (head_same _ _ _ _ e)))
counts_same one two X Y (OneLine r l) (OneLine q m) e = append_cancel_left world_trailer X Y (line_rest r q (world_trailer ++ X) (world_trailer ++ Y) l m e)

end_case : (b : Plan) (marks : List Pos) (one two rest : List ℕ) → IsCounts one → (one ≢ []) → IsCounts two → one ++ rest ≡ two ++ world_trailer → (kind : OrderKind) → HasKind b marks End rest kind → ⊥
end_case b marks one two rest c some d e kind h = go (counts_rest one two rest c some d e) kind h
  where
    go : rest ≡ world_trailer → (kind : OrderKind) → HasKind b marks End rest kind → ⊥
    go f Short h = end_ended (ap is_unended (sym f) ∙ h)
    go f Differs h = h ([], f ∙ sym (append-nil world_trailer))
    go f Trailing h = cc
    go f Form h = h
    go f Twice h = h
    go f NotDue h = h
    go f Priority h = h
    go f Left h = h

past_case : (b : Plan) (marks : List Pos) (rest : List ℕ) → rest ≡ [] → (kind : OrderKind) → HasKind b marks Past rest kind → ⊥
past_case b marks rest e Short h = h
past_case b marks rest e Differs h = h
past_case b marks rest e Trailing h = h.1 e
past_case b marks rest e Form h = h
past_case b marks rest e Twice h = h
past_case b marks rest e NotDue h = h
past_case b marks rest e Priority h = h
past_case b marks rest e Left h = h

-- ---- the heading

abbrev joined : List (List ℕ) → List ℕ
joined lines = flat_map (λ (l : List ℕ). l) lines

-- the line ends with an LF
abbrev IsEnded : List ℕ → Type 0
IsEnded line = (Z : List ℕ) → is_unended (line ++ Z) ≡ true → ⊥

count_ended : (n : ℕ) → IsEnded (count_line n)
unfolding count_line
count_ended n Z h = not_unended (codes "outputs " ++ decimal n) Z h

output_ended : (o : OutPlace) → IsEnded (output_line o)
unfolding output_line
output_ended o Z h = not_unended (place_text o.pos ++ codes " " ++ kind_text o.kind) Z h

outputs_ended : (os : List OutPlace) (line : List ℕ) → IsEnded line → Each IsEnded (map output_line os ++ (line ∷ []))
outputs_ended [] line h = (h, tt)
outputs_ended (o ∷ os) line h = (output_ended o, outputs_ended os line h)

outputs_joined : (os : List OutPlace) (line : List ℕ) → joined (map output_line os ++ (line ∷ [])) ≡ flat_map output_line os ++ line
outputs_joined [] line = append-nil line
outputs_joined (o ∷ os) line = ap (λ x. output_line o ++ x) (outputs_joined os line) ∙ sym (append_assoc (output_line o) (flat_map output_line os) line)

joined_split : (before after : List (List ℕ)) (line : List ℕ) → joined (before ++ (line ∷ after)) ≡ joined before ++ (line ++ joined after)
joined_split [] after line = refl
joined_split (one ∷ before) after line = ap (λ x. one ++ x) (joined_split before after line) ∙ sym (append_assoc one (joined before) (line ++ joined after))

each_there : (P : List ℕ → Type 0) (before after : List (List ℕ)) (line : List ℕ) → Each P (before ++ (line ∷ after)) → P line
each_there P [] after line e = e.0
each_there P (one ∷ before) after line e = each_there P before after line e.1

heading_case : (b : Plan) → IsWhole b → (script : Meaning) (text : List ℕ) (order : List (List Pos)) → IsOrder b script text order → (front rest : List ℕ) → text ≡ front ++ rest →
    (tick : ℕ) (line : List ℕ) → InHeading b script.marks front tick line → (kind : OrderKind) → HasKind b script.marks (Line line) rest kind → ⊥
unfolding order_text header
heading_case b w script text order o front rest is tick line s kind h =
    let C = world_circuit b script.marks in
    let os = outputs b script.marks in
    let p = o.plays.1 in
    let T : List ℕ = o.counts ++ world_trailer in
    let first : List ℕ = view_line 0 Start (view C (start C)) in
    let S : List ℕ = steps_text 0 (steps_of script.acts) order p.rest in
    let all : joined (heading b script.marks) ≡ header os ++ first =
    ap (λ x. count_line (length os) ++ x) (outputs_joined os first) ∙ sym (append_assoc (count_line (length os)) (flat_map output_line os) first) in
    let two : text ≡ joined (heading b script.marks) ++ (S ++ T) =
    o.is ∙ ap (λ v. header os ++ (run_lines (steps_of script.acts) order v ++ T)) p.at_start ∙ ap (λ x. header os ++ x) (append_assoc first S T)
    ∙ sym (append_assoc (header os) first (S ++ T)) ∙ ap (λ x. x ++ (S ++ T)) (sym all) in
    let three : joined (heading b script.marks) ++ (S ++ T) ≡ front ++ (line ++ (joined s.after ++ (S ++ T))) =
    ap (λ x. joined x ++ (S ++ T)) s.lines ∙ ap (λ x. x ++ (S ++ T)) (joined_split s.before s.after line) ∙ append_assoc (joined s.before) (line ++ joined s.after) (S ++ T)
    ∙ ap (λ x. joined s.before ++ x) (append_assoc line (joined s.after) (S ++ T)) ∙ ap (λ x. x ++ (line ++ (joined s.after ++ (S ++ T)))) (sym s.is) in
    let e : rest ≡ line ++ (joined s.after ++ (S ++ T)) = append_cancel_left front rest (line ++ (joined s.after ++ (S ++ T))) (sym is ∙ two ∙ three) in
    let lines : Each IsEnded (heading b script.marks) = (count_ended (length os), outputs_ended os first (view_ended 0 Start (view C (start C)))) in
    let ended : IsEnded line = each_there IsEnded s.before s.after line (subst (Each IsEnded) s.lines lines) in
    line_case b script.marks line rest (joined s.after ++ (S ++ T)) (ended (joined s.after ++ (S ++ T))) e kind h

-- ---- all of it

pub no_bad_line : (b : Plan) → IsWhole b → (script : Meaning) → length (steps_of script.acts) < 2 ^ 63 → (text : List ℕ) (order : List (List Pos)) → IsOrder b script text order →
    (front rest : List ℕ) → text ≡ front ++ rest → (tick : ℕ) (due : Due) → Stands b script front tick due → (kind : OrderKind) → HasKind b script.marks due rest kind → ⊥
no_bad_line b w script few text order o front rest is tick (Line line) (inl s) kind h = heading_case b w script text order o front rest is tick line s kind h
no_bad_line b w script few text order o front rest is tick (Line line) (inr s) kind h =
    let f = (after_run b w script few text order o s.done (ClickAt s.place s.click ∷ s.left) s.mid front tick s.ran rest is).1 in
    let n = click_next b script.marks f.run rest (o.counts ++ world_trailer) f.text in
    let alike : n.0 ≡ s.next = world_click b script.marks s.place s.click s.mid s.mid n.0 s.next refl n.1 s.clicks in
    let time : s.mid.time ≡ n.0.time = sym (ap (λ (x : State Pos). x.time) n.1.after) in
    let same : view_line s.mid.time (cause_of s.click) (view (world_circuit b script.marks) n.0) ≡ line =
    ap (λ t. view_line t (cause_of s.click) (view (world_circuit b script.marks) n.0)) time ∙ ap (λ (x : State Pos). view_line x.time (cause_of s.click) (view (world_circuit b script.marks) x)) alike ∙ sym s.shows in
    line_case b script.marks line rest n.2 (λ u. view_ended s.mid.time (cause_of s.click) (view (world_circuit b script.marks) n.0) n.2 (ap (λ x. is_unended (x ++ n.2)) same ∙ u))
    (n.3 ∙ ap (λ x. x ++ n.2) same) kind h
no_bad_line b w script few text order o front rest is tick (Firing s fired) t kind h =
    let split : text ≡ t.before ++ (flat_map fire_line fired ++ rest) = is ∙ ap (λ x. x ++ rest) t.is ∙ append_assoc t.before (flat_map fire_line fired) rest in
    let f = (after_run b w script few text order o t.done (OneTick ∷ t.left) t.mid t.before tick t.ran (flat_map fire_line fired ++ rest) split).1 in
    let n = tick_next b script.marks f.run (flat_map fire_line fired ++ rest) (o.counts ++ world_trailer) f.text in
    let time : t.mid.time + 1 ≡ s.time = sym (ap (λ (x : State Pos). x.time) t.began) in
    let early : s.time < 2 ^ 64 = (let x : t.mid.time + suc (length t.left) < 2 ^ 63 = f.early in omega (arith, time)) in
    tick_case b w script.marks s n.1 fired n.0 t.begins (subst (λ (x : State Pos). IsFiringList (world_circuit b script.marks) x n.0) (sym t.began) n.2.order)
    (n.2.after ∙ ap (λ (x : State Pos). fire_all (world_circuit b script.marks) x n.0) (sym t.began)) early rest n.3
    (n.4 ∙ ap (λ m. flat_map fire_line n.0 ++ (view_line m Tick (view (world_circuit b script.marks) n.1) ++ n.3)) time) kind h
no_bad_line b w script few text order o front rest is tick Counted a kind h =
    let split : text ≡ a.before ++ rest = is ∙ ap (λ x. x ++ rest) (a.is ∙ append-nil a.before) in
    let f = (after_run b w script few text order o (steps_of script.acts) [] a.mid a.before tick a.ran rest split).1 in
    counted_case b script.marks o.counts rest o.counted (none_next b script.marks f.run rest (o.counts ++ world_trailer) f.text) kind h
no_bad_line b w script few text order o front rest is tick End q kind h =
    let a = q.3 in
    let split : text ≡ a.before ++ (q.0 ++ rest) = is ∙ ap (λ x. x ++ rest) a.is ∙ append_assoc a.before q.0 rest in
    let f = (after_run b w script few text order o (steps_of script.acts) [] a.mid a.before tick a.ran (q.0 ++ rest) split).1 in
    end_case b script.marks q.0 o.counts rest q.1 q.2 o.counted (none_next b script.marks f.run (q.0 ++ rest) (o.counts ++ world_trailer) f.text) kind h
no_bad_line b w script few text order o front rest is tick Past q kind h =
    let a = q.2 in
    let split : text ≡ a.before ++ (q.0 ++ (world_trailer ++ rest)) =
    is ∙ ap (λ x. x ++ rest) a.is ∙ append_assoc a.before (q.0 ++ world_trailer) rest ∙ ap (λ x. a.before ++ x) (append_assoc q.0 world_trailer rest) in
    let f = (after_run b w script few text order o (steps_of script.acts) [] a.mid a.before tick a.ran (q.0 ++ (world_trailer ++ rest)) split).1 in
    let e = none_next b script.marks f.run (q.0 ++ (world_trailer ++ rest)) (o.counts ++ world_trailer) f.text in
    past_case b script.marks rest (counts_same q.0 o.counts rest [] q.1 o.counted (e ∙ ap (λ x. o.counts ++ x) (sym (append-nil world_trailer)))) kind h

-- ---- one order

none_more : (b : Plan) (marks : List Pos) {mid last : State Pos} {more : List (List Pos)} {shows : List (List ℕ)} → Run (world_circuit b marks) mid [] more shows last → more ≡ []
none_more b marks Ended = refl

-- The text of an order is that of one order.
pub one_order : (b : Plan) → IsWhole b → (script : Meaning) → length (steps_of script.acts) < 2 ^ 63 → (text : List ℕ) (one two : List (List Pos)) → IsOrder b script text one → IsOrder b script text two → one ≡ two
unfolding order_text
one_order b w script few text one two x y =
    let C = world_circuit b script.marks in
    let p = x.plays.1 in
    let front : List ℕ = written b script.marks (steps_of script.acts) one p.rest in
    let ran : HasRun b script (steps_of script.acts) [] x.plays.0 front (length one) =
    record { order = one; views = p.rest; steps = sym (append-nil (steps_of script.acts)); run = p.run; is = refl; count = refl } in
    let e : text ≡ front ++ (x.counts ++ world_trailer) =
    x.is ∙ ap (λ v. header (outputs b script.marks) ++ (run_lines (steps_of script.acts) one v ++ (x.counts ++ world_trailer))) p.at_start
    ∙ sym (append_assoc (header (outputs b script.marks)) (run_lines (steps_of script.acts) one (view C (start C) ∷ p.rest)) (x.counts ++ world_trailer)) in
    let f = (after_run b w script few text two y (steps_of script.acts) [] x.plays.0 front (length one) ran (x.counts ++ world_trailer) e).1 in
    sym (f.lists ∙ ap (λ m. one ++ m) (none_more b script.marks f.run) ∙ append-nil one)
