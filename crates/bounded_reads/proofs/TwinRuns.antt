-- Each run of the twins reads few links.
use Rattle.std.proofs.Common.{◌≡◌, ◌≤◌, ℕ, false, zero, suc, ◌+◌, List, [], ◌∷◌, Option, Some, None, Result, Err, refl, sym, ap, subst, ◌∙◌, inl, inr, ◌⊎◌, arith, sum_by, pos, ℤ}
use Rattle.circuit.specs.declared.Component.{Component}
use Rattle.circuit.specs.declared.Component.TheVariants.{Lever, Torch}
use Rattle.circuit.specs.declared.Step.{Step}
use Rattle.circuit.specs.declared.Step.TheVariants.{Tick as OneTick}
use Rattle.circuit.specs.declared.Pos.{Pos}
use Rattle.circuit.specs.declared.Click.TheVariants.{Use}
use Rattle.circuit.specs.Component.{clicked}
use Rattle.circuit.specs.Circuit.{Circuit, State, Clicks, Ticks, IsDue, IsFiringList, start, set_value, later, fire, fire_all, view}
use Rattle.circuit.specs.declared.Act.{Act}
use Rattle.circuit.specs.Shows.{Run, Plays, steps_of, Ended, Clicked, Ticked}
use Rattle.graph.specs.GraphCircuit.{graph_circuit}
use Rattle.circuit.specs.Taken.{EachActTaken}
use Rattle.graph.specs.Sound.{IsSound}
use Rattle.plain_machine.proofs.GoodSteps.{sound_where_good}
use Rattle.graph.specs.Graph.{Nodes}
use Rattle.graph_machine.specs.Outgoing.{reads_of}
use Rattle.graph_machine.specs.Playing.{TakesClick, TakesTick}
use Rattle.report.specs.declared.Counts.{Counts}
use Rattle.player.specs.declared.PlayRefusal.{PlayRefusal}
use Rattle.player.specs.declared.PlayRefusal.TheVariants.{WriteFault, NoMemory}
use Rattle.player.specs.Played.{WroteGraphRun, WroteGraphRunPrefix}
use Rattle.player.specs.Cost.{cost_of_run}
use Rattle.bounded_reads.specs.Twins.{twins, acts, place as lever_at}

abbrev C : Circuit ℕ
C = graph_circuit twins

abbrev begun : State ℕ
begun = start C

abbrev used : State ℕ
used = set_value C begun 3 1

-- ---- firing lists where few keys are due

none_due : (s : State ℕ) → ((key : ℕ) → IsDue C s key → ⊥) → (fires : List ℕ) → IsFiringList C s fires → fires ≡ []
none_due s none [] f = refl
none_due s none (key ∷ fires) f = absurd (none key f.due.0)

one_due : (s : State ℕ) (one : ℕ) → IsDue C s one → ((key : ℕ) → IsDue C s key → key ≡ one) → (fires : List ℕ) → IsFiringList C s fires → fires ≡ one ∷ []
one_due s one due only [] f = absurd (f.all one due)
one_due s one due only (key ∷ []) f = ap (λ (k : ℕ). k ∷ []) (only key f.due.0)
one_due s one due only (key ∷ other ∷ fires) f = absurd (f.once.0.0 (only key f.due.0 ∙ sym (only other f.due.1.0)))

-- ---- the steps

lever_key : (key : ℕ) (component : Component) → C.role key ≡ Some component → C.place key ≡ lever_at 3 → key ≡ 3
lever_key zero component there place = (let apart : ◌≡◌ {A = ℤ} (pos 0) (pos 3) = ap (λ (p : Pos). p.x) place in absurd (cc))
lever_key (suc zero) component there place = (let apart : ◌≡◌ {A = ℤ} (pos 1) (pos 3) = ap (λ (p : Pos). p.x) place in absurd (cc))
lever_key (suc (suc zero)) component there place = (let apart : ◌≡◌ {A = ℤ} (pos 2) (pos 3) = ap (λ (p : Pos). p.x) place in absurd (cc))
lever_key (suc (suc (suc zero))) component there place = refl
lever_key (suc (suc (suc (suc key)))) component there place = (let apart : ◌≡◌ {A = Option Component} None (Some component) = there in absurd (cc))

-- the lever takes the click, and is on then
click_is : (next : State ℕ) (c : Clicks C (lever_at 3) Use begun next) → (c.key ≡ 3) × (next ≡ used)
click_is next c =
    let key : c.key ≡ 3 = lever_key c.key c.component c.there c.place in
    let there : ◌≡◌ {A = Option Component} (Some Lever) (Some c.component) = subst (λ (k : ℕ). C.role k ≡ Some c.component) key c.there in
    let lever_is : Lever ≡ c.component = cc in
    let takes : clicked c.component Use (begun.cells 3).value ≡ Some c.value = subst (λ (k : ℕ). clicked c.component Use (begun.cells k).value ≡ Some c.value) key c.takes in
    let taken : ◌≡◌ {A = Option ℕ} (Some 1) (Some c.value) = subst (λ (x : Component). clicked x Use (begun.cells 3).value ≡ Some c.value) (sym lever_is) takes in
    let value : 1 ≡ c.value = cc in
    (key, c.after ∙ ap (λ (k : ℕ). set_value C begun k c.value) key ∙ ap (λ (v : ℕ). set_value C begun 3 v) (sym value))

first_tick : (key : ℕ) → IsDue C (later used) key → key ≡ 2
first_tick zero d = absurd (d.waits refl)
first_tick (suc zero) d = absurd (d.waits refl)
first_tick (suc (suc zero)) d = refl
first_tick (suc (suc (suc zero))) d = absurd (d.waits refl)
first_tick (suc (suc (suc (suc key)))) d = (let clash : ◌≡◌ {A = Option Component} None (Some d.component) = d.there in absurd (cc))

torch_due : IsDue C (later used) 2
torch_due = record { component = Torch; there = refl; waits = (λ e. cc); now = refl }

abbrev off : State ℕ
off = fire C (later used) 2

second_tick : (key : ℕ) → IsDue C (later off) key → ⊥
second_tick zero d = (let clash : ◌≡◌ {A = ℕ} 3 2 = d.now in absurd (cc))
second_tick (suc zero) d = (let clash : ◌≡◌ {A = ℕ} 3 2 = d.now in absurd (cc))
second_tick (suc (suc zero)) d = absurd (d.waits refl)
second_tick (suc (suc (suc zero))) d = absurd (d.waits refl)
second_tick (suc (suc (suc (suc key)))) d = (let clash : ◌≡◌ {A = Option Component} None (Some d.component) = d.there in absurd (cc))

third_tick : (key : ℕ) → IsDue C (later (later off)) key → (key ≡ 0) ⊎ (key ≡ 1)
third_tick zero d = inl refl
third_tick (suc zero) d = inr refl
third_tick (suc (suc zero)) d = absurd (d.waits refl)
third_tick (suc (suc (suc zero))) d = absurd (d.waits refl)
third_tick (suc (suc (suc (suc key)))) d = (let clash : ◌≡◌ {A = Option Component} None (Some d.component) = d.there in absurd (cc))

-- of two lamps each fires once at most, and an event of one reads one
lamps_read : (s : State ℕ) → ((key : ℕ) → IsDue C s key → (key ≡ 0) ⊎ (key ≡ 1)) → (fires : List ℕ) → IsFiringList C s fires → sum_by (reads_of twins) fires ≤ 2
lamps_read s only [] f = omega arith
lamps_read s only (one ∷ []) f = elim (only one f.due.0) [
  | inl e ↦ subst (λ (k : ℕ). sum_by (reads_of twins) (k ∷ []) ≤ 2) (sym e) (omega arith)
  | inr e ↦ subst (λ (k : ℕ). sum_by (reads_of twins) (k ∷ []) ≤ 2) (sym e) (omega arith)
]
lamps_read s only (one ∷ two ∷ []) f = both (only one f.due.0) (only two f.due.1.0)
  where
    both : (one ≡ 0) ⊎ (one ≡ 1) → (two ≡ 0) ⊎ (two ≡ 1) → sum_by (reads_of twins) (one ∷ two ∷ []) ≤ 2
    both (inl a) (inl b) = absurd (f.once.0.0 (a ∙ sym b))
    both (inl a) (inr b) = subst (λ (k : ℕ). sum_by (reads_of twins) (k ∷ two ∷ []) ≤ 2) (sym a) (subst (λ (k : ℕ). sum_by (reads_of twins) (0 ∷ k ∷ []) ≤ 2) (sym b) (omega arith))
    both (inr a) (inl b) = subst (λ (k : ℕ). sum_by (reads_of twins) (k ∷ two ∷ []) ≤ 2) (sym a) (subst (λ (k : ℕ). sum_by (reads_of twins) (1 ∷ k ∷ []) ≤ 2) (sym b) (omega arith))
    both (inr a) (inr b) = absurd (f.once.0.0 (a ∙ sym b))
lamps_read s only (one ∷ two ∷ three ∷ fires) f = absurd (all_three (only one f.due.0) (only two f.due.1.0) (only three f.due.1.1.0))
  where
    all_three : (one ≡ 0) ⊎ (one ≡ 1) → (two ≡ 0) ⊎ (two ≡ 1) → (three ≡ 0) ⊎ (three ≡ 1) → ⊥
    all_three (inl a) (inl b) c = f.once.0.0 (a ∙ sym b)
    all_three (inr a) (inr b) c = f.once.0.0 (a ∙ sym b)
    all_three (inl a) (inr b) (inl c) = f.once.0.1.0 (a ∙ sym c)
    all_three (inl a) (inr b) (inr c) = f.once.1.0.0 (b ∙ sym c)
    all_three (inr a) (inl b) (inl c) = f.once.1.0.0 (b ∙ sym c)
    all_three (inr a) (inl b) (inr c) = f.once.0.1.0 (a ∙ sym c)

-- ---- the run

abbrev costs : {s last : State ℕ} {steps : List Step} {order : List (List ℕ)} {views : List (List ℕ)} → Run C s steps order views last → ℕ
costs run = cost_of_run (reads_of twins) run

last_tick : (s : State ℕ) → s ≡ later off → {order : List (List ℕ)} {views : List (List ℕ)} {last : State ℕ} → (run : Run C s (OneTick ∷ []) order views last) → costs run ≤ 2
last_tick s is (Ticked {fires} ticks Ended) =
    let bound = lamps_read (later s) (λ key d. third_tick key (subst (λ (x : State ℕ). IsDue C (later x) key) is d)) fires ticks.order in omega (arith, bound)

middle_tick : (s : State ℕ) → s ≡ off → {order : List (List ℕ)} {views : List (List ℕ)} {last : State ℕ} → (run : Run C s (OneTick ∷ OneTick ∷ []) order views last) → costs run ≤ 2
middle_tick s is (Ticked {next} {fires} ticks run) =
    let none : fires ≡ [] = none_due (later s) (λ key d. second_tick key (subst (λ (x : State ℕ). IsDue C (later x) key) is d)) fires ticks.order in
    let next_is : next ≡ later off = ticks.after ∙ ap (fire_all C (later s)) none ∙ ap later is in
    let cost : sum_by (reads_of twins) fires ≡ 0 = ap (sum_by (reads_of twins)) none in
    let bound = last_tick next next_is run in
    omega (arith, bound, cost)

first_ticks : (s : State ℕ) → s ≡ used → {order : List (List ℕ)} {views : List (List ℕ)} {last : State ℕ} → (run : Run C s (OneTick ∷ OneTick ∷ OneTick ∷ []) order views last) → costs run ≤ 7
first_ticks s is (Ticked {next} {fires} ticks run) =
    let due : IsDue C (later s) 2 = subst (λ (x : State ℕ). IsDue C (later x) 2) (sym is) torch_due in
    let one : fires ≡ 2 ∷ [] = one_due (later s) 2 due (λ key d. first_tick key (subst (λ (x : State ℕ). IsDue C (later x) key) is d)) fires ticks.order in
    let next_is : next ≡ off = ticks.after ∙ ap (fire_all C (later s)) one ∙ ap (λ (x : State ℕ). fire C (later x) 2) is in
    let cost : sum_by (reads_of twins) fires ≡ 5 = ap (sum_by (reads_of twins)) one in
    let bound = middle_tick next next_is run in
    omega (arith, bound, cost)

pub all_steps : {order : List (List ℕ)} {views : List (List ℕ)} {last : State ℕ} → (run : Run C begun (steps_of acts) order views last) → costs run ≤ 10
all_steps (Clicked {next} clicks run) =
    let is = click_is next clicks in
    let cost : reads_of twins clicks.key ≡ 3 = ap (reads_of twins) is.0 in
    let bound = first_ticks next is.1 run in
    omega (arith, bound, cost)

-- ---- the graph

-- it is sound
pub twins_sound : IsSound twins
twins_sound = sound_where_good twins refl

-- and takes the click
pub twins_take : EachActTaken C acts
twins_take = (record { key = 3; component = Lever; there = refl; place = refl; taken = refl }, tt)

-- what each call may read sums up
calls_read : (clicked one two last : State ℕ) (c : Clicks C (lever_at 3) Use begun clicked) (f g h : List ℕ) → Ticks C f clicked one → Ticks C g one two → Ticks C h two last →
    (s₀ s₁ s₂ s₃ s₄ : ℕ) → s₁ ≤ s₀ + reads_of twins c.key → s₂ ≤ s₁ + sum_by (reads_of twins) f → s₃ ≤ s₂ + sum_by (reads_of twins) g → s₄ ≤ s₃ + sum_by (reads_of twins) h → s₄ ≤ s₀ + 10
calls_read clicked one two last c f g h a b d s₀ s₁ s₂ s₃ s₄ e₁ e₂ e₃ e₄ =
    let bound = all_steps {order = f ∷ g ∷ h ∷ []} {views = view C clicked ∷ view C one ∷ view C two ∷ view C last ∷ []} {last = last} (Clicked c (Ticked a (Ticked b (Ticked d Ended)))) in
    omega (arith, bound, e₁, e₂, e₃, e₄)

-- a tick of some graph that is the twins
abbrev TickOf : Nodes → State ℕ → State ℕ → (events_before events_after before after : ℕ) → Type 0
TickOf g old new events_before events_after before after = (keys : List ℕ) × TakesTick g keys old new events_before events_after before after

tick_of : (g : Nodes) → g ≡ twins → (old new : State ℕ) (e₀ e₁ s₀ s₁ : ℕ) → TickOf g old new e₀ e₁ s₀ s₁ → TickOf twins old new e₀ e₁ s₀ s₁
tick_of g is old new e₀ e₁ s₀ s₁ t = subst (λ (n : Nodes). TickOf n old new e₀ e₁ s₀ s₁) is t

click_of : (g : Nodes) → g ≡ twins → (old new : State ℕ) (s₀ s₁ : ℕ) → old ≡ begun → TakesClick g (lever_at 3) Use old new s₀ s₁ → TakesClick twins (lever_at 3) Use begun new s₀ s₁
click_of g is old new s₀ s₁ at_start t =
    subst (λ (s : State ℕ). TakesClick twins (lever_at 3) Use s new s₀ s₁) at_start (subst (λ (n : Nodes). TakesClick n (lever_at 3) Use old new s₀ s₁) is t)

pub steps_read : (g₀ g₁ g₂ g₃ : Nodes) → g₀ ≡ twins → g₁ ≡ twins → g₂ ≡ twins → g₃ ≡ twins → (old clicked one two last : State ℕ) → old ≡ begun → (e₁ e₂ e₃ e₄ s₀ s₁ s₂ s₃ s₄ : ℕ) →
    TakesClick g₀ (lever_at 3) Use old clicked s₀ s₁ → TickOf g₁ clicked one e₁ e₂ s₁ s₂ → TickOf g₂ one two e₂ e₃ s₂ s₃ → TickOf g₃ two last e₃ e₄ s₃ s₄ → s₄ ≤ s₀ + 10
steps_read g₀ g₁ g₂ g₃ i₀ i₁ i₂ i₃ old clicked one two last at_start e₁ e₂ e₃ e₄ s₀ s₁ s₂ s₃ s₄ c a b d =
    let click = click_of g₀ i₀ old clicked s₀ s₁ at_start c in
    let first = tick_of g₁ i₁ clicked one e₁ e₂ s₁ s₂ a in
    let second = tick_of g₂ i₂ one two e₂ e₃ s₂ s₃ b in
    let third = tick_of g₃ i₃ two last e₃ e₄ s₃ s₄ d in
    calls_read clicked one two last click.clicks first.0 second.0 third.0 first.1.ticks second.1.ticks third.1.ticks s₀ s₁ s₂ s₃ s₄ click.reads first.1.reads second.1.reads third.1.reads

-- and so what `play` may read
run_reads : {order views : List (List ℕ)} {last : State ℕ} → (p : Plays C acts order views last) → costs p.run ≤ 10
run_reads p = all_steps p.run

pub written_reads : (g : Nodes) → g ≡ twins → (asked : List Act) → asked ≡ acts → (head : List ℕ) (counts : Counts) (before now : Option (List ℕ)) (s₀ s₁ : ℕ) → WroteGraphRun false g head asked counts before now s₀ s₁ → s₁ ≤ s₀ + 10
written_reads g is asked same head counts before now s₀ s₁ wrote =
    let w = subst (λ (n : Nodes). WroteGraphRun false n head acts counts before now s₀ s₁) is (subst (λ (a : List Act). WroteGraphRun false g head a counts before now s₀ s₁) same wrote) in
    let bound = run_reads w.run.shown.plays in
    omega (arith, bound, w.reads)

pub began_reads : (g : Nodes) → g ≡ twins → (asked : List Act) → asked ≡ acts → (head : List ℕ) (before now : Option (List ℕ)) (s₀ s₁ : ℕ) → WroteGraphRunPrefix false g head asked before now s₀ s₁ → s₁ ≤ s₀ + 10
began_reads g is asked same head before now s₀ s₁ wrote =
    let w = subst (λ (n : Nodes). WroteGraphRunPrefix false n head acts before now s₀ s₁) is (subst (λ (a : List Act). WroteGraphRunPrefix false g head a before now s₀ s₁) same wrote) in
    let bound = run_reads w.run.shown.plays in
    omega (arith, bound, w.reads)

abbrev refused : {T : Type 0} → PlayRefusal → Result T PlayRefusal
refused refusal = Err refusal

pub refused_reads : {T : Type 0} (refusal : PlayRefusal) (s₀ s₁ : ℕ) → (refused {T = T} refusal ≡ Err WriteFault → s₁ ≤ s₀ + 10) → (refused {T = T} refusal ≡ Err NoMemory → s₁ ≡ s₀) → s₁ ≤ s₀ + 10
refused_reads WriteFault s₀ s₁ written unread = written refl
refused_reads NoMemory s₀ s₁ written unread = (let same = unread refl in omega (arith, same))
