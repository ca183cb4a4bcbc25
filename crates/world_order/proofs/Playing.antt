-- The parts of a check, told of one build and one script.
use Rattle.std.proofs.Common.{◌≡◌, ℕ, ◌+◌, ◌*◌, List, length, refl, sym, ◌∙◌, ap, subst, arith}
use Rattle.std.proofs.lemmas.List.{length-map}
use Rattle.std.specs.Prelude.{Bool, true, false, not, Result, Ok, Err, OnOk, IfErr}
use Rattle.circuit.specs.declared.Click.{Click}
use Rattle.circuit.specs.declared.Pos.{Pos}
use Rattle.circuit.specs.declared.Step.{Step}
use Rattle.circuit.specs.declared.Step.TheVariants.{Click as ClickAt, Tick as OneTick}
use Rattle.circuit.specs.Circuit.{Circuit, State, Clicks, Each, IsDue, start, view}
use Rattle.build.specs.declared.OutPlace.{OutPlace}
use Rattle.build.specs.Outputs.{outputs}
use Rattle.build.specs.Plan.{Plan, IsWhole}
use Rattle.power_rules.specs.World.{world_circuit}
use Rattle.replay_engine.specs.Running.{Running, state_in}
use Rattle.report.specs.declared.Cause.{Cause}
use Rattle.report.specs.declared.Cause.TheVariants.{Start}
use Rattle.report.specs.Header.{header}
use Rattle.report.specs.RoomyText.{RoomyText}
use Rattle.report.specs.ViewLine.{view_line, cause_of}
use Rattle.script.specs.Acts.{Meaning}
use Rattle.world_order.specs.declared.front.Bad.{Bad}
use Rattle.world_order.specs.declared.front.Front.{Front}
use Rattle.world_order.specs.Reading.{IsBadStep, IsFront, IsLine, IsNoLine, IsReading, IsReady, ReadsOn, ReadsStep, header_lines}
use Rattle.world_order.proofs.Headings.{header_is_lined}
use Rattle.world_order.proofs.Steps.{first_line}

-- ---- answers

pub on_ok_holds : {T E : Type 0} (r : Result T E) (P : Type 0) → P → OnOk r P
on_ok_holds (Ok x) P p = p
on_ok_holds (Err e) P p = tt

pub on_ok_then : {T E : Type 0} (r : Result T E) (P Q : Type 0) → (P → Q) → OnOk r P → OnOk r Q
on_ok_then (Ok x) P Q f p = f p
on_ok_then (Err e) P Q f p = tt

pub if_err_then : {T E : Type 0} (r : Result T E) (P Q : E → Type 0) → ((e : E) → P e → Q e) → IfErr r P → IfErr r Q
if_err_then (Ok x) P Q f p = tt
if_err_then (Err e) P Q f p = f e p

-- ---- the start

pub ready : (b : Plan) → IsWhole b → (marks : List Pos) (w : Running) (places : List OutPlace) (head shown : List ℕ) (line : RoomyText) → w.plan ≡ b → w.marks ≡ marks → state_in w ≡ start (world_circuit b marks) →
    places ≡ outputs b marks → head ≡ header places → length shown ≡ length places → line.room ≡ 32 + 3 * length places → IsReady w head shown line
ready b whole marks w places head shown line plan marked at_start are is long room =
    let same : outputs b marks ≡ outputs w.plan w.marks = λ i. outputs (sym plan i) (sym marked i) in
    let count : length places ≡ length (outputs w.plan w.marks) = ap (λ (os : List OutPlace). length os) (are ∙ same) in
    record {
      at_start = at_start ∙ (λ i. start (world_circuit (sym plan i) (sym marked i)));
      header = is ∙ ap header (are ∙ same);
      values = long ∙ count ∙ sym (length-map (outputs w.plan w.marks) (λ (o : OutPlace). o.pos));
      room = omega (arith, long, room);
      lined = subst (λ (os : List OutPlace). Each IsLine (header_lines os)) same (header_is_lined b whole marks);
    }

module _ (w : Running) (head shown : List ℕ) (line : RoomyText) (r : IsReady w head shown line) (marks : List Pos) (marked : w.marks ≡ marks) where
  pub head_is : head ≡ header (outputs w.plan marks)
  head_is = r.header ∙ ap (λ (ms : List Pos). header (outputs w.plan ms)) marked

  pub head_lined : Each IsLine (header_lines (outputs w.plan marks))
  head_lined = subst (λ (ms : List Pos). Each IsLine (header_lines (outputs w.plan ms))) marked r.lined

  pub start_is : state_in w ≡ start (world_circuit w.plan marks)
  start_is = r.at_start ∙ ap (λ (ms : List Pos). start (world_circuit w.plan ms)) marked

  pub zero_time : w.time ≡ 0
  zero_time = ap (λ (s : State Pos). s.time) r.at_start

  pub first_is : view_line w.time Start (view (world_circuit w.plan w.marks) (state_in w)) ≡ first_line w.plan marks
  first_is = (λ i. view_line (zero_time i) Start (view (world_circuit w.plan (marked i)) (start_is i)))

  pub none_at_start : (key : Pos) → IsDue (world_circuit w.plan w.marks) (state_in w) key → ⊥
  none_at_start key d = d.waits (d.now ∙ zero_time)

-- ---- a click

module _ (b : Plan) (marks : List Pos) (old : State Pos) (w : Running) (place : Pos) (click : Click) (text : List ℕ) (from : Front) (D : Circuit Pos) (same : D ≡ world_circuit b marks) (cause : Cause) (is : cause ≡ cause_of click)
    (clicks : Clicks (world_circuit b marks) place click old (state_in w)) where
  line_is : view_line w.time cause (view D (state_in w)) ≡ view_line w.time (cause_of click) (view (world_circuit b marks) (state_in w))
  line_is = λ i. view_line w.time (is i) (view (same i) (state_in w))

  pub click_reads : (to : Front) → ReadsOn text from to (view_line w.time cause (view D (state_in w))) 0 0 → ReadsStep (world_circuit b marks) (ClickAt place click) old (state_in w) text from to
  click_reads to r = record { clicks = clicks; reads = subst (λ (l : List ℕ). ReadsOn text from to l 0 0) line_is r }

  pub click_wrong : (bad : Bad) → IsNoLine text from (view_line w.time cause (view D (state_in w))) bad → IsBadStep b marks (ClickAt place click) old text from bad
  click_wrong bad n = record { next = state_in w; clicks = clicks; is = subst (λ (l : List ℕ). IsNoLine text from l bad) line_is n }

-- ---- a step

pub step_front : (C : Circuit Pos) (step : Step) (old new : State Pos) (text : List ℕ) (from to : Front) → ReadsStep C step old new text from to → IsFront text to
step_front C (ClickAt place click) old new text from to r = r.reads.is
step_front C OneTick old new text from to r = r.reads.is

pub step_as : (C D : Circuit Pos) (step : Step) (old new : State Pos) (text : List ℕ) (from to : Front) → C ≡ D → ReadsStep C step old new text from to → ReadsStep D step old new text from to
step_as C D step old new text from to e r = subst (λ (K : Circuit Pos). ReadsStep K step old new text from to) e r

pub bad_step_as : (plan b : Plan) (marks other : List Pos) (step : Step) (old : State Pos) (text : List ℕ) (from : Front) (bad : Bad) → plan ≡ b → marks ≡ other → IsBadStep plan marks step old text from bad →
    IsBadStep b other step old text from bad
bad_step_as plan b marks other step old text from bad e f h =
    subst (λ (ms : List Pos). IsBadStep b ms step old text from bad) f (subst (λ (p : Plan). IsBadStep p marks step old text from bad) e h)

pub none_as : (C D : Circuit Pos) (s : State Pos) → C ≡ D → ((key : Pos) → IsDue C s key → ⊥) → (key : Pos) → IsDue D s key → ⊥
none_as C D s e none = subst (λ (K : Circuit Pos). (key : Pos) → IsDue K s key → ⊥) e none

pub reading_as : (b : Plan) (script : Meaning) (text : List ℕ) (s t : State Pos) (left other : List Step) (front : Front) → s ≡ t → left ≡ other → IsReading b script text s left front → IsReading b script text t other front
reading_as b script text s t left other front e f r =
    subst (λ (steps : List Step). IsReading b script text t steps front) f (subst (λ (u : State Pos). IsReading b script text u left front) e r)

-- ---- a test turned round

pub not_false : (b : Bool) → not b ≡ false → b ≡ true
not_false true h = refl
not_false false h = sym h
