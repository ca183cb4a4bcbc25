-- What an ending says of the status that it gives.
use Rattle.std.proofs.Common.{◌≡◌, ◌⊎◌, ◌≤◌, inl, inr, ℕ, true, false, List, length, refl, sym, ap, subst, ◌∙◌, arith, Option, Some, None, Result, Ok, Err, OnOk, OnErr}
use Rattle.std.proofs.lemmas.Bool.{cases_Bool}
use Rattle.circuit.specs.declared.Pos.{Pos}
use Rattle.build.specs.Plan.{Plan}
use Rattle.schematic.specs.File.{Refusal, unknown_block, file, is_own, plain_refusal, IsFirstRefusal}
use Rattle.schematic.proofs.Verdicts.{same_build, not_both, one_cause}
use Rattle.script.specs.declared.ScriptKind.{ScriptKind}
use Rattle.script.specs.declared.ScriptRefusal.{ScriptRefusal}
use Rattle.script.specs.declared.ScriptRefusal.TheVariants.{Line, NoMemory as NoMemoryOfScript}
use Rattle.script.specs.Acts.{Meaning}
use Rattle.report.specs.declared.Fault.{Fault}
use Rattle.report.specs.declared.Fault.TheVariants.{Usage as UsageFault, Read, Write, Build as BuildFault, BuildTooLong, Script as ScriptFault, ScriptTooLong, Memory, Order, OrderTooLong, Graph, GraphTooLong}
use Rattle.rp_io.specs.Causes.{Rose, HasCause, Wrote, WrotePrefix}
use Rattle.redpile_top.specs.declared.form.Command.{Command}
use Rattle.redpile_top.specs.declared.form.Form.{Form}
use Rattle.redpile_top.specs.declared.form.Form.TheVariants.{OnBuild, Check, Play, Bench}
use Rattle.redpile_top.specs.declared.status.Status.{Status}
use Rattle.redpile_top.specs.declared.status.Status.TheVariants.{Done, Usage, ReadFault, WriteFault, BadBuild, BadBlock, BadScript, BadOrder, NoMemory, BadGraph}
use Rattle.redpile_top.specs.Forms.{word}
use Rattle.redpile_top.specs.Files.{Told, OnTold, IsBuild, is_block, IsBadBuild, IsBadBlock, tests_of, IsScript, IsBadScript, IsOrderFile, IsBadOrder}
use Rattle.redpile_top.specs.Ends.{Ran, Accepted, BuildFaults, CheckFaults, UnreadFaults, IsBuildOf, BuildCause, ScriptCause, BeganForm, OnWriteFault, ButForWrites}
use Rattle.redpile_top.specs.Clauses.{IsBadScriptFor, IsBadOrderFor, Exactly, BuildClause, BlockClause, ScriptClause, OrderClause, GraphClause, FrontClause, CompleteClause, status_of, status_of_cause, status_of_script}
use Rattle.redpile_top.proofs.Answering.{never, by_read, by_memory, here, not_bad_script, cause_other, script_other, graph_other}
use Rattle.redpile_top.proofs.Playing.{Began as BeganPlay, graph_accepted, script_accepted as script_accepted_on, graph_over, script_over as script_over_graph, complete_over as complete_over_graph, play_alone}

-- ---- what excludes what

own_block : (r : Refusal) → is_block r ≡ true → is_own r ≡ true
own_block (unknown_block name) h = refl
own_block _ h = absurd (cc)

named_block : (r : Refusal) → is_block r ≡ true → (name : List ℕ) × (r ≡ unknown_block name)
named_block (unknown_block name) h = (name, refl)
named_block _ h = absurd (cc)

not_bad_build : (bytes : List ℕ) (build : Plan) → IsBuild build bytes → IsBadBuild bytes → ⊥
not_bad_build bytes build good bad = elim bad [
  | inl long ↦ absurd (let within : length bytes ≤ 67108864 = good.within in omega arith)
  | inr cause ↦ not_both bytes build cause.refusal good.is cause.first
]

not_bad_block : (bytes : List ℕ) (build : Plan) → file bytes build → IsBadBlock bytes → ⊥
not_bad_block bytes build is bad = not_both bytes build (unknown_block bad.name) is bad.first

-- a block is the first cause, so no other is
block_alone : (bytes : List ℕ) (r : Refusal) → length bytes ≤ 67108864 → is_block r ≡ true → IsFirstRefusal bytes r → IsBadBuild bytes → ⊥
block_alone bytes r within block first bad = elim bad [
  | inl long ↦ absurd (omega arith)
  | inr cause ↦ (let same : cause.refusal ≡ r = one_cause bytes r cause.refusal (own_block r block) first cause.first in
      let clash : false ≡ true = sym cause.other ∙ ap is_block same ∙ block in absurd (cc))
]

-- another cause is the first, so no block is
no_block : (bytes : List ℕ) (r : Refusal) → is_block r ≡ false → IsFirstRefusal bytes r → IsBadBlock bytes → ⊥
no_block bytes r other first bad =
    let same : r ≡ unknown_block bad.name = one_cause bytes (unknown_block bad.name) r refl bad.first first in
    let clash : false ≡ true = sym other ∙ ap is_block same in
    cc

-- for an accepted build and script no build makes the script bad
not_bad_script_for : (build_bytes bytes : List ℕ) (build : Plan) (script : Meaning) → IsBuild build build_bytes → IsScript (tests_of build) script bytes → IsBadScriptFor build_bytes bytes → ⊥
not_bad_script_for build_bytes bytes build script is_build is_script bad =
    let same = same_build build_bytes bad.0 build (bad.1).0.is is_build.is in
    not_bad_script bytes (tests_of build) script is_script (subst (λ (b : Plan). IsBadScript (tests_of b) bytes) same (bad.1).1)

-- a build that is refused has no script
refused_script : (build_bytes bytes : List ℕ) (r : Refusal) → IsFirstRefusal build_bytes r → IsBadScriptFor build_bytes bytes → ⊥
refused_script build_bytes bytes r first bad = not_both build_bytes bad.0 r (bad.1).0.is first

-- ---- by the build's first cause

module _ (b : Option (List ℕ)) where
  build_by : (told : Option Refusal) → BuildCause b told → (bytes : List ℕ) → b ≡ Some bytes → Exactly (IsBadBuild bytes) BadBuild (status_of_cause told)
  build_by None cause bytes is = by_memory (IsBadBuild bytes) BadBuild (λ e. cc)
  build_by (Some r) cause bytes is = elim (cases_Bool (is_block r)) [
    | inl h ↦ rw h (never (IsBadBuild bytes) BadBuild BadBlock (λ e. cc) (block_alone bytes r (cause bytes is).0 h (cause bytes is).1))
    | inr h ↦ rw h (here (IsBadBuild bytes) BadBuild (inr (record { refusal = r; other = h; first = (cause bytes is).1 })))
  ]

  block_by : (told : Option Refusal) → BuildCause b told → (bytes : List ℕ) → b ≡ Some bytes → Exactly (IsBadBlock bytes) BadBlock (status_of_cause told)
  block_by None cause bytes is = by_memory (IsBadBlock bytes) BadBlock (λ e. cc)
  block_by (Some r) cause bytes is = elim (cases_Bool (is_block r)) [
    | inl h ↦ (let named = named_block r h in
        rw h (here (IsBadBlock bytes) BadBlock (record { within = (cause bytes is).0; name = named.0; first = subst (IsFirstRefusal bytes) named.1 (cause bytes is).1 })))
    | inr h ↦ rw h (never (IsBadBlock bytes) BadBlock BadBuild (λ e. cc) (no_block bytes r h (cause bytes is).1))
  ]

  script_refused : (told : Option Refusal) → BuildCause b told → (build_bytes bytes : List ℕ) → b ≡ Some build_bytes → Exactly (IsBadScriptFor build_bytes bytes) BadScript (status_of_cause told)
  script_refused None cause build_bytes bytes is = by_memory (IsBadScriptFor build_bytes bytes) BadScript (λ e. cc)
  script_refused (Some r) cause build_bytes bytes is = elim (cases_Bool (is_block r)) [
    | inl h ↦ rw h (never (IsBadScriptFor build_bytes bytes) BadScript BadBlock (λ e. cc) (refused_script build_bytes bytes r (cause build_bytes is).1))
    | inr h ↦ rw h (never (IsBadScriptFor build_bytes bytes) BadScript BadBuild (λ e. cc) (refused_script build_bytes bytes r (cause build_bytes is).1))
  ]

  complete_refused : (told : Option Refusal) → BuildCause b told → (build : Plan) (bytes : List ℕ) → b ≡ Some bytes → IsBuild build bytes →
      (status_of_cause told ≡ Done) ⊎ ((status_of_cause told ≡ ReadFault) ⊎ ((status_of_cause told ≡ WriteFault) ⊎ (status_of_cause told ≡ NoMemory)))
  complete_refused None cause build bytes is good = inr (inr (inr refl))
  complete_refused (Some r) cause build bytes is good = absurd (not_both bytes build r good.is (cause bytes is).1)

module _ (b s : Option (List ℕ)) where
  build_by_script : (refusal : ScriptRefusal) → ScriptCause (IsBuildOf b) tests_of s refusal → (bytes : List ℕ) → b ≡ Some bytes → Exactly (IsBadBuild bytes) BadBuild (status_of_script refusal)
  build_by_script (Line line kind) cause bytes is = never (IsBadBuild bytes) BadBuild BadScript (λ e. cc) (not_bad_build bytes cause.target (cause.good bytes is))
  build_by_script NoMemoryOfScript cause bytes is = by_memory (IsBadBuild bytes) BadBuild (λ e. cc)

  block_by_script : (refusal : ScriptRefusal) → ScriptCause (IsBuildOf b) tests_of s refusal → (bytes : List ℕ) → b ≡ Some bytes → Exactly (IsBadBlock bytes) BadBlock (status_of_script refusal)
  block_by_script (Line line kind) cause bytes is = never (IsBadBlock bytes) BadBlock BadScript (λ e. cc) (not_bad_block bytes cause.target (cause.good bytes is).is)
  block_by_script NoMemoryOfScript cause bytes is = by_memory (IsBadBlock bytes) BadBlock (λ e. cc)

  line_of : (line : ℕ) (kind : ScriptKind) → ScriptCause (IsBuildOf b) tests_of s (Line line kind) → (build_bytes bytes : List ℕ) → b ≡ Some build_bytes → s ≡ Some bytes → IsBadScriptFor build_bytes bytes
  line_of line kind cause build_bytes bytes is_b is_s =
      (cause.target, (cause.good build_bytes is_b, inr (record { line = line; kind = kind; is = (cause.holds bytes is_s).1 })))

  script_by : (refusal : ScriptRefusal) → ScriptCause (IsBuildOf b) tests_of s refusal → (build_bytes bytes : List ℕ) → b ≡ Some build_bytes → s ≡ Some bytes → Exactly (IsBadScriptFor build_bytes bytes) BadScript (status_of_script refusal)
  script_by (Line line kind) cause build_bytes bytes is_b is_s = here (IsBadScriptFor build_bytes bytes) BadScript (line_of line kind cause build_bytes bytes is_b is_s)
  script_by NoMemoryOfScript cause build_bytes bytes is_b is_s = by_memory (IsBadScriptFor build_bytes bytes) BadScript (λ e. cc)

  complete_by : (refusal : ScriptRefusal) → ScriptCause (IsBuildOf b) tests_of s refusal → (build : Plan) (script : Meaning) (build_bytes bytes : List ℕ) → b ≡ Some build_bytes → s ≡ Some bytes → IsBuild build build_bytes → IsScript (tests_of build) script bytes →
      (status_of_script refusal ≡ Done) ⊎ ((status_of_script refusal ≡ ReadFault) ⊎ ((status_of_script refusal ≡ WriteFault) ⊎ (status_of_script refusal ≡ NoMemory)))
  complete_by (Line line kind) cause build script build_bytes bytes is_b is_s good fit = absurd (not_bad_script_for build_bytes bytes build script good fit (line_of line kind cause build_bytes bytes is_b is_s))
  complete_by NoMemoryOfScript cause build script build_bytes bytes is_b is_s good fit = inr (inr (inr refl))

-- where build and script are accepted, no status tells that one of them is bad
module _ (b s : Option (List ℕ)) (build : Plan) (script : Meaning) (accepted : Accepted (IsBuildOf b) tests_of s build script) (status : Status) where
  build_accepted : (status ≡ BadBuild → ⊥) → OnTold b (λ bytes. Exactly (IsBadBuild bytes) BadBuild status)
  build_accepted h = λ bytes is. never (IsBadBuild bytes) BadBuild status h (not_bad_build bytes build (accepted.good bytes is))

  block_accepted : (status ≡ BadBlock → ⊥) → OnTold b (λ bytes. Exactly (IsBadBlock bytes) BadBlock status)
  block_accepted h = λ bytes is. never (IsBadBlock bytes) BadBlock status h (not_bad_block bytes build (accepted.good bytes is).is)

  script_accepted : (status ≡ BadScript → ⊥) → OnTold b (λ build_bytes. OnTold s (λ bytes. Exactly (IsBadScriptFor build_bytes bytes) BadScript status))
  script_accepted h = λ build_bytes is_b bytes is_s. never (IsBadScriptFor build_bytes bytes) BadScript status h
      (not_bad_script_for build_bytes bytes build script (accepted.good build_bytes is_b) (accepted.script_is bytes is_s))

-- ---- over a build and a script, by the fault

module _ (b s : Option (List ℕ)) (reading writing : Type 0) where
  -- what is done was done for an accepted build and script
  abbrev Began : Fault → Type 0
  Began fault = OnWriteFault (Err fault) ((build : Plan) × (script : Meaning) × Accepted (IsBuildOf b) tests_of s build script)

  build_over : (fault : Fault) → BuildFaults b s reading writing fault → Began fault → OnTold b (λ bytes. Exactly (IsBadBuild bytes) BadBuild (status_of fault))
  build_over Read cause began = λ bytes is. by_read (IsBadBuild bytes) BadBuild (λ e. cc)
  build_over Write cause began = build_accepted b s began.0 began.1 began.2 WriteFault (λ e. cc)
  build_over (BuildFault refusal) cause began = build_by b (plain_refusal refusal) cause
  build_over BuildTooLong cause began = λ bytes is. here (IsBadBuild bytes) BadBuild (inl (cause bytes is))
  build_over (ScriptFault refusal) cause began = build_by_script b s refusal cause
  build_over ScriptTooLong cause began = λ bytes is. never (IsBadBuild bytes) BadBuild BadScript (λ e. cc) (not_bad_build bytes cause.target (cause.good bytes is))
  build_over Memory cause began = λ bytes is. by_memory (IsBadBuild bytes) BadBuild (λ e. cc)
  build_over _ cause began = absurd cause

  block_over : (fault : Fault) → BuildFaults b s reading writing fault → Began fault → OnTold b (λ bytes. Exactly (IsBadBlock bytes) BadBlock (status_of fault))
  block_over Read cause began = λ bytes is. by_read (IsBadBlock bytes) BadBlock (λ e. cc)
  block_over Write cause began = block_accepted b s began.0 began.1 began.2 WriteFault (λ e. cc)
  block_over (BuildFault refusal) cause began = block_by b (plain_refusal refusal) cause
  block_over BuildTooLong cause began = λ bytes is. never (IsBadBlock bytes) BadBlock BadBuild (λ e. cc) (λ bad. let within = bad.within in let long = cause bytes is in omega arith)
  block_over (ScriptFault refusal) cause began = block_by_script b s refusal cause
  block_over ScriptTooLong cause began = λ bytes is. never (IsBadBlock bytes) BadBlock BadScript (λ e. cc) (not_bad_block bytes cause.target (cause.good bytes is).is)
  block_over Memory cause began = λ bytes is. by_memory (IsBadBlock bytes) BadBlock (λ e. cc)
  block_over _ cause began = absurd cause

  script_over : (fault : Fault) → BuildFaults b s reading writing fault → Began fault →
      OnTold b (λ build_bytes. OnTold s (λ bytes. Exactly (IsBadScriptFor build_bytes bytes) BadScript (status_of fault)))
  script_over Read cause began = λ build_bytes is_b bytes is_s. by_read (IsBadScriptFor build_bytes bytes) BadScript (λ e. cc)
  script_over Write cause began = script_accepted b s began.0 began.1 began.2 WriteFault (λ e. cc)
  script_over (BuildFault refusal) cause began = λ build_bytes is_b bytes is_s. script_refused b (plain_refusal refusal) cause build_bytes bytes is_b
  script_over BuildTooLong cause began = λ build_bytes is_b bytes is_s. never (IsBadScriptFor build_bytes bytes) BadScript BadBuild (λ e. cc)
      (λ bad. let within = (bad.1).0.within in let long = cause build_bytes is_b in omega arith)
  script_over (ScriptFault refusal) cause began = λ build_bytes is_b bytes is_s. script_by b s refusal cause build_bytes bytes is_b is_s
  script_over ScriptTooLong cause began = λ build_bytes is_b bytes is_s. here (IsBadScriptFor build_bytes bytes) BadScript (cause.target, (cause.good build_bytes is_b, inl (cause.holds bytes is_s)))
  script_over Memory cause began = λ build_bytes is_b bytes is_s. by_memory (IsBadScriptFor build_bytes bytes) BadScript (λ e. cc)
  script_over _ cause began = absurd cause

  complete_over : (fault : Fault) → BuildFaults b s reading writing fault → (build : Plan) (script : Meaning) (build_bytes bytes : List ℕ) → b ≡ Some build_bytes → s ≡ Some bytes → IsBuild build build_bytes → IsScript (tests_of build) script bytes →
      (status_of fault ≡ Done) ⊎ ((status_of fault ≡ ReadFault) ⊎ ((status_of fault ≡ WriteFault) ⊎ (status_of fault ≡ NoMemory)))
  complete_over Read cause = λ build script build_bytes bytes is_b is_s good fit. inr (inl refl)
  complete_over Write cause = λ build script build_bytes bytes is_b is_s good fit. inr (inr (inl refl))
  complete_over (BuildFault refusal) cause = λ build script build_bytes bytes is_b is_s good fit. complete_refused b (plain_refusal refusal) cause build build_bytes is_b good
  complete_over BuildTooLong cause = λ build script build_bytes bytes is_b is_s good fit. absurd (let within = good.within in let long = cause build_bytes is_b in omega arith)
  complete_over (ScriptFault refusal) cause = λ build script build_bytes bytes is_b is_s good fit. complete_by b s refusal cause build script build_bytes bytes is_b is_s good fit
  complete_over ScriptTooLong cause = λ build script build_bytes bytes is_b is_s good fit. absurd (let within = fit.within in let long = cause.holds bytes is_s in omega arith)
  complete_over Memory cause = λ build script build_bytes bytes is_b is_s good fit. inr (inr (inr refl))
  complete_over _ cause = absurd cause

  -- why an order is bad, or what is wrong before it is read
  check_cause : (o : Option (List ℕ)) (fault : Fault) → CheckFaults b s o reading writing fault →
      BuildFaults b s reading writing fault ⊎ ((status_of fault ≡ BadOrder) × ((build : Plan) × (script : Meaning) × Accepted (IsBuildOf b) tests_of s build script × OnTold o (IsBadOrder build script)))
  check_cause o (Order line tick kind) cause = inr (refl, (cause.build, cause.script, cause.accepted, λ bytes is. inr (cause.holds bytes is).none))
  check_cause o OrderTooLong cause = inr (refl, (cause.build, cause.script, cause.accepted, λ bytes is. inl (cause.holds bytes is)))
  check_cause o _ cause = inl cause

-- ---- an order

-- for an accepted build and script with an order no others make it bad
not_bad_order_for : (build_bytes script_bytes bytes : List ℕ) (build : Plan) (script : Meaning) (order : List (List Pos)) → IsBuild build build_bytes → IsScript (tests_of build) script script_bytes →
    IsOrderFile build script order bytes → IsBadOrderFor build_bytes script_bytes bytes → ⊥
not_bad_order_for build_bytes script_bytes bytes build script order good fit is bad =
    let same : bad.build ≡ build = same_build build_bytes bad.build build bad.is_build.is good.is in
    let found : IsScript (tests_of build) bad.script script_bytes = subst (λ (b : Plan). IsScript (tests_of b) bad.script script_bytes) same bad.is_script in
    let both : ◌≡◌ {A = Result Meaning ScriptRefusal} (Ok bad.script) (Ok script) = sym found.is ∙ fit.is in
    let script_same : bad.script ≡ script = cc in
    let for_build : IsBadOrder build bad.script bytes = subst (λ (b : Plan). IsBadOrder b bad.script bytes) same bad.bad in
    let here_bad : IsBadOrder build script bytes = subst (λ (m : Meaning). IsBadOrder build m bytes) script_same for_build in
    elim here_bad [
      | inl long ↦ absurd (let within : length bytes ≤ 268435456 = is.within in omega arith)
      | inr none ↦ absurd (none order is.is)
    ]

-- ---- the clauses, by the ending

module _ (told : Told) (words : List (List ℕ)) (reading writing untouched : Type 0) (before now : Option (List ℕ)) where
  pub build_done : (form : Option Form) → Ran form told words reading writing untouched before now (Ok tt) → BuildClause form told words Done
  build_done None ran = λ e. cc
  build_done (Some (Bench units)) ran = λ e. cc
  build_done (Some Play) ran = λ e. cc
  build_done (Some Check) ran = build_accepted (told (word words 1)) (told (word words 2)) ran.done.target ran.done.script ran.done.accepted Done (λ e. cc)
  build_done (Some (OnBuild command)) ran = build_accepted (told (word words 1)) (told (word words 2)) ran.done.target ran.done.script ran.done.accepted Done (λ e. cc)

  pub block_done : (form : Option Form) → Ran form told words reading writing untouched before now (Ok tt) → BlockClause form told words Done
  block_done None ran = λ e. cc
  block_done (Some (Bench units)) ran = λ e. cc
  block_done (Some Play) ran = λ e. cc
  block_done (Some Check) ran = block_accepted (told (word words 1)) (told (word words 2)) ran.done.target ran.done.script ran.done.accepted Done (λ e. cc)
  block_done (Some (OnBuild command)) ran = block_accepted (told (word words 1)) (told (word words 2)) ran.done.target ran.done.script ran.done.accepted Done (λ e. cc)

  pub script_done : (form : Option Form) → Ran form told words reading writing untouched before now (Ok tt) → ScriptClause form told words Done
  script_done None ran = λ e. cc
  script_done (Some (Bench units)) ran = λ e. cc
  script_done (Some Play) ran = script_accepted_on (told (word words 1)) (told (word words 2)) ran.done.target ran.done.script ran.done.accepted Done (λ e. cc)
  script_done (Some Check) ran = script_accepted (told (word words 1)) (told (word words 2)) ran.done.target ran.done.script ran.done.accepted Done (λ e. cc)
  script_done (Some (OnBuild command)) ran = script_accepted (told (word words 1)) (told (word words 2)) ran.done.target ran.done.script ran.done.accepted Done (λ e. cc)

  pub order_done : (form : Option Form) → Ran form told words reading writing untouched before now (Ok tt) → OrderClause form told words Done
  order_done None ran = λ e. cc
  order_done (Some (Bench units)) ran = λ e. cc
  order_done (Some Play) ran = λ e. cc
  order_done (Some Check) ran = λ build_bytes is_b script_bytes is_s bytes is_o. never (IsBadOrderFor build_bytes script_bytes bytes) BadOrder Done (λ e. cc)
      (not_bad_order_for build_bytes script_bytes bytes ran.done.target ran.done.script ran.done.wrote.order (ran.done.accepted.good build_bytes is_b) (ran.done.accepted.script_is script_bytes is_s) (ran.done.wrote.is_order bytes is_o))
  order_done (Some (OnBuild command)) ran = λ e. cc

  pub graph_done : (form : Option Form) → Ran form told words reading writing untouched before now (Ok tt) → GraphClause form told words Done
  graph_done None ran = λ e. cc
  graph_done (Some (Bench units)) ran = λ e. cc
  graph_done (Some Play) ran = graph_accepted (told (word words 1)) (told (word words 2)) ran.done.target ran.done.script ran.done.accepted Done (λ e. cc)
  graph_done (Some Check) ran = λ e. cc
  graph_done (Some (OnBuild command)) ran = λ e. cc

  -- words without a form are Usage
  usage_alone : (fault : Fault) (answer : Status) → (Usage ≡ answer → ⊥) → fault ≡ UsageFault → status_of fault ≡ answer → ⊥
  usage_alone fault answer h same f = h (subst (λ (x : Fault). status_of x ≡ answer) same f)

  -- where no file is read, a write's fault or want of memory is all that comes
  unread_alone : (fault : Fault) (answer : Status) → (WriteFault ≡ answer → ⊥) → (NoMemory ≡ answer → ⊥) → UnreadFaults writing fault → status_of fault ≡ answer → ⊥
  unread_alone Write answer a b cause e = a e
  unread_alone Memory answer a b cause e = b e
  unread_alone _ answer a b cause e = absurd cause

  unread_complete : (fault : Fault) → UnreadFaults writing fault → (status_of fault ≡ Done) ⊎ ((status_of fault ≡ WriteFault) ⊎ (status_of fault ≡ NoMemory))
  unread_complete Write cause = inr (inl refl)
  unread_complete Memory cause = inr (inr refl)
  unread_complete _ cause = absurd cause

  abbrev RanTo : Option Form → Fault → Type 0
  RanTo form fault = Ran form told words reading writing untouched before now (Err fault)

  -- what was begun was begun for an accepted build and script
  began_on : (command : Command) (fault : Fault) → RanTo (Some (OnBuild command)) fault → Began (told (word words 1)) (told (word words 2)) reading writing fault
  began_on command Write ran = (ran.front.target, ran.front.script, ran.front.accepted)
  began_on command _ ran = tt

  began_check : (fault : Fault) → RanTo (Some Check) fault → Began (told (word words 1)) (told (word words 2)) reading writing fault
  began_check Write ran = (ran.front.target, ran.front.script, ran.front.accepted)
  began_check _ ran = tt

  began_play : (fault : Fault) → RanTo (Some Play) fault → BeganPlay (told (word words 1)) (told (word words 2)) reading writing fault
  began_play Write ran = (ran.front.target, ran.front.script, ran.front.accepted)
  began_play _ ran = tt

  pub build_failed : (fault : Fault) (form : Option Form) → RanTo form fault → BuildClause form told words (status_of fault)
  build_failed fault None ran = usage_alone fault BadBuild (λ e. cc) ran.caused
  build_failed fault (Some (Bench units)) ran = unread_alone fault BadBuild (λ e. cc) (λ e. cc) ran.caused
  build_failed fault (Some Play) ran = play_alone (told (word words 1)) (told (word words 2)) reading writing BadBuild (λ e. cc) (λ e. cc) (λ e. cc) (λ e. cc) (λ e. cc) fault ran.caused
  build_failed fault (Some Check) ran = elim (check_cause (told (word words 1)) (told (word words 2)) reading writing (told (word words 3)) fault ran.caused) [
    | inl cause ↦ build_over (told (word words 1)) (told (word words 2)) reading writing fault cause (began_check fault ran)
    | inr bad ↦ build_accepted (told (word words 1)) (told (word words 2)) bad.1.0 bad.1.1 bad.1.2 (status_of fault) (λ e. let clash : BadOrder ≡ BadBuild = sym bad.0 ∙ e in cc)
  ]
  build_failed fault (Some (OnBuild command)) ran = build_over (told (word words 1)) (told (word words 2)) reading writing fault ran.caused (began_on command fault ran)

  pub block_failed : (fault : Fault) (form : Option Form) → RanTo form fault → BlockClause form told words (status_of fault)
  block_failed fault None ran = usage_alone fault BadBlock (λ e. cc) ran.caused
  block_failed fault (Some (Bench units)) ran = unread_alone fault BadBlock (λ e. cc) (λ e. cc) ran.caused
  block_failed fault (Some Play) ran = play_alone (told (word words 1)) (told (word words 2)) reading writing BadBlock (λ e. cc) (λ e. cc) (λ e. cc) (λ e. cc) (λ e. cc) fault ran.caused
  block_failed fault (Some Check) ran = elim (check_cause (told (word words 1)) (told (word words 2)) reading writing (told (word words 3)) fault ran.caused) [
    | inl cause ↦ block_over (told (word words 1)) (told (word words 2)) reading writing fault cause (began_check fault ran)
    | inr bad ↦ block_accepted (told (word words 1)) (told (word words 2)) bad.1.0 bad.1.1 bad.1.2 (status_of fault) (λ e. let clash : BadOrder ≡ BadBlock = sym bad.0 ∙ e in cc)
  ]
  block_failed fault (Some (OnBuild command)) ran = block_over (told (word words 1)) (told (word words 2)) reading writing fault ran.caused (began_on command fault ran)

  pub script_failed : (fault : Fault) (form : Option Form) → RanTo form fault → ScriptClause form told words (status_of fault)
  script_failed fault None ran = usage_alone fault BadScript (λ e. cc) ran.caused
  script_failed fault (Some (Bench units)) ran = unread_alone fault BadScript (λ e. cc) (λ e. cc) ran.caused
  script_failed fault (Some Play) ran = script_over_graph (told (word words 1)) (told (word words 2)) reading writing fault ran.caused (began_play fault ran)
  script_failed fault (Some Check) ran = elim (check_cause (told (word words 1)) (told (word words 2)) reading writing (told (word words 3)) fault ran.caused) [
    | inl cause ↦ script_over (told (word words 1)) (told (word words 2)) reading writing fault cause (began_check fault ran)
    | inr bad ↦ script_accepted (told (word words 1)) (told (word words 2)) bad.1.0 bad.1.1 bad.1.2 (status_of fault) (λ e. let clash : BadOrder ≡ BadScript = sym bad.0 ∙ e in cc)
  ]
  script_failed fault (Some (OnBuild command)) ran = script_over (told (word words 1)) (told (word words 2)) reading writing fault ran.caused (began_on command fault ran)

  pub complete_failed : (fault : Fault) (form : Option Form) → RanTo form fault → CompleteClause form told words (status_of fault)
  complete_failed fault None ran = tt
  complete_failed fault (Some (Bench units)) ran = unread_complete fault ran.caused
  complete_failed fault (Some Play) ran = complete_over_graph (told (word words 1)) (told (word words 2)) reading writing fault ran.caused
  complete_failed fault (Some Check) ran = λ build script order build_bytes script_bytes bytes is_b is_s is_o good fit is.
      elim (check_cause (told (word words 1)) (told (word words 2)) reading writing (told (word words 3)) fault ran.caused) [
        | inl cause ↦ complete_over (told (word words 1)) (told (word words 2)) reading writing fault cause build script build_bytes script_bytes is_b is_s good fit
        | inr bad ↦ absurd (not_bad_order_for build_bytes script_bytes bytes build script order good fit is
            (record { build = bad.1.0; script = bad.1.1; is_build = bad.1.2.good build_bytes is_b; is_script = bad.1.2.script_is script_bytes is_s; bad = bad.1.3 bytes is_o }))
      ]
  complete_failed fault (Some (OnBuild command)) ran = complete_over (told (word words 1)) (told (word words 2)) reading writing fault ran.caused

pub never_done : (fault : Fault) → status_of fault ≡ Done → ⊥
never_done (BuildFault refusal) e = cause_other Done (λ s. cc) (λ s. cc) (λ s. cc) (plain_refusal refusal) e
never_done (ScriptFault refusal) e = script_other Done (λ s. cc) (λ s. cc) refusal e
never_done (Graph refusal) e = graph_other Done (λ s. cc) (λ s. cc) refusal e
never_done _ e = cc

-- a write's fault alone answers WriteFault
write_alone : (fault : Fault) (P : Fault → Type 0) → P Write → status_of fault ≡ WriteFault → P fault
write_alone Write P p e = p
write_alone (BuildFault refusal) P p e = absurd (cause_other WriteFault (λ s. cc) (λ s. cc) (λ s. cc) (plain_refusal refusal) e)
write_alone (ScriptFault refusal) P p e = absurd (script_other WriteFault (λ s. cc) (λ s. cc) refusal e)
write_alone (Graph refusal) P p e = absurd (graph_other WriteFault (λ s. cc) (λ s. cc) refusal e)
write_alone _ P p e = absurd (cc)

-- where all else failed, the sink is untouched
untouched_then : (fault : Fault) (P : Type 0) → (status_of fault ≡ WriteFault → ⊥) → ButForWrites (Err fault) P → P
untouched_then Write P h n = absurd (h refl)
untouched_then _ P h n = n

-- ---- answers that no fault over a build and a script gives

module _ (told : Told) (words : List (List ℕ)) (reading writing : Type 0) where
  graph_alone : (b s : Option (List ℕ)) (fault : Fault) → BuildFaults b s reading writing fault → status_of fault ≡ BadGraph → ⊥
  graph_alone b s (BuildFault refusal) cause = cause_other BadGraph (λ s. cc) (λ s. cc) (λ s. cc) (plain_refusal refusal)
  graph_alone b s (ScriptFault refusal) cause = script_other BadGraph (λ s. cc) (λ s. cc) refusal
  graph_alone b s (Graph refusal) cause = absurd cause
  graph_alone b s GraphTooLong cause = absurd cause
  graph_alone b s _ cause = λ e. cc

  order_alone : (b s : Option (List ℕ)) (fault : Fault) → BuildFaults b s reading writing fault → status_of fault ≡ BadOrder → ⊥
  order_alone b s (BuildFault refusal) cause = cause_other BadOrder (λ s. cc) (λ s. cc) (λ s. cc) (plain_refusal refusal)
  order_alone b s (ScriptFault refusal) cause = script_other BadOrder (λ s. cc) (λ s. cc) refusal
  order_alone b s (Order line tick kind) cause = absurd cause
  order_alone b s OrderTooLong cause = absurd cause
  order_alone b s (Graph refusal) cause = absurd cause
  order_alone b s _ cause = λ e. cc

-- the line was written, or a prefix of it
pub line_written : {T E : Type 0} (r : Result T E) (old new : ℕ) (before now : Option (List ℕ)) (line : List ℕ) → OnOk r (Wrote before now line) → OnErr r (WrotePrefix before now line) → HasCause old new r →
    Wrote before now line ⊎ (Rose old new × WrotePrefix before now line)
line_written (Ok x) old new before now line all front cause = inl all
line_written (Err e) old new before now line all front cause = inr (cause.failed, front)

-- a refusal of the build or the script leaves no order that is bad for them
module _ (b s : Option (List ℕ)) (reading writing : Type 0) (build_bytes script_bytes bytes : List ℕ) (is_b : b ≡ Some build_bytes) (is_s : s ≡ Some script_bytes) where
  of_bad_build : (told : Option Refusal) → BuildCause b told → Exactly (IsBadOrderFor build_bytes script_bytes bytes) BadOrder (status_of_cause told)
  of_bad_build None cause = by_memory (IsBadOrderFor build_bytes script_bytes bytes) BadOrder (λ e. cc)
  of_bad_build (Some r) cause = never (IsBadOrderFor build_bytes script_bytes bytes) BadOrder (status_of_cause (Some r)) (cause_other BadOrder (λ s. cc) (λ s. cc) (λ s. cc) (Some r))
      (λ bad. not_both build_bytes bad.build r bad.is_build.is (cause build_bytes is_b).1)

  of_bad_script : (refusal : ScriptRefusal) → ScriptCause (IsBuildOf b) tests_of s refusal → Exactly (IsBadOrderFor build_bytes script_bytes bytes) BadOrder (status_of_script refusal)
  of_bad_script (Line line kind) cause = never (IsBadOrderFor build_bytes script_bytes bytes) BadOrder BadScript (λ e. cc)
      (λ bad. not_bad_script_for build_bytes script_bytes bad.build bad.script bad.is_build bad.is_script (line_of b s line kind cause build_bytes script_bytes is_b is_s))
  of_bad_script NoMemoryOfScript cause = by_memory (IsBadOrderFor build_bytes script_bytes bytes) BadOrder (λ e. cc)

module _ (told : Told) (words : List (List ℕ)) (reading writing untouched : Type 0) (before now : Option (List ℕ)) where
  pub front_failed : (fault : Fault) (form : Option Form) → Ran form told words reading writing untouched before now (Err fault) → FrontClause form told words before now (status_of fault)
  front_failed fault form ran = λ e. write_alone fault (λ f. OnWriteFault (Err f) (BeganForm form told words before now) → BeganForm form told words before now) (λ part. part) e ran.front

  pub nothing_failed : (fault : Fault) (form : Option Form) → Ran form told words reading writing untouched before now (Err fault) → (status_of fault ≡ WriteFault → ⊥) → untouched
  nothing_failed fault form ran h = untouched_then fault untouched h ran.nothing

  -- an order that was begun to be told of is none that is bad
  order_over : (fault : Fault) → BuildFaults (told (word words 1)) (told (word words 2)) reading writing fault → Ran (Some Check) told words reading writing untouched before now (Err fault) →
      (build_bytes script_bytes bytes : List ℕ) → told (word words 1) ≡ Some build_bytes → told (word words 2) ≡ Some script_bytes → told (word words 3) ≡ Some bytes → Exactly (IsBadOrderFor build_bytes script_bytes bytes) BadOrder (status_of fault)
  order_over Read cause ran build_bytes script_bytes bytes is_b is_s is_o = by_read (IsBadOrderFor build_bytes script_bytes bytes) BadOrder (λ e. cc)
  order_over Memory cause ran build_bytes script_bytes bytes is_b is_s is_o = by_memory (IsBadOrderFor build_bytes script_bytes bytes) BadOrder (λ e. cc)
  order_over Write cause ran build_bytes script_bytes bytes is_b is_s is_o = never (IsBadOrderFor build_bytes script_bytes bytes) BadOrder WriteFault (λ e. cc)
      (not_bad_order_for build_bytes script_bytes bytes ran.front.target ran.front.script ran.front.wrote.order (ran.front.accepted.good build_bytes is_b) (ran.front.accepted.script_is script_bytes is_s) (ran.front.wrote.is_order bytes is_o))
  order_over (BuildFault refusal) cause ran build_bytes script_bytes bytes is_b is_s is_o = of_bad_build (told (word words 1)) (told (word words 2)) reading writing build_bytes script_bytes bytes is_b is_s (plain_refusal refusal) cause
  order_over BuildTooLong cause ran build_bytes script_bytes bytes is_b is_s is_o = never (IsBadOrderFor build_bytes script_bytes bytes) BadOrder BadBuild (λ e. cc)
      (λ bad. let within = bad.is_build.within in let long = cause build_bytes is_b in omega arith)
  order_over (ScriptFault refusal) cause ran build_bytes script_bytes bytes is_b is_s is_o = of_bad_script (told (word words 1)) (told (word words 2)) reading writing build_bytes script_bytes bytes is_b is_s refusal cause
  order_over ScriptTooLong cause ran build_bytes script_bytes bytes is_b is_s is_o = never (IsBadOrderFor build_bytes script_bytes bytes) BadOrder BadScript (λ e. cc)
      (λ bad. let within = bad.is_script.within in let long = cause.holds script_bytes is_s in omega arith)
  order_over _ cause ran build_bytes script_bytes bytes is_b is_s is_o = absurd cause

  pub order_failed : (fault : Fault) (form : Option Form) → Ran form told words reading writing untouched before now (Err fault) → OrderClause form told words (status_of fault)
  order_failed fault None ran = usage_alone told words reading writing untouched before now fault BadOrder (λ e. cc) ran.caused
  order_failed fault (Some (Bench units)) ran = unread_alone told words reading writing untouched before now fault BadOrder (λ e. cc) (λ e. cc) ran.caused
  order_failed fault (Some Play) ran = play_alone (told (word words 1)) (told (word words 2)) reading writing BadOrder (λ e. cc) (λ e. cc) (λ e. cc) (λ e. cc) (λ e. cc) fault ran.caused
  order_failed fault (Some Check) ran = elim (check_cause (told (word words 1)) (told (word words 2)) reading writing (told (word words 3)) fault ran.caused) [
    | inl cause ↦ (λ build_bytes is_b script_bytes is_s bytes is_o. order_over fault cause ran build_bytes script_bytes bytes is_b is_s is_o)
    | inr bad ↦ (λ build_bytes is_b script_bytes is_s bytes is_o. record {
      only = λ e. record { build = bad.1.0; script = bad.1.1; is_build = bad.1.2.good build_bytes is_b; is_script = bad.1.2.script_is script_bytes is_s; bad = bad.1.3 bytes is_o };
      must = λ p. inl bad.0;
    })
  ]
  order_failed fault (Some (OnBuild command)) ran = order_alone told words reading writing (told (word words 1)) (told (word words 2)) fault ran.caused

  pub graph_failed : (fault : Fault) (form : Option Form) → Ran form told words reading writing untouched before now (Err fault) → GraphClause form told words (status_of fault)
  graph_failed fault None ran = usage_alone told words reading writing untouched before now fault BadGraph (λ e. cc) ran.caused
  graph_failed fault (Some (Bench units)) ran = unread_alone told words reading writing untouched before now fault BadGraph (λ e. cc) (λ e. cc) ran.caused
  graph_failed fault (Some Play) ran = graph_over (told (word words 1)) (told (word words 2)) reading writing fault ran.caused (began_play told words reading writing untouched before now fault ran)
  graph_failed fault (Some Check) ran = elim (check_cause (told (word words 1)) (told (word words 2)) reading writing (told (word words 3)) fault ran.caused) [
    | inl before ↦ graph_alone told words reading writing (told (word words 1)) (told (word words 2)) fault before
    | inr bad ↦ (λ e. let clash : BadOrder ≡ BadGraph = sym bad.0 ∙ e in cc)
  ]
  graph_failed fault (Some (OnBuild command)) ran = graph_alone told words reading writing (told (word words 1)) (told (word words 2)) fault ran.caused
