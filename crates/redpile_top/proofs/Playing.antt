-- What an ending of `play` says of the status that it gives.
use Rattle.std.proofs.Common.{◌≡◌, ◌⊎◌, ◌≤◌, inl, inr, ℕ, List, length, refl, sym, ap, subst, ◌∙◌, arith, Option, Some, None, Err}
use Rattle.graph.specs.Graph.{Nodes}
use Rattle.graph_file.specs.GraphFile.{IsGraphFile, RefusesBytes, cause_of}
use Rattle.graph_file.proofs.OneFile.{one_file}
use Rattle.script.specs.declared.ScriptRefusal.{ScriptRefusal}
use Rattle.script.specs.declared.ScriptRefusal.TheVariants.{Line, NoMemory as NoMemoryOfScript}
use Rattle.script.specs.Acts.{Meaning}
use Rattle.report.specs.declared.Fault.{Fault}
use Rattle.report.specs.declared.Fault.TheVariants.{Read, Write, Script as ScriptFault, ScriptTooLong, Memory, Graph, GraphTooLong}
use Rattle.report.specs.declared.GraphRefusal.{GraphRefusal}
use Rattle.report.specs.declared.GraphRefusal.TheVariants.{Json, Whole, Node as NodeRefusal, Link as LinkRefusal, NoMemory as NoMemoryOfGraph}
use Rattle.redpile_top.specs.declared.status.Status.{Status}
use Rattle.redpile_top.specs.declared.status.Status.TheVariants.{Done, ReadFault, WriteFault, BadScript, NoMemory, BadGraph}
use Rattle.redpile_top.specs.Files.{OnTold, IsGraph, IsBadGraph, graph_tests, IsScript, IsBadScript}
use Rattle.redpile_top.specs.Ends.{Accepted, PlayFaults, IsGraphOf, GraphCause, ScriptCause, OnWriteFault}
use Rattle.redpile_top.specs.Clauses.{IsBadScriptOn, Exactly, status_of, status_of_script, status_of_graph}
use Rattle.redpile_top.proofs.Answering.{never, by_read, by_memory, here, not_bad_script, script_other, graph_other}

-- ---- what excludes what

no_cause : (cause : Option GraphRefusal) (refusal : GraphRefusal) → cause ≡ None → cause ≡ Some refusal → ⊥
no_cause cause refusal none some = let clash : None ≡ Some refusal = sym none ∙ some in cc

-- what is refused is no graph's
no_graph : (bytes : List ℕ) (refusal : GraphRefusal) → status_of_graph refusal ≡ BadGraph → RefusesBytes bytes refusal → (g : Nodes) → IsGraphFile bytes g → ⊥
no_graph bytes Json h refused g is = refused is.value is.json
no_graph bytes Whole h refused g is =
    let both : Some is.value ≡ Some refused.0 = sym is.json.value ∙ refused.1.value in
    let same : is.value ≡ refused.0 = cc in
    no_cause (cause_of is.value) Whole is.accepted (ap cause_of same ∙ refused.2)
no_graph bytes (NodeRefusal index kind) h refused g is =
    let both : Some is.value ≡ Some refused.0 = sym is.json.value ∙ refused.1.value in
    let same : is.value ≡ refused.0 = cc in
    no_cause (cause_of is.value) (NodeRefusal index kind) is.accepted (ap cause_of same ∙ refused.2)
no_graph bytes (LinkRefusal index kind) h refused g is =
    let both : Some is.value ≡ Some refused.0 = sym is.json.value ∙ refused.1.value in
    let same : is.value ≡ refused.0 = cc in
    no_cause (cause_of is.value) (LinkRefusal index kind) is.accepted (ap cause_of same ∙ refused.2)
no_graph bytes NoMemoryOfGraph h refused g is = absurd (cc)

not_bad_graph : (bytes : List ℕ) (graph : Nodes) → IsGraph graph bytes → IsBadGraph bytes → ⊥
not_bad_graph bytes graph good bad = elim bad [
  | inl long ↦ absurd (let within : length bytes ≤ 268435456 = good.within in omega arith)
  | inr none ↦ none graph good.is
]

-- for an accepted graph and script no graph makes the script bad
not_bad_script_on : (graph_bytes bytes : List ℕ) (graph : Nodes) (script : Meaning) → IsGraph graph graph_bytes → IsScript (graph_tests graph) script bytes → IsBadScriptOn graph_bytes bytes → ⊥
not_bad_script_on graph_bytes bytes graph script is_graph is_script bad =
    let same = one_file graph_bytes bad.0 graph (bad.1).0.is is_graph.is in
    not_bad_script bytes (graph_tests graph) script is_script (subst (λ (g : Nodes). IsBadScript (graph_tests g) bytes) same (bad.1).1)

-- where graph and script are accepted, no status tells that one of them is bad
module _ (g s : Option (List ℕ)) (graph : Nodes) (script : Meaning) (accepted : Accepted (IsGraphOf g) graph_tests s graph script) (status : Status) where
  pub graph_accepted : (status ≡ BadGraph → ⊥) → OnTold g (λ bytes. Exactly (IsBadGraph bytes) BadGraph status)
  graph_accepted h = λ bytes is. never (IsBadGraph bytes) BadGraph status h (not_bad_graph bytes graph (accepted.good bytes is))

  pub script_accepted : (status ≡ BadScript → ⊥) → OnTold g (λ graph_bytes. OnTold s (λ bytes. Exactly (IsBadScriptOn graph_bytes bytes) BadScript status))
  script_accepted h = λ graph_bytes is_g bytes is_s. never (IsBadScriptOn graph_bytes bytes) BadScript status h
      (not_bad_script_on graph_bytes bytes graph script (accepted.good graph_bytes is_g) (accepted.script_is bytes is_s))

-- ---- by the refusal of a file

module _ (g : Option (List ℕ)) where
  graph_by : (refusal : GraphRefusal) → GraphCause g refusal → (bytes : List ℕ) → g ≡ Some bytes → Exactly (IsBadGraph bytes) BadGraph (status_of_graph refusal)
  graph_by Json cause bytes is = here (IsBadGraph bytes) BadGraph (inr (no_graph bytes Json refl (cause bytes is).1))
  graph_by Whole cause bytes is = here (IsBadGraph bytes) BadGraph (inr (no_graph bytes Whole refl (cause bytes is).1))
  graph_by (NodeRefusal index kind) cause bytes is = here (IsBadGraph bytes) BadGraph (inr (no_graph bytes (NodeRefusal index kind) refl (cause bytes is).1))
  graph_by (LinkRefusal index kind) cause bytes is = here (IsBadGraph bytes) BadGraph (inr (no_graph bytes (LinkRefusal index kind) refl (cause bytes is).1))
  graph_by NoMemoryOfGraph cause bytes is = by_memory (IsBadGraph bytes) BadGraph (λ e. cc)

  -- a refused graph has no script
  no_script : (refusal : GraphRefusal) → status_of_graph refusal ≡ BadGraph → GraphCause g refusal → (graph_bytes bytes : List ℕ) → g ≡ Some graph_bytes → IsBadScriptOn graph_bytes bytes → ⊥
  no_script refusal h cause graph_bytes bytes is_g bad = no_graph graph_bytes refusal h (cause graph_bytes is_g).1 bad.0 (bad.1).0.is

  script_by_graph : (refusal : GraphRefusal) → GraphCause g refusal → (graph_bytes bytes : List ℕ) → g ≡ Some graph_bytes → Exactly (IsBadScriptOn graph_bytes bytes) BadScript (status_of_graph refusal)
  script_by_graph Json cause graph_bytes bytes is_g = never (IsBadScriptOn graph_bytes bytes) BadScript BadGraph (λ e. cc) (no_script Json refl cause graph_bytes bytes is_g)
  script_by_graph Whole cause graph_bytes bytes is_g = never (IsBadScriptOn graph_bytes bytes) BadScript BadGraph (λ e. cc) (no_script Whole refl cause graph_bytes bytes is_g)
  script_by_graph (NodeRefusal index kind) cause graph_bytes bytes is_g = never (IsBadScriptOn graph_bytes bytes) BadScript BadGraph (λ e. cc) (no_script (NodeRefusal index kind) refl cause graph_bytes bytes is_g)
  script_by_graph (LinkRefusal index kind) cause graph_bytes bytes is_g = never (IsBadScriptOn graph_bytes bytes) BadScript BadGraph (λ e. cc) (no_script (LinkRefusal index kind) refl cause graph_bytes bytes is_g)
  script_by_graph NoMemoryOfGraph cause graph_bytes bytes is_g = by_memory (IsBadScriptOn graph_bytes bytes) BadScript (λ e. cc)

  complete_by_graph : (refusal : GraphRefusal) → GraphCause g refusal → (graph : Nodes) (bytes : List ℕ) → g ≡ Some bytes → IsGraph graph bytes →
      (status_of_graph refusal ≡ Done) ⊎ ((status_of_graph refusal ≡ ReadFault) ⊎ ((status_of_graph refusal ≡ WriteFault) ⊎ (status_of_graph refusal ≡ NoMemory)))
  complete_by_graph Json cause graph bytes is good = absurd (no_graph bytes Json refl (cause bytes is).1 graph good.is)
  complete_by_graph Whole cause graph bytes is good = absurd (no_graph bytes Whole refl (cause bytes is).1 graph good.is)
  complete_by_graph (NodeRefusal index kind) cause graph bytes is good = absurd (no_graph bytes (NodeRefusal index kind) refl (cause bytes is).1 graph good.is)
  complete_by_graph (LinkRefusal index kind) cause graph bytes is good = absurd (no_graph bytes (LinkRefusal index kind) refl (cause bytes is).1 graph good.is)
  complete_by_graph NoMemoryOfGraph cause graph bytes is good = inr (inr (inr refl))

module _ (g s : Option (List ℕ)) where
  graph_by_script : (refusal : ScriptRefusal) → ScriptCause (IsGraphOf g) graph_tests s refusal → (bytes : List ℕ) → g ≡ Some bytes → Exactly (IsBadGraph bytes) BadGraph (status_of_script refusal)
  graph_by_script (Line line kind) cause bytes is = never (IsBadGraph bytes) BadGraph BadScript (λ e. cc) (not_bad_graph bytes cause.target (cause.good bytes is))
  graph_by_script NoMemoryOfScript cause bytes is = by_memory (IsBadGraph bytes) BadGraph (λ e. cc)

  script_by : (refusal : ScriptRefusal) → ScriptCause (IsGraphOf g) graph_tests s refusal → (graph_bytes bytes : List ℕ) → g ≡ Some graph_bytes → s ≡ Some bytes → Exactly (IsBadScriptOn graph_bytes bytes) BadScript (status_of_script refusal)
  script_by (Line line kind) cause graph_bytes bytes is_g is_s =
      here (IsBadScriptOn graph_bytes bytes) BadScript (cause.target, (cause.good graph_bytes is_g, inr (record { line = line; kind = kind; is = (cause.holds bytes is_s).1 })))
  script_by NoMemoryOfScript cause graph_bytes bytes is_g is_s = by_memory (IsBadScriptOn graph_bytes bytes) BadScript (λ e. cc)

  complete_by : (refusal : ScriptRefusal) → ScriptCause (IsGraphOf g) graph_tests s refusal → (graph : Nodes) (script : Meaning) (graph_bytes bytes : List ℕ) → g ≡ Some graph_bytes → s ≡ Some bytes → IsGraph graph graph_bytes → IsScript (graph_tests graph) script bytes →
      (status_of_script refusal ≡ Done) ⊎ ((status_of_script refusal ≡ ReadFault) ⊎ ((status_of_script refusal ≡ WriteFault) ⊎ (status_of_script refusal ≡ NoMemory)))
  complete_by (Line line kind) cause graph script graph_bytes bytes is_g is_s good fit =
      absurd (not_bad_script_on graph_bytes bytes graph script good fit (cause.target, (cause.good graph_bytes is_g, inr (record { line = line; kind = kind; is = (cause.holds bytes is_s).1 }))))
  complete_by NoMemoryOfScript cause graph script graph_bytes bytes is_g is_s good fit = inr (inr (inr refl))

-- ---- by the fault

module _ (g s : Option (List ℕ)) (reading writing : Type 0) where
  -- what is done was done for an accepted graph and script
  abbrev pub Began : Fault → Type 0
  Began fault = OnWriteFault (Err fault) ((graph : Nodes) × (script : Meaning) × Accepted (IsGraphOf g) graph_tests s graph script)

  pub graph_over : (fault : Fault) → PlayFaults g s reading writing fault → Began fault → OnTold g (λ bytes. Exactly (IsBadGraph bytes) BadGraph (status_of fault))
  graph_over Read cause began = λ bytes is. by_read (IsBadGraph bytes) BadGraph (λ e. cc)
  graph_over Write cause began = graph_accepted g s began.0 began.1 began.2 WriteFault (λ e. cc)
  graph_over (ScriptFault refusal) cause began = graph_by_script g s refusal cause
  graph_over ScriptTooLong cause began = λ bytes is. never (IsBadGraph bytes) BadGraph BadScript (λ e. cc) (not_bad_graph bytes cause.target (cause.good bytes is))
  graph_over Memory cause began = λ bytes is. by_memory (IsBadGraph bytes) BadGraph (λ e. cc)
  graph_over (Graph refusal) cause began = graph_by g refusal cause
  graph_over GraphTooLong cause began = λ bytes is. here (IsBadGraph bytes) BadGraph (inl (cause bytes is))
  graph_over _ cause began = absurd cause

  pub script_over : (fault : Fault) → PlayFaults g s reading writing fault → Began fault → OnTold g (λ graph_bytes. OnTold s (λ bytes. Exactly (IsBadScriptOn graph_bytes bytes) BadScript (status_of fault)))
  script_over Read cause began = λ graph_bytes is_g bytes is_s. by_read (IsBadScriptOn graph_bytes bytes) BadScript (λ e. cc)
  script_over Write cause began = script_accepted g s began.0 began.1 began.2 WriteFault (λ e. cc)
  script_over (ScriptFault refusal) cause began = λ graph_bytes is_g bytes is_s. script_by g s refusal cause graph_bytes bytes is_g is_s
  script_over ScriptTooLong cause began = λ graph_bytes is_g bytes is_s. here (IsBadScriptOn graph_bytes bytes) BadScript (cause.target, (cause.good graph_bytes is_g, inl (cause.holds bytes is_s)))
  script_over Memory cause began = λ graph_bytes is_g bytes is_s. by_memory (IsBadScriptOn graph_bytes bytes) BadScript (λ e. cc)
  script_over (Graph refusal) cause began = λ graph_bytes is_g bytes is_s. script_by_graph g refusal cause graph_bytes bytes is_g
  script_over GraphTooLong cause began = λ graph_bytes is_g bytes is_s. never (IsBadScriptOn graph_bytes bytes) BadScript BadGraph (λ e. cc)
      (λ bad. let within = (bad.1).0.within in let long = cause graph_bytes is_g in omega arith)
  script_over _ cause began = absurd cause

  pub complete_over : (fault : Fault) → PlayFaults g s reading writing fault → (graph : Nodes) (script : Meaning) (graph_bytes bytes : List ℕ) → g ≡ Some graph_bytes → s ≡ Some bytes → IsGraph graph graph_bytes → IsScript (graph_tests graph) script bytes →
      (status_of fault ≡ Done) ⊎ ((status_of fault ≡ ReadFault) ⊎ ((status_of fault ≡ WriteFault) ⊎ (status_of fault ≡ NoMemory)))
  complete_over Read cause = λ graph script graph_bytes bytes is_g is_s good fit. inr (inl refl)
  complete_over Write cause = λ graph script graph_bytes bytes is_g is_s good fit. inr (inr (inl refl))
  complete_over (ScriptFault refusal) cause = λ graph script graph_bytes bytes is_g is_s good fit. complete_by g s refusal cause graph script graph_bytes bytes is_g is_s good fit
  complete_over ScriptTooLong cause = λ graph script graph_bytes bytes is_g is_s good fit. absurd (let within = fit.within in let long = cause.holds bytes is_s in omega arith)
  complete_over Memory cause = λ graph script graph_bytes bytes is_g is_s good fit. inr (inr (inr refl))
  complete_over (Graph refusal) cause = λ graph script graph_bytes bytes is_g is_s good fit. complete_by_graph g refusal cause graph graph_bytes is_g good
  complete_over GraphTooLong cause = λ graph script graph_bytes bytes is_g is_s good fit. absurd (let within = good.within in let long = cause graph_bytes is_g in omega arith)
  complete_over _ cause = absurd cause

  -- no other answer comes
  pub play_alone : (answer : Status) → (ReadFault ≡ answer → ⊥) → (WriteFault ≡ answer → ⊥) → (BadScript ≡ answer → ⊥) → (BadGraph ≡ answer → ⊥) → (NoMemory ≡ answer → ⊥) → (fault : Fault) → PlayFaults g s reading writing fault → status_of fault ≡ answer → ⊥
  play_alone answer read write script graph memory Read cause e = read e
  play_alone answer read write script graph memory Write cause e = write e
  play_alone answer read write script graph memory (ScriptFault refusal) cause e = script_other answer memory script refusal e
  play_alone answer read write script graph memory ScriptTooLong cause e = script e
  play_alone answer read write script graph memory Memory cause e = memory e
  play_alone answer read write script graph memory (Graph refusal) cause e = graph_other answer memory graph refusal e
  play_alone answer read write script graph memory GraphTooLong cause e = graph e
  play_alone answer read write script graph memory _ cause e = absurd cause
