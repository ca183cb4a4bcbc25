-- Answers that come exactly where something holds, and what a status that a refusal stands for can't be.
use Rattle.std.proofs.Common.{◌≡◌, ◌≤◌, inl, inr, ℕ, List, length, sym, refl, ◌∙◌, arith, Option, Some, None, Result, Ok, Err}
use Rattle.std.proofs.lemmas.Bool.{cases_Bool}
use Rattle.schematic.specs.File.{Refusal}
use Rattle.script.specs.declared.ScriptRefusal.{ScriptRefusal}
use Rattle.script.specs.declared.ScriptRefusal.TheVariants.{Line, NoMemory as NoMemoryOfScript}
use Rattle.script.specs.Acts.{Meaning}
use Rattle.report.specs.declared.GraphRefusal.{GraphRefusal}
use Rattle.report.specs.declared.GraphRefusal.TheVariants.{Json, Whole, Node as NodeRefusal, Link as LinkRefusal, NoMemory as NoMemoryOfGraph}
use Rattle.redpile_top.specs.declared.status.Status.{Status}
use Rattle.redpile_top.specs.declared.status.Status.TheVariants.{ReadFault, BadBuild, BadBlock, BadScript, NoMemory, BadGraph}
use Rattle.redpile_top.specs.Files.{is_block, Tests, IsScript, IsBadScript}
use Rattle.redpile_top.specs.Clauses.{Exactly, status_of_cause, status_of_script, status_of_graph}

-- it doesn't come, and needn't
pub never : (P : Type 0) (answer status : Status) → (status ≡ answer → ⊥) → (P → ⊥) → Exactly P answer status
never P answer status h k = record { only = λ e. absurd (h e); must = λ p. absurd (k p) }

pub by_read : (P : Type 0) (answer : Status) → (ReadFault ≡ answer → ⊥) → Exactly P answer ReadFault
by_read P answer h = record { only = λ e. absurd (h e); must = λ p. inr (inl refl) }

pub by_memory : (P : Type 0) (answer : Status) → (NoMemory ≡ answer → ⊥) → Exactly P answer NoMemory
by_memory P answer h = record { only = λ e. absurd (h e); must = λ p. inr (inr refl) }

-- it comes
pub here : (P : Type 0) (answer : Status) → P → Exactly P answer answer
here P answer p = record { only = λ e. p; must = λ q. inl refl }

-- a script that is accepted isn't bad
pub not_bad_script : (bytes : List ℕ) (tests : Tests) (script : Meaning) → IsScript tests script bytes → IsBadScript tests bytes → ⊥
not_bad_script bytes tests script good bad = elim bad [
  | inl long ↦ absurd (let within : length bytes ≤ 1048576 = good.within in omega arith)
  | inr line ↦ (let clash : ◌≡◌ {A = Result Meaning ScriptRefusal} (Ok script) (Err (Line line.line line.kind)) = sym good.is ∙ line.is in absurd (cc))
]

-- ---- statuses that no refusal of a file stands for

pub cause_other : (answer : Status) → (NoMemory ≡ answer → ⊥) → (BadBlock ≡ answer → ⊥) → (BadBuild ≡ answer → ⊥) → (told : Option Refusal) → status_of_cause told ≡ answer → ⊥
cause_other answer memory block build None e = memory e
cause_other answer memory block build (Some r) e = elim (cases_Bool (is_block r)) [
  | inl h ↦ (let same : BadBlock ≡ answer = rw h at e in block same)
  | inr h ↦ (let same : BadBuild ≡ answer = rw h at e in build same)
]

pub script_other : (answer : Status) → (NoMemory ≡ answer → ⊥) → (BadScript ≡ answer → ⊥) → (refusal : ScriptRefusal) → status_of_script refusal ≡ answer → ⊥
script_other answer memory script (Line line kind) e = script e
script_other answer memory script NoMemoryOfScript e = memory e

pub graph_other : (answer : Status) → (NoMemory ≡ answer → ⊥) → (BadGraph ≡ answer → ⊥) → (refusal : GraphRefusal) → status_of_graph refusal ≡ answer → ⊥
graph_other answer memory graph Json e = graph e
graph_other answer memory graph Whole e = graph e
graph_other answer memory graph (NodeRefusal index kind) e = graph e
graph_other answer memory graph (LinkRefusal index kind) e = graph e
graph_other answer memory graph NoMemoryOfGraph e = memory e
