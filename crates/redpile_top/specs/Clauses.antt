-- The clauses of the top call: what each answer says of the words, the files and the sinks.
use Rattle.std.specs.Prelude.{◌≡◌, ◌⊎◌, ℕ, if◌then◌else◌, List, Option, Some, None, Ok, Err}
use Rattle.rp_io.specs.Causes.{Wrote, WrotePrefix}
use Rattle.circuit.specs.declared.Pos.{Pos}
use Rattle.build.specs.Plan.{Plan}
use Rattle.graph.specs.Graph.{Nodes}
use Rattle.schematic.specs.File.{Refusal, plain_refusal}
use Rattle.script.specs.declared.ScriptRefusal.{ScriptRefusal}
use Rattle.script.specs.declared.ScriptRefusal.TheVariants.{Line, NoMemory as NoMemoryOfScript}
use Rattle.script.specs.Acts.{Meaning}
use Rattle.report.specs.declared.Fault.{Fault}
use Rattle.report.specs.declared.Fault.TheVariants.{Usage as UsageFault, Read, Write, Build as BuildFault, BuildTooLong, Script as ScriptFault, ScriptTooLong, Memory, Order, OrderTooLong, Graph, GraphTooLong}
use Rattle.report.specs.declared.GraphRefusal.{GraphRefusal}
use Rattle.report.specs.declared.GraphRefusal.TheVariants.{Json, Whole, Node as NodeRefusal, Link as LinkRefusal, NoMemory as NoMemoryOfGraph}
use Rattle.report.specs.FaultLine.{fault_line}
use Rattle.redpile_top.specs.declared.form.Form.{Form}
use Rattle.redpile_top.specs.declared.form.Form.TheVariants.{OnBuild, Check, Play, Bench}
use Rattle.redpile_top.specs.declared.status.Status.{Status}
use Rattle.redpile_top.specs.declared.status.Status.TheVariants.{Done, Usage, ReadFault, WriteFault, BadBuild, BadBlock, BadScript, BadOrder, NoMemory, BadGraph}
use Rattle.redpile_top.specs.Ends.{Ending, DidForm, BeganForm}
use Rattle.redpile_top.specs.Files.{Told, OnTold, IsBuild, is_block, IsBadBuild, IsBadBlock, IsGraph, IsBadGraph, tests_of, graph_tests, IsScript, IsBadScript, IsOrderFile, IsBadOrder}
use Rattle.redpile_top.specs.Forms.{IsFileWord, word}

-- ---- statuses and lines

-- a fault whose line needs no room
abbrev pub IsConstantFault : Fault → Type 0
IsConstantFault UsageFault = Unit {0}
IsConstantFault Memory = Unit {0}
IsConstantFault _ = ⊥

abbrev pub IsConstant : Ending → Type 0
IsConstant (Ok done) = Unit {0}
IsConstant (Err fault) = IsConstantFault fault

-- of a first cause; want of memory has none
abbrev pub status_of_cause : Option Refusal → Status
status_of_cause None = NoMemory
status_of_cause (Some refusal) = if is_block refusal then BadBlock else BadBuild

abbrev pub status_of_script : ScriptRefusal → Status
status_of_script NoMemoryOfScript = NoMemory
status_of_script (Line line kind) = BadScript

abbrev pub status_of_graph : GraphRefusal → Status
status_of_graph NoMemoryOfGraph = NoMemory
status_of_graph Json = BadGraph
status_of_graph Whole = BadGraph
status_of_graph (NodeRefusal index kind) = BadGraph
status_of_graph (LinkRefusal index kind) = BadGraph

abbrev pub status_of : Fault → Status
status_of UsageFault = Usage
status_of Read = ReadFault
status_of Write = WriteFault
status_of (BuildFault refusal) = status_of_cause (plain_refusal refusal)
status_of BuildTooLong = BadBuild
status_of (ScriptFault refusal) = status_of_script refusal
status_of ScriptTooLong = BadScript
status_of Memory = NoMemory
status_of (Order line tick kind) = BadOrder
status_of OrderTooLong = BadOrder
status_of (Graph refusal) = status_of_graph refusal
status_of GraphTooLong = BadGraph

-- This answer comes exactly here: a read's fault or want of memory may stand in its place.
pub record Exactly (P : Type 0) (answer status : Status) : Type 0 where
  pub only : status ≡ answer → P
  pub must : P → (status ≡ answer) ⊎ ((status ≡ ReadFault) ⊎ (status ≡ NoMemory))

-- BadBuild comes exactly where the build's file is bad.
abbrev pub BuildClause : Option Form → Told → List (List ℕ) → Status → Type 0
BuildClause None told words status = status ≡ BadBuild → ⊥
BuildClause (Some (Bench units)) told words status = status ≡ BadBuild → ⊥
BuildClause (Some Play) told words status = status ≡ BadBuild → ⊥
BuildClause (Some Check) told words status = OnTold (told (word words 1)) (λ bytes. Exactly (IsBadBuild bytes) BadBuild status)
BuildClause (Some (OnBuild command)) told words status = OnTold (told (word words 1)) (λ bytes. Exactly (IsBadBuild bytes) BadBuild status)

-- BadBlock comes exactly where the first cause of the build's file is a block.
abbrev pub BlockClause : Option Form → Told → List (List ℕ) → Status → Type 0
BlockClause None told words status = status ≡ BadBlock → ⊥
BlockClause (Some (Bench units)) told words status = status ≡ BadBlock → ⊥
BlockClause (Some Play) told words status = status ≡ BadBlock → ⊥
BlockClause (Some Check) told words status = OnTold (told (word words 1)) (λ bytes. Exactly (IsBadBlock bytes) BadBlock status)
BlockClause (Some (OnBuild command)) told words status = OnTold (told (word words 1)) (λ bytes. Exactly (IsBadBlock bytes) BadBlock status)

-- the build is accepted, and the script's file is bad for it
abbrev pub IsBadScriptFor : List ℕ → List ℕ → Type 0
IsBadScriptFor build_bytes bytes = (build : Plan) × (IsBuild build build_bytes × IsBadScript (tests_of build) bytes)

-- the graph is accepted, and the script's file is bad for it
abbrev pub IsBadScriptOn : List ℕ → List ℕ → Type 0
IsBadScriptOn graph_bytes bytes = (graph : Nodes) × (IsGraph graph graph_bytes × IsBadScript (graph_tests graph) bytes)

-- BadScript comes exactly where the script's file is bad for an accepted build, or graph.
abbrev pub ScriptClause : Option Form → Told → List (List ℕ) → Status → Type 0
ScriptClause None told words status = status ≡ BadScript → ⊥
ScriptClause (Some (Bench units)) told words status = status ≡ BadScript → ⊥
ScriptClause (Some Play) told words status =
    OnTold (told (word words 1)) (λ graph_bytes. OnTold (told (word words 2)) (λ bytes. Exactly (IsBadScriptOn graph_bytes bytes) BadScript status))
ScriptClause (Some Check) told words status =
    OnTold (told (word words 1)) (λ build_bytes. OnTold (told (word words 2)) (λ bytes. Exactly (IsBadScriptFor build_bytes bytes) BadScript status))
ScriptClause (Some (OnBuild command)) told words status =
    OnTold (told (word words 1)) (λ build_bytes. OnTold (told (word words 2)) (λ bytes. Exactly (IsBadScriptFor build_bytes bytes) BadScript status))

-- build and script are accepted, and the order's file is bad for them
pub record IsBadOrderFor (build_bytes script_bytes bytes : List ℕ) : Type 0 where
  pub build : Plan
  pub script : Meaning
  pub is_build : IsBuild build build_bytes
  pub is_script : IsScript (tests_of build) script script_bytes
  pub bad : IsBadOrder build script bytes

-- BadOrder comes exactly where the order's file is bad for an accepted build and script.
abbrev pub OrderClause : Option Form → Told → List (List ℕ) → Status → Type 0
OrderClause None told words status = status ≡ BadOrder → ⊥
OrderClause (Some (Bench units)) told words status = status ≡ BadOrder → ⊥
OrderClause (Some Play) told words status = status ≡ BadOrder → ⊥
OrderClause (Some Check) told words status =
    OnTold (told (word words 1)) (λ build_bytes. OnTold (told (word words 2)) (λ script_bytes. OnTold (told (word words 3)) (λ bytes. Exactly (IsBadOrderFor build_bytes script_bytes bytes) BadOrder status)))
OrderClause (Some (OnBuild command)) told words status = status ≡ BadOrder → ⊥

-- BadGraph comes exactly where the graph's file is bad.
abbrev pub GraphClause : Option Form → Told → List (List ℕ) → Status → Type 0
GraphClause None told words status = status ≡ BadGraph → ⊥
GraphClause (Some (Bench units)) told words status = status ≡ BadGraph → ⊥
GraphClause (Some Play) told words status = OnTold (told (word words 1)) (λ bytes. Exactly (IsBadGraph bytes) BadGraph status)
GraphClause (Some Check) told words status = status ≡ BadGraph → ⊥
GraphClause (Some (OnBuild command)) told words status = status ≡ BadGraph → ⊥

-- Done says that the whole text of the form was written.
abbrev pub DoneClause : Option Form → Told → List (List ℕ) → (before now : Option (List ℕ)) → Status → Type 0
DoneClause form told words before now status = status ≡ Done → DidForm form told words before now

-- WriteFault says that a prefix of such a text was written.
abbrev pub FrontClause : Option Form → Told → List (List ℕ) → (before now : Option (List ℕ)) → Status → Type 0
FrontClause form told words before now status = status ≡ WriteFault → BeganForm form told words before now

-- An accepted build or graph and a script of it, and an order of them where the form has one, give Done where they are read, but for a fault that was counted and for want of memory.
abbrev pub CompleteClause : Option Form → Told → List (List ℕ) → Status → Type 0
CompleteClause None told words status = Unit {0}
CompleteClause (Some (Bench units)) told words status = (status ≡ Done) ⊎ ((status ≡ WriteFault) ⊎ (status ≡ NoMemory))
CompleteClause (Some Play) told words status = (graph : Nodes) (script : Meaning) (graph_bytes bytes : List ℕ) → told (word words 1) ≡ Some graph_bytes → told (word words 2) ≡ Some bytes → IsGraph graph graph_bytes → IsScript (graph_tests graph) script bytes
    → (status ≡ Done) ⊎ ((status ≡ ReadFault) ⊎ ((status ≡ WriteFault) ⊎ (status ≡ NoMemory)))
CompleteClause (Some Check) told words status = (build : Plan) (script : Meaning) (order : List (List Pos)) (build_bytes script_bytes bytes : List ℕ) →
    told (word words 1) ≡ Some build_bytes → told (word words 2) ≡ Some script_bytes → told (word words 3) ≡ Some bytes →
    IsBuild build build_bytes → IsScript (tests_of build) script script_bytes → IsOrderFile build script order bytes
    → (status ≡ Done) ⊎ ((status ≡ ReadFault) ⊎ ((status ≡ WriteFault) ⊎ (status ≡ NoMemory)))
CompleteClause (Some (OnBuild command)) told words status = (build : Plan) (script : Meaning) (build_bytes bytes : List ℕ) → told (word words 1) ≡ Some build_bytes → told (word words 2) ≡ Some bytes → IsBuild build build_bytes → IsScript (tests_of build) script bytes
    → (status ≡ Done) ⊎ ((status ≡ ReadFault) ⊎ ((status ≡ WriteFault) ⊎ (status ≡ NoMemory)))

-- The line of a fault that has its cause was written, or, only where a count rose, a prefix of it.
pub record LineOf (cause : Fault → Type 0) (rose : Type 0) (before now : Option (List ℕ)) (status : Status) : Type 0 where
  pub fault : Fault
  pub stands_for : status ≡ status_of fault
  pub has_cause : cause fault
  pub wrote : Wrote before now (fault_line fault) ⊎ (rose × WrotePrefix before now (fault_line fault))

-- Each status but Done writes one line to `err`: that of a fault which has its cause.
abbrev pub LineClause : (cause : Fault → Type 0) (rose : Type 0) (before now : Option (List ℕ)) (status : Status) → Type 0
LineClause cause rose before now status = (status ≡ Done → ⊥) → LineOf cause rose before now status

-- No name is asked but the words in the places of files.
abbrev pub AskedClause : Option Form → List (List ℕ) → (before now : List ℕ → Option ℕ) → Type 0
AskedClause form words before now = (name : List ℕ) → (IsFileWord form words name → ⊥) → now name ≡ before name

-- Where no file is read, the source is untouched.
abbrev pub UnreadClause : Option Form → (untouched : Type 0) → Type 0
UnreadClause None untouched = untouched
UnreadClause (Some Check) untouched = Unit {0}
UnreadClause (Some Play) untouched = Unit {0}
UnreadClause (Some (OnBuild command)) untouched = Unit {0}
UnreadClause (Some (Bench units)) untouched = untouched
