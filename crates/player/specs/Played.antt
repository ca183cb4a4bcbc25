-- What is written of the runs of a build and of a graph.
use Rattle.std.specs.Prelude.{◌≡◌, ℕ, ◌+◌, ◌≤◌, Bool, true, false, IsTrue, List, [], ◌∷◌, ◌++◌, Option}
use Rattle.std.specs.List.{flat_map}
use Rattle.circuit.specs.declared.Act.{Act}
use Rattle.circuit.specs.declared.Pos.{Pos}
use Rattle.circuit.specs.declared.Step.{Step}
use Rattle.circuit.specs.declared.Step.TheVariants.{Click as ClickAt, Tick as OneTick}
use Rattle.circuit.specs.Circuit.{Circuit, State, Clicks, Ticks}
use Rattle.circuit.specs.Shows.{Shows, steps_of}
use Rattle.circuit.specs.Taken.{Takes}
use Rattle.rp_io.specs.Causes.{Wrote, WrotePrefix}
use Rattle.build.specs.Plan.{Plan}
use Rattle.build.specs.Outputs.{outputs}
use Rattle.graph.specs.Graph.{Nodes, node_count, link_count}
use Rattle.graph.specs.GraphCircuit.{graph_circuit}
use Rattle.graph_machine.specs.Outgoing.{reads_of}
use Rattle.graph_machine.specs.Playing.{TakesClick, TakesTick}
use Rattle.power_rules.specs.World.{shows}
use Rattle.report.specs.declared.Counts.{Counts}
use Rattle.report.specs.Header.{header}
use Rattle.report.specs.RunLines.{run_lines}
use Rattle.report.specs.Trailers.{run_trailer}
use Rattle.script.specs.Acts.{Meaning}
use Rattle.player.specs.Cost.{cost_of_run}
use Rattle.player.specs.Noted.{node_lines}
use Rattle.player.specs.Moments.{run_text, world_text}

-- the step leads from one state to the other
abbrev pub StepTo : {K : Type 0} → Circuit K → Step → State K → State K → Type 0
StepTo C (ClickAt pos click) old new = Clicks C pos click old new
StepTo {K} C OneTick old new = (fires : List K) × Ticks C fires old new

-- its click is taken
abbrev pub TakenStep : {K : Type 0} → Circuit K → Step → Type 0
TakenStep C (ClickAt pos click) = Takes C pos click
TakenStep C OneTick = Unit {0}

-- ---- of a graph, step by step

-- The step leads from one state of the graph to the other, with so many events before and after it, and reads of links. Where keys are to be noted, these fired in it.
abbrev pub NotesStep : Nodes → Bool → Step → State ℕ → State ℕ → (events_before events_after reads_before reads_after : ℕ) → List ℕ → Type 0
NotesStep g noting (ClickAt pos click) old new events_before events_after reads_before reads_after noted = TakesClick g pos click old new reads_before reads_after × (events_after ≡ events_before + 1) × (noted ≡ [])
NotesStep g noting OneTick old new events_before events_after reads_before reads_after noted =
    (keys : List ℕ) × TakesTick g keys old new events_before events_after reads_before reads_after × (IsTrue noting → noted ≡ keys)

-- these counts but for the events
abbrev pub with_events : Counts → ℕ → Counts
with_events counts events = record { nodes = counts.nodes; links = counts.links; events = events }

-- ---- of a build

abbrev pub header_of : Plan → List Pos → List ℕ
header_of build marks = header (outputs build marks)

-- The text of one run of the build by the script was written.
pub record WroteRun (build : Plan) (script : Meaning) (before now : Option (List ℕ)) : Type 0 where
  pub views : List (List ℕ)
  pub shown : shows build script.marks script.acts views
  pub wrote : Wrote before now (world_text (outputs build script.marks) script.acts views)

-- A prefix of such a text was written.
pub record WroteRunPrefix (build : Plan) (script : Meaning) (before now : Option (List ℕ)) : Type 0 where
  pub views : List (List ℕ)
  pub shown : shows build script.marks script.acts views
  pub wrote : WrotePrefix before now (world_text (outputs build script.marks) script.acts views)

-- ---- of a graph

-- The graph shows these views, and these are its counts.
pub record ShowsCounted (g : Nodes) (acts : List Act) (views : List (List ℕ)) (counts : Counts) : Type 0 where
  pub shown : Shows (graph_circuit g) acts views counts.events
  pub nodes : counts.nodes ≡ node_count g
  pub links : counts.links ≡ link_count g

-- the text of one run of the graph; with its order a fire line for each place of each node that fired stands before the line of a tick's view
abbrev pub graph_run_text : (in_order : Bool) (g : Nodes) (header : List ℕ) (acts : List Act) (order views : List (List ℕ)) (counts : Counts) → List ℕ
graph_run_text false g header acts order views counts = run_text header acts views (run_trailer counts)
graph_run_text true g header acts order views counts = header ++ (run_lines (flat_map (node_lines g)) (steps_of acts) order views ++ run_trailer counts)

-- The text of one run of the graph was written, under this header, and its events read no more links than they may.
pub record WroteGraphRun (in_order : Bool) (g : Nodes) (header : List ℕ) (acts : List Act) (counts : Counts) (before now : Option (List ℕ)) (reads_before reads_after : ℕ) : Type 0 where
  pub views : List (List ℕ)
  pub run : ShowsCounted g acts views counts
  pub wrote : Wrote before now (graph_run_text in_order g header acts run.shown.order views counts)
  pub reads : reads_after ≤ reads_before + cost_of_run (reads_of g) run.shown.plays.run

-- A prefix of such a text was written, and no more links were read than the events of its run may read.
pub record WroteGraphRunPrefix (in_order : Bool) (g : Nodes) (header : List ℕ) (acts : List Act) (before now : Option (List ℕ)) (reads_before reads_after : ℕ) : Type 0 where
  pub views : List (List ℕ)
  pub counts : Counts
  pub run : ShowsCounted g acts views counts
  pub wrote : WrotePrefix before now (graph_run_text in_order g header acts run.shown.order views counts)
  pub reads : reads_after ≤ reads_before + cost_of_run (reads_of g) run.shown.plays.run

-- the last of some views
abbrev pub last_view : List (List ℕ) → List ℕ
last_view [] = []
last_view (view ∷ []) = view
last_view (view ∷ other ∷ views) = last_view (other ∷ views)

-- One run of the graph has these counts, shows these values last, and ends in this state.
pub record RanGraph (g : Nodes) (acts : List Act) (counts : Counts) (seen : List ℕ) (last : State ℕ) (reads_before reads_after : ℕ) : Type 0 where
  pub views : List (List ℕ)
  pub run : ShowsCounted g acts views counts
  pub values : seen ≡ last_view views
  pub ends : run.shown.last ≡ last
  pub reads : reads_after ≤ reads_before + cost_of_run (reads_of g) run.shown.plays.run
