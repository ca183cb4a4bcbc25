-- The first line of a text that no text of an order has there, and what is wrong with it. Before it stands what a run of the build's world writes.
use Rattle.std.specs.Prelude.{◌≡◌, ◌≢◌, ℕ, ◌+◌, ◌<◌, ◌⊎◌, ◌^◌, ◌==◌, not, Bool, true, false, pos, List, [], ◌∷◌, ◌++◌, length, map, count_by, codes}
use Rattle.std.specs.List.{flat_map, starts_with, list_all}
use Rattle.circuit.specs.declared.Click.{Click}
use Rattle.circuit.specs.declared.Pos.{Pos}
use Rattle.circuit.specs.declared.Step.{Step}
use Rattle.circuit.specs.declared.Step.TheVariants.{Click as ClickAt, Tick as OneTick}
use Rattle.circuit.specs.Circuit.{State, Among, Clicks, later, start, view, fire_all}
use Rattle.circuit.specs.Shows.{Run, steps_of}
use Rattle.build.specs.Outputs.{outputs}
use Rattle.build.specs.Plan.{Plan}
use Rattle.power_rules.specs.World.{world_circuit}
use Rattle.report.specs.declared.Cause.TheVariants.{Start, Tick}
use Rattle.report.specs.declared.OrderKind.{OrderKind}
use Rattle.report.specs.declared.OrderKind.TheVariants.{Short, Differs, Form, NotDue, Twice, Priority, Left, Trailing}
use Rattle.report.specs.FireLine.{fire_line}
use Rattle.report.specs.Header.{header, count_line, output_line}
use Rattle.report.specs.Trailers.{world_trailer}
use Rattle.report.specs.ViewLine.{view_line, cause_of}
use Rattle.script.specs.Acts.{Meaning}
use Rattle.world_order.specs.Begun.{Begins, IsLeft}
use Rattle.world_order.specs.OrderText.{run_lines, is_break, IsCounts}

-- ---- lines

-- the text begins with this
abbrev pub StartsWith : List ℕ → List ℕ → Type 0
StartsWith text front = (more : List ℕ) × (text ≡ front ++ more)

abbrev pub begins_with : List ℕ → List ℕ → Bool
begins_with front text = starts_with (λ a b. a == b) text front

abbrev pub is_fire : List ℕ → Bool
is_fire text = begins_with (codes "fire ") text

-- no LF stands in the text
abbrev pub is_unended : List ℕ → Bool
is_unended text = list_all (λ b. not (is_break b)) text

-- three numbers of 32 bits at most
pub record HasNumbers (place : Pos) : Type 0 where
  pub x : ℕ
  pub y : ℕ
  pub z : ℕ
  pub small_x : x < 2 ^ 32
  pub small_y : y < 2 ^ 32
  pub small_z : z < 2 ^ 32
  pub is : place ≡ record { x = pos x; y = pos y; z = pos z }

-- The text begins with a line that tells that a place fires.
pub record Names (rest : List ℕ) (place : Pos) : Type 0 where
  pub numbers : HasNumbers place
  pub more : List ℕ
  pub text : rest ≡ fire_line place ++ more

-- ---- what may stand next

pub data Due : Type 0 where
  -- this line alone
  Line : (line : List ℕ) → Due
  -- a firing of the tick that began in this state, where these have fired, or its view
  Firing : (s : State Pos) (fired : List Pos) → Due
  -- a line of counts, or `end`
  Counted : Due
  -- `end`
  End : Due
  -- nothing
  Past : Due

-- the lines of the header, and that of the view at the start
abbrev pub heading : Plan → List Pos → List (List ℕ)
heading b marks =
    count_line (length (outputs b marks)) ∷ (map output_line (outputs b marks)
    ++ (view_line 0 Start (view (world_circuit b marks) (start (world_circuit b marks))) ∷ []))

-- what is written of a run from its start, its first steps with these firing lists and views
abbrev pub written : Plan → List Pos → List Step → List (List Pos) → List (List ℕ) → List ℕ
written b marks steps order views = header (outputs b marks) ++ run_lines steps order (view (world_circuit b marks) (start (world_circuit b marks)) ∷ views)

pub record InHeading (b : Plan) (marks : List Pos) (front : List ℕ) (tick : ℕ) (line : List ℕ) : Type 0 where
  pub before : List (List ℕ)
  pub after : List (List ℕ)
  pub lines : heading b marks ≡ before ++ (line ∷ after)
  pub is : front ≡ flat_map (λ (l : List ℕ). l) before
  pub none : tick ≡ 0

-- The front is what is written of a run of the first steps, which ends in a state.
pub record HasRun (b : Plan) (script : Meaning) (done left : List Step) (mid : State Pos) (front : List ℕ) (tick : ℕ) : Type 0 where
  pub order : List (List Pos)
  pub views : List (List ℕ)
  pub steps : steps_of script.acts ≡ done ++ left
  pub run : Run (world_circuit b script.marks) (start (world_circuit b script.marks)) done order views mid
  pub is : front ≡ written b script.marks done order views
  pub count : tick ≡ length order

-- a click is the next step, and this is the line of its view
pub record AtClick (b : Plan) (script : Meaning) (front : List ℕ) (tick : ℕ) (line : List ℕ) : Type 0 where
  pub done : List Step
  pub left : List Step
  pub place : Pos
  pub click : Click
  pub mid : State Pos
  pub next : State Pos
  pub ran : HasRun b script done (ClickAt place click ∷ left) mid front tick
  pub clicks : Clicks (world_circuit b script.marks) place click mid next
  pub shows : line ≡ view_line next.time (cause_of click) (view (world_circuit b script.marks) next)

-- a tick is the next step, which began in this state, and these have fired
pub record InTick (b : Plan) (script : Meaning) (front : List ℕ) (tick : ℕ) (s : State Pos) (fired : List Pos) : Type 0 where
  pub done : List Step
  pub left : List Step
  pub mid : State Pos
  pub before : List ℕ
  pub ran : HasRun b script done (OneTick ∷ left) mid before tick
  pub began : s ≡ later mid
  pub begins : Begins (world_circuit b script.marks) s fired
  pub is : front ≡ before ++ flat_map fire_line fired

-- all steps are done, and this stands after them
pub record AfterAll (b : Plan) (script : Meaning) (front : List ℕ) (tick : ℕ) (more : List ℕ) : Type 0 where
  pub mid : State Pos
  pub before : List ℕ
  pub ran : HasRun b script (steps_of script.acts) [] mid before tick
  pub is : front ≡ before ++ more

-- After the front, which is that of a text of an order, this may stand next. So many view lines of ticks stand in it.
abbrev pub Stands : Plan → Meaning → List ℕ → ℕ → Due → Type 0
Stands b script front tick (Line line) = InHeading b script.marks front tick line ⊎ AtClick b script front tick line
Stands b script front tick (Firing s fired) = InTick b script front tick s fired
Stands b script front tick Counted = AfterAll b script front tick []
Stands b script front tick End = (counts : List ℕ) × IsCounts counts × (counts ≢ []) × AfterAll b script front tick counts
Stands b script front tick Past = (counts : List ℕ) × IsCounts counts × AfterAll b script front tick (counts ++ world_trailer)

-- ---- what may be wrong with what stands there

-- the line is another one than may stand here, where it tells no firing of a tick
abbrev pub IsOther : Plan → List Pos → Due → List ℕ → Type 0
IsOther b marks (Line due) rest = StartsWith rest due → ⊥
IsOther b marks (Firing s fired) rest =
    (is_fire rest ≡ false) × (StartsWith rest (view_line s.time Tick (view (world_circuit b marks) (fire_all (world_circuit b marks) s fired))) → ⊥)
IsOther b marks Counted rest = (begins_with (codes "nodes ") rest ≡ false) × (StartsWith rest world_trailer → ⊥)
IsOther b marks End rest = StartsWith rest world_trailer → ⊥
IsOther b marks Past rest = ⊥

abbrev pub IsShort : Due → List ℕ → Type 0
IsShort Past rest = ⊥
IsShort _ rest = is_unended rest ≡ true

-- what is told of the next line of a tick
abbrev pub IsWrong : Plan → List Pos → State Pos → List Pos → List ℕ → OrderKind → Type 0
IsWrong b marks s fired rest Form = (is_fire rest ≡ true) × ((place : Pos) → Names rest place → ⊥)
IsWrong b marks s fired rest Twice = (place : Pos) × Names rest place × Among fired place
IsWrong b marks s fired rest NotDue = (place : Pos) × Names rest place × (IsLeft (world_circuit b marks) s fired place → ⊥)
IsWrong b marks s fired rest Priority =
    (place : Pos) × Names rest place × (k : Pos) × IsLeft (world_circuit b marks) s fired k × ((s.cells k).priority < (s.cells place).priority)
IsWrong b marks s fired rest Left = (is_fire rest ≡ false) × (k : Pos) × IsLeft (world_circuit b marks) s fired k
IsWrong b marks s fired rest _ = ⊥

abbrev pub IsWrongAt : Plan → List Pos → Due → List ℕ → OrderKind → Type 0
IsWrongAt b marks (Firing s fired) rest kind = IsWrong b marks s fired rest kind
IsWrongAt b marks _ rest kind = ⊥

-- One thing is wrong with what stands here.
abbrev pub HasKind : Plan → List Pos → Due → List ℕ → OrderKind → Type 0
HasKind b marks due rest Short = IsShort due rest
HasKind b marks due rest Differs = IsOther b marks due rest
HasKind b marks due rest Trailing = (due ≡ Past) × (rest ≢ [])
HasKind b marks due rest kind = IsWrongAt b marks due rest kind

-- the order of kinds: of more than one the first is told
abbrev pub rank : OrderKind → ℕ
rank Short = 0
rank Form = 1
rank Twice = 2
rank NotDue = 3
rank Priority = 4
rank Left = 5
rank Differs = 6
rank Trailing = 7

-- This line is the first bad one, and this the first thing that is wrong with it. Before it stand so many view lines of ticks.
pub record IsBadLine (b : Plan) (script : Meaning) (text : List ℕ) (line tick : ℕ) (kind : OrderKind) : Type 0 where
  pub front : List ℕ
  pub rest : List ℕ
  pub due : Due
  pub is : text ≡ front ++ rest
  pub stands : Stands b script front tick due
  pub number : line ≡ count_by is_break front + 1
  pub has : HasKind b script.marks due rest kind
  pub first : (other : OrderKind) → rank other < rank kind → HasKind b script.marks due rest other → ⊥
