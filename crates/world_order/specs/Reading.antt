-- What the parts of a check find in a text.
use Rattle.std.specs.Prelude.{◌≡◌, ◌≢◌, ◌↔◌, ◌⊎◌, ℕ, ◌+◌, ◌*◌, ◌<◌, ◌≤◌, true, false, List, [], ◌∷◌, ◌++◌, length, map, take, drop, codes, Option, Some, None, ◌&&◌, if◌then◌else◌}
use Rattle.std.specs.List.{flat_map}
use Rattle.circuit.specs.declared.Click.{Click}
use Rattle.circuit.specs.declared.Pos.{Pos}
use Rattle.circuit.specs.declared.Step.{Step}
use Rattle.circuit.specs.declared.Step.TheVariants.{Click as ClickAt, Tick as OneTick}
use Rattle.circuit.specs.Circuit.{Circuit, State, Clicks, Each, Among, IsDue, IsFiringList, later, fire_all, start, view}
use Rattle.circuit.specs.Shows.{fires_in}
use Rattle.circuit.specs.Taken.{Takes}
use Rattle.build.specs.declared.OutPlace.{OutPlace}
use Rattle.build.specs.Outputs.{outputs}
use Rattle.build.specs.Plan.{Plan}
use Rattle.power_rules.specs.World.{world_circuit}
use Rattle.replay_engine.specs.Running.{Running, FiresOne, HasFired, state_in}
use Rattle.replay_engine.specs.declared.events.Unlawful.{Unlawful}
use Rattle.replay_engine.specs.declared.events.Unlawful.TheVariants.{Twice as TwiceFired, NotDue as NoTickDue, Priority as Later}
use Rattle.report.specs.declared.Cause.TheVariants.{Tick}
use Rattle.report.specs.declared.OrderKind.{OrderKind}
use Rattle.report.specs.declared.OrderKind.TheVariants.{Short, Form, NotDue, Twice, Priority, Trailing}
use Rattle.report.specs.FireLine.{fire_line}
use Rattle.report.specs.Header.{count_line, output_line, header}
use Rattle.report.specs.RoomyText.{RoomyText}
use Rattle.report.specs.Trailers.{world_trailer}
use Rattle.report.specs.ViewLine.{view_line, cause_of}
use Rattle.script.specs.Acts.{Meaning, ticks_in}
use Rattle.script.specs.LineSaid.{is_coordinate}
use Rattle.world_order.specs.declared.front.Bad.{Bad}
use Rattle.world_order.specs.declared.front.Front.{Front}
use Rattle.world_order.specs.Begun.{Begins}
use Rattle.world_order.specs.declared.lines.FireLine.{FireLine}
use Rattle.world_order.specs.LineForms.{IsNotLine, place_named}
use Rattle.world_order.specs.OrderText.{IsCounts, IsOrder}
use Rattle.world_order.specs.BadLine.{Names, Due, Firing, HasRun, Stands, HasKind, begins_with, is_unended, rank}

-- ---- what is wrong at one place

-- One thing is wrong with what stands here, and nothing that comes before it in the order of kinds.
pub record IsKind (b : Plan) (marks : List Pos) (due : Due) (rest : List ℕ) (kind : OrderKind) : Type 0 where
  pub has : HasKind b marks due rest kind
  pub first : (other : OrderKind) → rank other < rank kind → HasKind b marks due rest other → ⊥

-- A bad line begins here.
pub record IsBadFrom (b : Plan) (script : Meaning) (text : List ℕ) (bad : Bad) : Type 0 where
  pub due : Due
  pub stands : Stands b script (take bad.at text) bad.tick due
  pub is : IsKind b script.marks due (drop bad.at text) bad.kind
  pub within : bad.at ≤ length text

-- ---- what was read

-- so much was read of the text, and no more ticks or firings were counted than bytes
pub record IsFront (text : List ℕ) (front : Front) : Type 0 where
  pub within : front.at ≤ length text
  pub ticks : front.tick ≤ front.at
  pub fires : front.fires ≤ front.at

-- More was read of the text, with so many ticks and firings.
pub record ReadsOn (text : List ℕ) (old new : Front) (more : List ℕ) (ticks fires : ℕ) : Type 0 where
  pub front : take new.at text ≡ take old.at text ++ more
  pub is : IsFront text new
  pub tick : new.tick ≡ old.tick + ticks
  pub fire : new.fires ≡ old.fires + fires

-- the bad line begins where the front ends
pub record IsHere (text : List ℕ) (front : Front) (bad : Bad) : Type 0 where
  pub at : bad.at ≡ front.at
  pub tick : bad.tick ≡ front.tick
  pub within : bad.at ≤ length text

-- Another line stands here.
pub record IsNoLine (text : List ℕ) (front : Front) (line : List ℕ) (bad : Bad) : Type 0 where
  pub here : IsHere text front bad
  pub is : IsNotLine (drop bad.at text) line bad.kind

-- ---- lines of a header

-- a line, which ends with its one LF
pub record IsLine (line : List ℕ) : Type 0 where
  pub body : List ℕ
  pub unbroken : Each (λ b. (b ≡ 10) → ⊥) body
  pub is : line ≡ body ++ (10 ∷ [])

abbrev pub joined : List (List ℕ) → List ℕ
joined lines = flat_map (λ (l : List ℕ). l) lines

-- the text is that of such lines
pub record IsLined (text : List ℕ) : Type 0 where
  pub lines : List (List ℕ)
  pub each : Each IsLine lines
  pub is : text ≡ joined lines

-- One of the lines isn't there; those before it are.
pub record IsBadAmong (lines : List (List ℕ)) (text : List ℕ) (bad : Bad) : Type 0 where
  pub before : List (List ℕ)
  pub line : List ℕ
  pub after : List (List ℕ)
  pub lines_are : lines ≡ before ++ (line ∷ after)
  pub front : take bad.at text ≡ joined before
  pub within : bad.at ≤ length text
  pub none : bad.tick ≡ 0
  pub is : IsNotLine (drop bad.at text) line bad.kind

abbrev pub header_lines : List OutPlace → List (List ℕ)
header_lines places = count_line (length places) ∷ map output_line places

-- ---- a tick

-- the text goes on with a line of a firing that may not stand here, where so much has fired
abbrev pub IsNotFiring : Circuit Pos → State Pos → (Pos → Type 0) → List ℕ → OrderKind → Type 0
IsNotFiring C now Fired rest Short = is_unended rest ≡ true
IsNotFiring C now Fired rest Form = (is_unended rest ≡ false) × ((place : Pos) → Names rest place → ⊥)
IsNotFiring C now Fired rest Twice = (is_unended rest ≡ false) × ((place : Pos) × Names rest place × Fired place)
IsNotFiring C now Fired rest NotDue = (is_unended rest ≡ false) × ((place : Pos) × Names rest place × (Fired place → ⊥) × (IsDue C now place → ⊥))
IsNotFiring C now Fired rest Priority =
    (is_unended rest ≡ false) × ((place : Pos) × Names rest place × (Fired place → ⊥) × IsDue C now place
    × ((other : Pos) × IsDue C now other × ((now.cells other).priority < (now.cells place).priority)))
IsNotFiring C now Fired rest _ = ⊥

-- the place of a line, if its numbers are those of places
abbrev pub place_of : FireLine → Option Pos
place_of fire = if is_coordinate fire.x && is_coordinate fire.y && is_coordinate fire.z then Some (place_named fire) else None

-- the kind of a line whose place may not fire
abbrev pub kind_of : Unlawful → OrderKind
kind_of TwiceFired = Twice
kind_of NoTickDue = NotDue
kind_of Later = Priority

-- what the engine says of the place of a line
abbrev pub IsNotNow : Circuit Pos → State Pos → (Pos → Type 0) → Pos → OrderKind → Type 0
IsNotNow C now Fired place Twice = Fired place
IsNotNow C now Fired place NotDue = (Fired place → ⊥) × (IsDue C now place → ⊥)
IsNotNow C now Fired place Priority = (Fired place → ⊥) × IsDue C now place × ((other : Pos) × IsDue C now other × ((now.cells other).priority < (now.cells place).priority))
IsNotNow C now Fired place _ = ⊥

-- A line of a firing that may not stand here.
pub record IsNoFiring (C : Circuit Pos) (now : State Pos) (Fired : Pos → Type 0) (text : List ℕ) (front : Front) (bad : Bad) : Type 0 where
  pub here : IsHere text front bad
  pub is : IsNotFiring C now Fired (drop bad.at text) bad.kind

-- this place fires
pub record Fires (C : Circuit Pos) (old new : Running) (place : Pos) : Type 0 where
  pub fires : FiresOne C (state_in old) (state_in new) place
  pub told : (key : Pos) → HasFired new key ↔ (HasFired old key ⊎ (key ≡ place))

-- The line of a firing was read, and its place has fired.
pub record ReadsFiring (C : Circuit Pos) (old new : Running) (text : List ℕ) (from to : Front) : Type 0 where
  pub place : Pos
  pub fires : Fires C old new place
  pub reads : ReadsOn text from to (fire_line place) 0 1

-- In the tick that begins in a state these have fired, and their lines were read.
pub record HasBegun (C : Circuit Pos) (s : State Pos) (now : Running) (text : List ℕ) (from to : Front) : Type 0 where
  pub fired : List Pos
  pub begins : Begins C s fired
  pub after : state_in now ≡ fire_all C s fired
  pub told : (key : Pos) → HasFired now key ↔ Among fired key
  pub reads : ReadsOn text from to (flat_map fire_line fired) 0 (length fired)

-- A bad line stands in the tick that begins in a state.
pub record IsBadTick (b : Plan) (marks : List Pos) (s : State Pos) (text : List ℕ) (from : Front) (bad : Bad) : Type 0 where
  pub fired : List Pos
  pub begins : Begins (world_circuit b marks) s fired
  pub front : take bad.at text ≡ take from.at text ++ flat_map fire_line fired
  pub within : bad.at ≤ length text
  pub tick : bad.tick ≡ from.tick
  pub is : IsKind b marks (Firing s fired) (drop bad.at text) bad.kind

-- A whole tick was read, and its places have fired.
pub record ReadsTick (C : Circuit Pos) (old new : State Pos) (text : List ℕ) (from to : Front) : Type 0 where
  pub fired : List Pos
  pub list : IsFiringList C (later old) fired
  pub after : new ≡ fire_all C (later old) fired
  pub reads : ReadsOn text from to (flat_map fire_line fired ++ view_line (old.time + 1) Tick (view C new)) 1 (length fired)

-- ---- a step

-- A click was done, and the line of its view was read.
pub record ReadsClick (C : Circuit Pos) (place : Pos) (click : Click) (old new : State Pos) (text : List ℕ) (from to : Front) : Type 0 where
  pub clicks : Clicks C place click old new
  pub reads : ReadsOn text from to (view_line new.time (cause_of click) (view C new)) 0 0

-- A click was done, and the line of its view doesn't stand here.
pub record IsBadClick (C : Circuit Pos) (place : Pos) (click : Click) (old : State Pos) (text : List ℕ) (from : Front) (bad : Bad) : Type 0 where
  pub next : State Pos
  pub clicks : Clicks C place click old next
  pub is : IsNoLine text from (view_line next.time (cause_of click) (view C next)) bad

abbrev pub ReadsStep : Circuit Pos → Step → State Pos → State Pos → List ℕ → Front → Front → Type 0
ReadsStep C (ClickAt place click) old new text from to = ReadsClick C place click old new text from to
ReadsStep C OneTick old new text from to = ReadsTick C old new text from to

abbrev pub IsBadStep : Plan → List Pos → Step → State Pos → List ℕ → Front → Bad → Type 0
IsBadStep b marks (ClickAt place click) old text from bad = IsBadClick (world_circuit b marks) place click old text from bad
IsBadStep b marks OneTick old text from bad = IsBadTick b marks (later old) text from bad

-- the step's click is taken
abbrev pub TakenStep : Circuit Pos → Step → Type 0
TakenStep C (ClickAt place click) = Takes C place click
TakenStep C OneTick = Unit {0}

-- ---- the end

-- A line of counts was read, or none stands there.
pub record ReadsCounts (text : List ℕ) (from to : Front) : Type 0 where
  pub counts : List ℕ
  pub counted : IsCounts counts
  pub none : counts ≡ [] → begins_with (codes "nodes ") (drop from.at text) ≡ false
  pub reads : ReadsOn text from to counts 0 0

-- What stands behind the last view was read.
pub record ReadsEnd (text : List ℕ) (from : Front) : Type 0 where
  pub counts : List ℕ
  pub counted : IsCounts counts
  pub is : text ≡ take from.at text ++ (counts ++ world_trailer)

-- What stands behind the last view is wrong.
pub data IsBadEnd (text : List ℕ) (from : Front) (bad : Bad) : Type 0 where
  -- a line of counts has no LF
  Broken : IsHere text from bad → bad.kind ≡ Short → is_unended (drop bad.at text) ≡ true → IsBadEnd text from bad
  -- neither a line of counts nor `end` stands there
  Other : begins_with (codes "nodes ") (drop from.at text) ≡ false → IsNoLine text from world_trailer bad → IsBadEnd text from bad
  -- no `end` stands behind a line of counts
  Behind : (counts : List ℕ) → IsCounts counts → counts ≢ [] → take bad.at text ≡ take from.at text ++ counts → bad.at ≤ length text → bad.tick ≡ from.tick →
      IsNotLine (drop bad.at text) world_trailer bad.kind → IsBadEnd text from bad
  -- something stands behind `end`
  More : (counts : List ℕ) → IsCounts counts → take bad.at text ≡ take from.at text ++ (counts ++ world_trailer) → bad.at ≤ length text → bad.tick ≡ from.tick →
      bad.kind ≡ Trailing → drop bad.at text ≢ [] → IsBadEnd text from bad

-- ---- all of it

-- What was read up to the front is what is written of a run, and the steps that are left follow.
pub record IsReading (b : Plan) (script : Meaning) (text : List ℕ) (now : State Pos) (left : List Step) (front : Front) : Type 0 where
  pub done : List Step
  pub ran : HasRun b script done left now (take front.at text) front.tick
  pub fires : front.fires ≡ fires_in ran.order

-- The text is that of an order, with so many ticks and firings.
pub record IsRead (b : Plan) (script : Meaning) (text : List ℕ) (front : Front) : Type 0 where
  pub order : List (List Pos)
  pub is : IsOrder b script text order
  pub ticks : front.tick ≡ ticks_in script.acts
  pub fires : front.fires ≡ fires_in order

-- The build has just started, its header is written, and there is room for what its outputs show.
pub record IsReady (w : Running) (head shown : List ℕ) (line : RoomyText) : Type 0 where
  pub at_start : state_in w ≡ start (world_circuit w.plan w.marks)
  pub header : head ≡ header (outputs w.plan w.marks)
  pub values : length shown ≡ length (world_circuit w.plan w.marks).shown
  pub room : 32 + 3 * length shown ≤ line.room
  pub lined : Each IsLine (header_lines (outputs w.plan w.marks))

-- Some of the lines of a header were read, and the others are left of it.
pub record HasHeader (head text : List ℕ) (front : Front) (lines : List (List ℕ)) : Type 0 where
  pub before : List (List ℕ)
  pub after : List (List ℕ)
  pub lines_are : lines ≡ before ++ after
  pub reached : take front.at text ≡ joined before
  pub rest : drop front.at head ≡ joined after
