-- A run of any circuit, by whatever plays it.
use Rattle.std.specs.Prelude.{◌≡◌, ℕ, ◌+◌, ◌≤◌, List, [], ◌++◌, Option, length, sum_by}
use Rattle.circuit.specs.declared.Act.{Act}
use Rattle.circuit.specs.declared.Step.{Step}
use Rattle.circuit.specs.declared.Step.TheVariants.{Click as ClickAt, Tick as OneTick}
use Rattle.circuit.specs.Circuit.{Circuit, State}
use Rattle.circuit.specs.Keys.{IsListed}
use Rattle.circuit.specs.Shows.{Plays, steps_of, clicks_in, fires_in}
use Rattle.rp_io.specs.Causes.{Wrote, WrotePrefix}
use Rattle.report.specs.RunLines.{run_lines}
use Rattle.player.specs.Cost.{cost_of_run}
use Rattle.player.specs.Played.{StepTo}

-- how many events a step is
abbrev pub events_of : {K : Type 0} (C : Circuit K) (step : Step) (s next : State K) → StepTo C step s next → ℕ
events_of C (ClickAt pos click) s next to = 1
events_of C OneTick s next to = length to.0

-- what they cost
abbrev pub cost_of : {K : Type 0} (C : Circuit K) (cost : K → ℕ) (step : Step) (s next : State K) → StepTo C step s next → ℕ
cost_of C cost (ClickAt pos click) s next to = cost to.key
cost_of C cost OneTick s next to = sum_by cost to.0

-- and what is noted of them before the line of the view: of the firings of a tick, and nothing of a click
abbrev pub noted_of : {K : Type 0} (C : Circuit K) (note : List K → List ℕ) (step : Step) (s next : State K) → StepTo C step s next → List ℕ
noted_of C note (ClickAt pos click) s next to = []
noted_of C note OneTick s next to = note to.0

-- The step leads from the old state to the new one. A right count of events before it gives one after it, no more was spent than its events cost, and this is noted of it.
pub record StepsOn {K : Type 0} (C : Circuit K) (cost : K → ℕ) (note : List K → List ℕ) (step : Step) (old new : State K) (counted counted_after : ℕ → Type 0) (spent spent_after : ℕ) (noted : List ℕ) : Type 0 where
  pub to : StepTo C step old new
  pub events : (count : ℕ) → counted count → counted_after (count + events_of C step old new to)
  pub reads : spent_after ≤ spent + cost_of C cost step old new to
  pub notes : noted ≡ noted_of C note step old new to

-- all keys with components
pub record HasKeys {K : Type 0} (C : Circuit K) : Type 0 where
  pub keys : List K
  pub listed : IsListed C keys

-- what is written of a run: the header, the line of each view with what is noted before it, and the trailer
abbrev pub noted_text : {K : Type 0} (note : List K → List ℕ) (header : List ℕ) (acts : List Act) (order : List (List K)) (views : List (List ℕ)) (trailer : List ℕ) → List ℕ
noted_text note header acts order views trailer = header ++ (run_lines note (steps_of acts) order views ++ trailer)

-- One run by these acts ends in this state after so many events as are right, and no more was spent than they cost.
pub record RunsTo {K : Type 0} (C : Circuit K) (cost : K → ℕ) (acts : List Act) (counted : ℕ → Type 0) (spent spent_after : ℕ) (last : State K) : Type 0 where
  pub events : ℕ
  pub right : counted events
  pub views : List (List ℕ)
  pub order : List (List K)
  pub plays : Plays C acts order views last
  pub count : events ≡ clicks_in acts + fires_in order
  pub spends : spent_after ≤ spent + cost_of_run cost plays.run

-- The text of such a run was written.
pub record WroteText {K : Type 0} (C : Circuit K) (cost : K → ℕ) (note : List K → List ℕ) (header : List ℕ) (acts : List Act) (trailer : ℕ → List ℕ) (counted : ℕ → Type 0) (before now : Option (List ℕ)) (spent spent_after : ℕ) (last : State K) : Type 0 where
  pub runs : RunsTo C cost acts counted spent spent_after last
  pub wrote : Wrote before now (noted_text note header acts runs.order runs.views (trailer runs.events))

-- A prefix of the text of one run was written, and no more was spent than its events cost.
pub record WroteTextPrefix {K : Type 0} (C : Circuit K) (cost : K → ℕ) (note : List K → List ℕ) (header : List ℕ) (acts : List Act) (trailer : ℕ → List ℕ) (before now : Option (List ℕ)) (spent spent_after : ℕ) : Type 0 where
  pub views : List (List ℕ)
  pub order : List (List K)
  pub last : State K
  pub events : ℕ
  pub plays : Plays C acts order views last
  pub count : events ≡ clicks_in acts + fires_in order
  pub spends : spent_after ≤ spent + cost_of_run cost plays.run
  pub wrote : WrotePrefix before now (noted_text note header acts order views (trailer events))
