-- The text of a run: its header, a line for each moment, and the trailer.
use Rattle.std.specs.Prelude.{ℕ, ◌+◌, List, [], ◌∷◌, ◌++◌}
use Rattle.circuit.specs.declared.Act.{Act}
use Rattle.circuit.specs.declared.Step.{Step}
use Rattle.circuit.specs.declared.Step.TheVariants.{Click as ClickStep, Tick as TickStep}
use Rattle.circuit.specs.Shows.{steps_of}
use Rattle.build.specs.declared.OutPlace.{OutPlace}
use Rattle.report.specs.declared.Cause.{Cause}
use Rattle.report.specs.declared.Cause.TheVariants.{Start, Tick}
use Rattle.report.specs.Header.{header}
use Rattle.report.specs.ViewLine.{view_line, cause_of}
use Rattle.report.specs.Trailers.{world_trailer}

pub record Moment : Type 0 where
  pub time : ℕ
  pub cause : Cause

-- the moment after a step from a time on: a tick raises the time
abbrev pub moment_after : ℕ → Step → Moment
moment_after time (ClickStep place click) = record { time = time; cause = cause_of click }
moment_after time TickStep = record { time = time + 1; cause = Tick }

-- the moments after each step
abbrev pub moments : ℕ → List Step → List Moment
moments time [] = []
moments time (step ∷ steps) = moment_after time step ∷ moments (moment_after time step).time steps

-- a line for each moment and its view
abbrev pub view_lines : List Moment → List (List ℕ) → List ℕ
view_lines (moment ∷ moments) (view ∷ views) = view_line moment.time moment.cause view ++ view_lines moments views
view_lines _ _ = []

-- the moment of the first view, at time 0, and those after each step
abbrev pub all_moments : List Act → List Moment
all_moments acts = record { time = 0; cause = Start } ∷ moments 0 (steps_of acts)

-- what is written of a run with these acts and views, between this header and this trailer
abbrev pub run_text : List ℕ → List Act → List (List ℕ) → List ℕ → List ℕ
run_text header acts views trailer = header ++ (view_lines (all_moments acts) views ++ trailer)

-- what `world` writes of these outputs
unfoldable pub world_text : List OutPlace → List Act → List (List ℕ) → List ℕ
world_text places acts views = run_text (header places) acts views world_trailer

-- how many of the steps are ticks
abbrev pub tick_count : List Step → ℕ
tick_count [] = 0
tick_count (ClickStep place click ∷ steps) = tick_count steps
tick_count (TickStep ∷ steps) = 1 + tick_count steps

-- and how many are clicks
abbrev pub click_count : List Step → ℕ
click_count [] = 0
click_count (ClickStep place click ∷ steps) = 1 + click_count steps
click_count (TickStep ∷ steps) = click_count steps
