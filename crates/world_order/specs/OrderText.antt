-- The text of an order: what `run` writes with the firings of each tick.
use Rattle.std.specs.Prelude.{◌≡◌, ℕ, ◌+◌, ◌==◌, not, Bool, true, List, [], ◌∷◌, ◌++◌, codes}
use Rattle.std.specs.List.{flat_map, list_all}
use Rattle.circuit.specs.declared.Act.{Act}
use Rattle.circuit.specs.declared.Pos.{Pos}
use Rattle.circuit.specs.declared.Step.{Step}
use Rattle.circuit.specs.declared.Step.TheVariants.{Click as ClickAt, Tick as OneTick}
use Rattle.circuit.specs.Replay.{Views, Replays}
use Rattle.circuit.specs.Shows.{steps_of, fires_in}
use Rattle.build.specs.declared.OutPlace.{OutPlace}
use Rattle.build.specs.Outputs.{outputs}
use Rattle.build.specs.Plan.{Plan}
use Rattle.power_rules.specs.World.{world_circuit}
use Rattle.report.specs.declared.Cause.TheVariants.{Start, Tick}
use Rattle.report.specs.FireLine.{fire_line}
use Rattle.report.specs.Header.{header}
use Rattle.report.specs.Trailers.{world_trailer}
use Rattle.report.specs.ViewLine.{view_line, cause_of}
use Rattle.script.specs.Acts.{Meaning, ticks_in}
use Rattle.world_order.specs.declared.Checked.{Checked}

-- The lines of the steps from a time on: for a click that of its view, for a tick those of its firings and that of its view.
abbrev pub steps_text : ℕ → List Step → List (List Pos) → List (List ℕ) → List ℕ
steps_text time (ClickAt pos click ∷ steps) order (view ∷ views) = view_line time (cause_of click) view ++ steps_text time steps order views
steps_text time (OneTick ∷ steps) (fires ∷ order) (view ∷ views) = flat_map fire_line fires ++ (view_line (time + 1) Tick view ++ steps_text (time + 1) steps order views)
steps_text time _ _ _ = []

-- the line of the view at the start, and those of the steps
abbrev pub run_lines : List Step → List (List Pos) → List (List ℕ) → List ℕ
run_lines steps order (view ∷ views) = view_line 0 Start view ++ steps_text 0 steps order views
run_lines steps order [] = []

abbrev pub is_break : ℕ → Bool
is_break b = b == 10

-- no line that begins with `nodes `, or one
pub data IsCounts : List ℕ → Type 0 where
  NoLine : IsCounts []
  OneLine : (rest : List ℕ) → list_all (λ b. not (is_break b)) rest ≡ true → IsCounts (codes "nodes " ++ (rest ++ codes "\n"))

-- the text of an order with these outputs, acts, firing lists and views, and with this line of counts or none
unfoldable pub order_text : List OutPlace → List Act → List (List Pos) → List (List ℕ) → List ℕ → List ℕ
order_text outputs acts order views counts = header outputs ++ (run_lines (steps_of acts) order views ++ (counts ++ world_trailer))

-- The text is that of an order which the build's world plays, and the views are those that it shows then.
pub record IsOrder (b : Plan) (script : Meaning) (text : List ℕ) (order : List (List Pos)) : Type 0 where
  pub views : List (List ℕ)
  pub counts : List ℕ
  pub counted : IsCounts counts
  pub is : text ≡ order_text (outputs b script.marks) script.acts order views counts
  pub plays : Replays (world_circuit b script.marks) script.acts order (Views views)

-- the number of ticks of the script, and that of the firings
pub record Counts (script : Meaning) (order : List (List Pos)) (checked : Checked) : Type 0 where
  pub ticks : checked.ticks ≡ ticks_in script.acts
  pub fires : checked.fires ≡ fires_in order

-- what `check` answers where it takes the text
abbrev pub IsChecked : Plan → Meaning → List ℕ → Checked → Type 0
IsChecked b script text checked = (order : List (List Pos)) × IsOrder b script text order × Counts script order checked
