-- The lines of a run: one for each view, and before the line of a tick's view what is noted of the tick's firings.
use Rattle.std.specs.Prelude.{ℕ, ◌+◌, List, [], ◌∷◌, ◌++◌}
use Rattle.circuit.specs.declared.Step.{Step}
use Rattle.circuit.specs.declared.Step.TheVariants.{Click as ClickAt, Tick as OneTick}
use Rattle.report.specs.declared.Cause.TheVariants.{Start, Tick}
use Rattle.report.specs.ViewLine.{view_line, cause_of}

-- The lines of the steps from a time on: for a click that of its view, for a tick what is noted of its firings and that of its view.
abbrev pub step_lines : {K : Type 0} → (List K → List ℕ) → ℕ → List Step → List (List K) → List (List ℕ) → List ℕ
step_lines note time (ClickAt pos click ∷ steps) order (view ∷ views) = view_line time (cause_of click) view ++ step_lines note time steps order views
step_lines note time (OneTick ∷ steps) (fires ∷ order) (view ∷ views) = note fires ++ (view_line (time + 1) Tick view ++ step_lines note (time + 1) steps order views)
step_lines note time _ _ _ = []

-- the line of the view at the start, and those of the steps
abbrev pub run_lines : {K : Type 0} → (List K → List ℕ) → List Step → List (List K) → List (List ℕ) → List ℕ
run_lines note steps order (view ∷ views) = view_line 0 Start view ++ step_lines note 0 steps order views
run_lines note steps order [] = []
