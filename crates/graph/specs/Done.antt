-- When no step is left.
use Rattle.std.specs.Prelude.{◌≡◌, ◌⊎◌, Bool, true}
use Rattle.graph.specs.Graph.{Nodes}
use Rattle.graph.specs.Steps.{Clamps, Dedups, Unreaches, Folds, Coalesces, Prunes}

-- one step, by prune only where pruning is asked for
abbrev pub Step : Bool → Nodes → Nodes → Type 0
Step pruning old new = Clamps old new ⊎ Dedups old new ⊎ Unreaches old new ⊎ Folds old new ⊎ Coalesces old new ⊎ ((pruning ≡ true) × Prunes old new)

-- no step is enabled
abbrev pub IsDone : Bool → Nodes → Type 0
IsDone pruning g = (new : Nodes) → Step pruning g new → ⊥
