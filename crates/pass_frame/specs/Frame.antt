-- What a run of a pass does to a graph.
use Rattle.std.specs.Prelude.{◌≡◌, Bool, true, false, Result, Ok, Err}
use Rattle.rp_text.specs.declared.NoMemory.{NoMemory}
use Rattle.graph.specs.Graph.{Nodes}

-- The new graph is reached by whole steps, perhaps by none.
pub data Reaches (step : Nodes → Nodes → Type 0) : Nodes → Nodes → Type 0 where
  Stays : {g : Nodes} → Reaches step g g
  Goes : {old mid new : Nodes} → step old mid → Reaches step mid new → Reaches step old new

-- no step is enabled
abbrev pub IsDone : (Nodes → Nodes → Type 0) → Nodes → Type 0
IsDone step g = (new : Nodes) → step g new → ⊥

-- True says that a step was taken, false that none was enabled. Whatever is answered, whole steps were taken.
abbrev pub Ran : (Nodes → Nodes → Type 0) → Nodes → Result Bool NoMemory → Nodes → Type 0
Ran step old (Ok false) new = IsDone step old × (new ≡ old)
Ran step old (Ok true) new = (mid : Nodes) × step old mid × Reaches step mid new
Ran step old (Err no_memory) new = Reaches step old new
