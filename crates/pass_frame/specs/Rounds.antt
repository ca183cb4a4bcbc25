-- Passes that take turns, over and over.
use Rattle.std.specs.Prelude.{◌≡◌, Bool, true, false}
use Rattle.graph.specs.Graph.{Nodes}
use Rattle.pass_frame.specs.Frame.{Reaches, IsDone}

-- Steps are taken until none is enabled.
pub record Exhausts (step : Nodes → Nodes → Type 0) (old new : Nodes) : Type 0 where
  pub reaches : Reaches step old new
  pub rests : IsDone step new

-- a turn of the one, and then one of the other
abbrev pub InTurn : (first second : Nodes → Nodes → Type 0) → Nodes → Nodes → Type 0
InTurn first second old new = (mid : Nodes) × first old mid × second mid new

-- a turn where a flag is on
abbrev pub TurnWhen : Bool → (Nodes → Nodes → Type 0) → Nodes → Nodes → Type 0
TurnWhen true turn old new = turn old new
TurnWhen false turn old new = new ≡ old

-- Turns are taken, one after another, until one leaves the graph as it was.
pub record Rounds (turn : Nodes → Nodes → Type 0) (old new : Nodes) : Type 0 where
  pub turns : Reaches turn old new
  pub rests : turn new new
