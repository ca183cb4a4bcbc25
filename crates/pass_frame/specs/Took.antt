-- What a part of a run did.
use Rattle.std.specs.Prelude.{◌≡◌, Bool, true, false}
use Rattle.graph.specs.Graph.{Nodes}
use Rattle.pass_frame.specs.Frame.{Reaches}

-- Whole steps were taken, and `true` says that there was one.
abbrev pub Took : (Nodes → Nodes → Type 0) → Nodes → Bool → Nodes → Type 0
Took step old false new = new ≡ old
Took step old true new = (mid : Nodes) × step old mid × Reaches step mid new
