-- What is known while twins are taken, and what is done where pairs are tried.
use Rattle.std.specs.Prelude.{◌≡◌, ℕ, Bool, true, false, List, Vec, Result, Ok, Err}
use Rattle.std.specs.declared.alloc.Global.{Global}
use Rattle.std.specs.HashMap.{HashMap}
use Rattle.rp_text.specs.declared.NoMemory.{NoMemory}
use Rattle.graph.specs.Edits.{merge}
use Rattle.graph.specs.Graph.{Nodes}
use Rattle.graph.specs.Steps.{AreTwins, Coalesces}
use Rattle.pass_frame.specs.Frame.{Reaches}
use Rattle.pass_frame.specs.Took.{Took}
use Rattle.coalesce.specs.declared.looks.Look.{Look}
use Rattle.coalesce.specs.FanOuts.{AreFanOuts}
use Rattle.coalesce.specs.Looks.{IsGrouped}

-- the links go where they are said to go, and each node that may have a twin is a member of its look
pub record IsKnown {S : Type 0} (g : Nodes) (lists : List (Vec ℕ Global)) (groups : HashMap Look (Vec ℕ Global) S) : Type 0 where
  pub fans : AreFanOuts g lists
  pub grouped : (key : ℕ) → IsGrouped g groups key

-- True says that the later node was a twin and was taken, false that it isn't one.
abbrev pub TriedPair : ℕ → ℕ → Nodes → Result Bool NoMemory → Nodes → Type 0
TriedPair keep gone old (Ok false) new = (AreTwins old keep gone → ⊥) × (new ≡ old)
TriedPair keep gone old (Ok true) new = AreTwins old keep gone × (new ≡ merge old keep gone)
TriedPair keep gone old (Err no_memory) new = Reaches Coalesces old new

-- True says that a step was taken, false that none was. Whatever is answered, whole steps were taken.
abbrev pub TriedTwins : Nodes → Result Bool NoMemory → Nodes → Type 0
TriedTwins old (Ok took) new = Took Coalesces old took new
TriedTwins old (Err no_memory) new = Reaches Coalesces old new
