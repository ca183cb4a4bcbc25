-- For each node the nodes that its links go into.
use Rattle.std.specs.Prelude.{ℕ, List, [], Option, Some, None, Vec, slice_get}
use Rattle.std.specs.declared.alloc.Global.{Global}
use Rattle.circuit.specs.Circuit.{Among}
use Rattle.graph.specs.Graph.{Nodes}
use Rattle.graph.specs.Merging.{IsFanOut}

abbrev pub items_of : Option (Vec ℕ Global) → List ℕ
items_of None = []
items_of (Some list) = list.items

-- what is listed for a node, nothing beyond the last list
abbrev pub targets_of : List (Vec ℕ Global) → ℕ → List ℕ
targets_of lists from = items_of (slice_get lists from)

-- each link of the graph goes into one of the nodes that are listed for its source
abbrev pub AreFanOuts : Nodes → List (Vec ℕ Global) → Type 0
AreFanOuts g lists = (from : ℕ) → IsFanOut g from (targets_of lists from)

-- what is listed stays listed
abbrev pub Keeps : List (Vec ℕ Global) → List (Vec ℕ Global) → Type 0
Keeps old new = (from key : ℕ) → Among (targets_of old from) key → Among (targets_of new from) key
