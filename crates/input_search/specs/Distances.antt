-- Distances along feeders, as a relation.
use Rattle.std.specs.Prelude.{◌≡◌, ℕ, suc, ◌<◌, ◌≤◌, ◌⊎◌, List, Contains, AllPairs}
use Rattle.circuit.specs.declared.Pos.{Pos}
use Rattle.build.specs.Plan.{Plan, cell_of}
use Rattle.wire_shape.specs.Feeders.{feeders}
use Rattle.input_search.specs.Links.{From, direct_places}

-- w reaches v in n steps along feeders
pub data Steps (b : Plan) (w : Pos) : Pos → ℕ → Type 0 where
  Here : Steps b w w 0
  Onward : {v u : Pos} {n : ℕ} → Steps b w v n → Contains (feeders b v) u → Steps b w u (suc n)

-- n is the least number of steps from w to a wire that reads the component at s without dust
pub record IsDistance (b : Plan) (w s : Pos) (n : ℕ) : Type 0 where
  pub wire : Pos
  pub steps : Steps b w wire n
  pub read : Contains (direct_places b wire) s
  pub least : (m : ℕ) (v : Pos) → Steps b w v m → Contains (direct_places b v) s → n ≤ m

-- one link stands before another: it is nearer, or as near and its place comes first
abbrev pub IsBefore : Plan → From → From → Type 0
IsBefore b l m = (l.weight < m.weight) ⊎ ((l.weight ≡ m.weight) × (cell_of b l.place < cell_of b m.place))

abbrev pub AreOrdered : Plan → List From → Type 0
AreOrdered b links = AllPairs (IsBefore b) links
