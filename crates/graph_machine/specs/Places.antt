-- The nodes that stand at places: those that are shown, and those that take clicks.
use Rattle.std.specs.Prelude.{◌≡◌, ℕ, ℤ, ◌<◌, Bool, true, false, ◌&&◌, List, Option, Some, None, if◌then◌else◌}
use Rattle.std.specs.Bool.{MatchBool}
use Rattle.std.specs.declared.cmp.Ordering.{Ordering}
use Rattle.std.specs.Ordering.{int_cmp, ordering_then}
use Rattle.std.specs.BTreeMap.{BTreeMap, get, insert_entry, Updates}
use Rattle.circuit.specs.declared.Click.{Click}
use Rattle.circuit.specs.declared.Component.{Component}
use Rattle.circuit.specs.declared.Pos.{Pos}
use Rattle.circuit.specs.Component.{takes}
use Rattle.graph.specs.declared.Kind.{Kind}
use Rattle.graph.specs.declared.Kind.TheVariants.{Lever, Button, Plate, Weighted}
use Rattle.graph.specs.Clicks.{is_same_place}
use Rattle.graph.specs.Graph.{Nodes, node_at}
use Rattle.graph.specs.GraphCircuit.{Output, is_output, role_of, role_at, place_at}
use Rattle.graph_machine.specs.declared.net.Part.{Part}
use Rattle.graph_machine.specs.Wired.{part_at}

-- ---- keys by places

-- a place as y, z and x
abbrev pub Spot : Type 0
Spot = ℤ × ℤ × ℤ

abbrev pub spot : Pos → Spot
spot p = (p.y, p.z, p.x)

abbrev pub spot_cmp : Spot → Spot → Ordering
spot_cmp a b = ordering_then (ordering_then (int_cmp a.0 b.0) (int_cmp a.1 b.1)) (int_cmp a.2 b.2)

-- ---- outputs

abbrev pub output_in : Spot × ℕ → Output
output_in entry = record { place = record { x = entry.0.2; y = entry.0.0; z = entry.0.1 }; key = entry.1 }

abbrev pub part_output : ℕ → Option Part → Option Output
part_output key None = None
part_output key (Some part) = if is_output part.kind then Some (record { place = part.pos; key = key }) else None

-- the entries of a map with one key more, if there is one
abbrev pub with_output : List (Spot × ℕ) → Option Output → List (Spot × ℕ)
with_output entries None = entries
with_output entries (Some one) = insert_entry spot_cmp entries (spot one.place) one.key

abbrev pub PutsOutput : ℕ → Option Part → BTreeMap Spot ℕ → BTreeMap Spot ℕ → Type 0
PutsOutput key part old new = new.entries ≡ with_output old.entries (part_output key part)

-- ---- clicks

-- which kinds take clicks
abbrev pub is_clicked : Kind → Bool
is_clicked Lever = true
is_clicked (Button delay) = true
is_clicked Plate = true
is_clicked Weighted = true
is_clicked kind = false

abbrev pub part_clicked : Option Part → Bool
part_clicked None = false
part_clicked (Some part) = is_clicked part.kind

abbrev pub PutsClicked : ℕ → Option Part → BTreeMap Spot ℕ → BTreeMap Spot ℕ → Type 0
PutsClicked key None old new = new.entries ≡ old.entries
PutsClicked key (Some part) old new = MatchBool (is_clicked part.kind) (Updates spot_cmp old new (spot part.pos) (Some key)) (new.entries ≡ old.entries)

-- each node below the key that takes clicks is found by its place
abbrev pub AreClickedBelow : ℕ → Nodes → BTreeMap Spot ℕ → Type 0
AreClickedBelow count g keys = (key : ℕ) → key < count → part_clicked (part_at (node_at g key)) ≡ true → get spot_cmp keys (spot (place_at (node_at g key))) ≡ Some key

-- and so is each node of the graph
abbrev pub AreClicked : Nodes → BTreeMap Spot ℕ → Type 0
AreClicked g keys = (key : ℕ) → part_clicked (part_at (node_at g key)) ≡ true → get spot_cmp keys (spot (place_at (node_at g key))) ≡ Some key

-- whether a component takes the click
abbrev pub role_takes : Option Component → Click → Bool
role_takes None click = false
role_takes (Some component) click = takes component click

abbrev pub part_takes : Option Part → Pos → Click → Bool
part_takes None pos click = false
part_takes (Some part) pos click = is_same_place part.pos pos && role_takes (role_of part.kind) click

-- the component under this key stands at the place and takes the click
pub record TakesAt (g : Nodes) (key : ℕ) (pos : Pos) (click : Click) : Type 0 where
  pub component : Component
  pub there : role_at (node_at g key) ≡ Some component
  pub place : place_at (node_at g key) ≡ pos
  pub taken : takes component click ≡ true
