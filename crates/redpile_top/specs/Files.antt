-- What the files of a command are.
use Rattle.std.specs.Prelude.{◌≡◌, ◌⊎◌, ℕ, ◌<◌, ◌≤◌, Bool, true, false, List, length, Option, Some, Ok, Err}
use Rattle.circuit.specs.declared.Click.{Click}
use Rattle.circuit.specs.declared.Pos.{Pos}
use Rattle.build.specs.Plan.{Plan}
use Rattle.schematic.specs.File.{Refusal, unknown_block, file, IsFirstRefusal}
use Rattle.script.specs.declared.ScriptKind.{ScriptKind}
use Rattle.script.specs.declared.ScriptRefusal.TheVariants.{Line}
use Rattle.script.specs.Acts.{Meaning}
use Rattle.script.specs.Clickable.{takes_click, is_wire_at}
use Rattle.script.specs.Scripts.{script_of}
use Rattle.graph.specs.Graph.{Nodes}
use Rattle.graph_file.specs.GraphFile.{IsGraphFile}
use Rattle.graph_file.specs.Targets.{takes_click as node_takes_click, is_wire_at as is_wire_node_at}
use Rattle.report.specs.declared.OrderKind.{OrderKind}
use Rattle.world_order.specs.BadLine.{IsBadLine}
use Rattle.world_order.specs.OrderText.{IsOrder}

-- the bytes of files by name, where they are told
abbrev pub Told : Type 0
Told = List ℕ → Option (List ℕ)

-- It holds of the bytes, where they are told.
abbrev pub OnTold : Option (List ℕ) → (List ℕ → Type 0) → Type 0
OnTold told P = (bytes : List ℕ) → told ≡ Some bytes → P bytes

-- ---- of a build

-- The bytes are an accepted build's.
pub record IsBuild (build : Plan) (bytes : List ℕ) : Type 0 where
  pub within : length bytes ≤ 67108864
  pub is : file bytes build

-- the cause is a block that isn't known
abbrev pub is_block : Refusal → Bool
is_block (unknown_block name) = true
is_block _ = false

-- The bytes have a first cause, which isn't a block.
pub record HasCauseButBlock (bytes : List ℕ) : Type 0 where
  pub refusal : Refusal
  pub other : is_block refusal ≡ false
  pub first : IsFirstRefusal bytes refusal

-- They are too many, or no build's for another cause than a block.
abbrev pub IsBadBuild : List ℕ → Type 0
IsBadBuild bytes = (67108864 < length bytes) ⊎ HasCauseButBlock bytes

-- They are no build's, and the first cause is a block that isn't known.
pub record IsBadBlock (bytes : List ℕ) : Type 0 where
  pub within : length bytes ≤ 67108864
  pub name : List ℕ
  pub first : IsFirstRefusal bytes (unknown_block name)

-- ---- of a graph

-- The bytes are an accepted graph's.
pub record IsGraph (graph : Nodes) (bytes : List ℕ) : Type 0 where
  pub within : length bytes ≤ 268435456
  pub is : IsGraphFile bytes graph

-- They are too many, or no graph's.
abbrev pub IsBadGraph : List ℕ → Type 0
IsBadGraph bytes = (268435456 < length bytes) ⊎ ((graph : Nodes) → IsGraphFile bytes graph → ⊥)

-- ---- of a script

-- the two tests that a script's lines are put to: whether a click is taken at a place, and whether a wire stands there
pub record Tests : Type 0 where
  pub takes : Pos → Click → Bool
  pub wire : Pos → Bool

abbrev pub tests_of : Plan → Tests
tests_of build = record { takes = takes_click build; wire = is_wire_at build }

abbrev pub graph_tests : Nodes → Tests
graph_tests graph = record { takes = node_takes_click graph; wire = is_wire_node_at graph }

-- The bytes are an accepted script's.
pub record IsScript (tests : Tests) (script : Meaning) (bytes : List ℕ) : Type 0 where
  pub within : length bytes ≤ 1048576
  pub is : script_of tests.takes tests.wire bytes ≡ Ok script

-- They have a first bad line.
pub record HasBadLine (tests : Tests) (bytes : List ℕ) : Type 0 where
  pub line : ℕ
  pub kind : ScriptKind
  pub is : script_of tests.takes tests.wire bytes ≡ Err (Line line kind)

-- They are no script's, or too many.
abbrev pub IsBadScript : Tests → List ℕ → Type 0
IsBadScript tests bytes = (1048576 < length bytes) ⊎ HasBadLine tests bytes

-- ---- of an order

-- The bytes are those of this order, which the build's world plays.
pub record IsOrderFile (build : Plan) (script : Meaning) (order : List (List Pos)) (bytes : List ℕ) : Type 0 where
  pub within : length bytes ≤ 268435456
  pub is : IsOrder build script bytes order

-- They are those of no order, and this is the first bad line.
pub record HasBadOrderLine (build : Plan) (script : Meaning) (bytes : List ℕ) (line tick : ℕ) (kind : OrderKind) : Type 0 where
  pub within : length bytes ≤ 268435456
  pub bad : IsBadLine build script bytes line tick kind
  pub none : (order : List (List Pos)) → IsOrder build script bytes order → ⊥

-- They are those of no order, or too many.
abbrev pub IsBadOrder : Plan → Meaning → List ℕ → Type 0
IsBadOrder build script bytes = (268435456 < length bytes) ⊎ ((order : List (List Pos)) → IsOrder build script bytes order → ⊥)
