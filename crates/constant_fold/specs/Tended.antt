-- What Fold has still to look at, and what waits for a source to be folded.
use Rattle.std.specs.Prelude.{◌≡◌, ◌≢◌, ℕ, zero, suc, ◌<◌, ◌≤◌, true, false, List, [], ◌∷◌, ◌++◌, Some, None, Vec, length, get_or, slice_get}
use Rattle.std.specs.declared.alloc.Global.{Global}
use Rattle.circuit.specs.Circuit.{Each, Among}
use Rattle.graph.specs.declared.Link.{Link}
use Rattle.graph.specs.Graph.{Node, Nodes, node_at, Lives}
use Rattle.graph.specs.LinkAt.{link_at}
use Rattle.constant_fold.specs.declared.waits.Wait.{Wait}
use Rattle.constant_fold.specs.Foldable.{is_constant, fold_value_at, IsStuck}

-- what waits for the source of this number
abbrev pub waiting_for : List (Vec Wait Global) → ℕ → List Wait
waiting_for [] source = []
waiting_for (list ∷ lists) zero = list.items
waiting_for (list ∷ lists) (suc source) = waiting_for lists source

-- one more waits for the source
pub record IsAdded (old new : List (Vec Wait Global)) (source : ℕ) (wait : Wait) : Type 0 where
  pub here : waiting_for new source ≡ waiting_for old source ++ wait ∷ []
  pub others : (other : ℕ) → other ≢ source → waiting_for new other ≡ waiting_for old other
  pub size : length new ≡ length old

-- nothing waits for the source any more
pub record IsEmptied (old new : List (Vec Wait Global)) (source : ℕ) : Type 0 where
  pub here : waiting_for new source ≡ []
  pub others : (other : ℕ) → other ≢ source → waiting_for new other ≡ waiting_for old other
  pub size : length new ≡ length old

-- the links before the index come from Constants
abbrev pub HasPassed : Nodes → Wait → Type 0
HasPassed g wait = (index : ℕ) (link : Link) → index < wait.index → link_at g wait.node index ≡ Some link → is_constant (node_at g link.from) ≡ true

-- all links come from Constants
abbrev pub EachConstant : Nodes → ℕ → Type 0
EachConstant g key = (index : ℕ) (link : Link) → link_at g key index ≡ Some link → is_constant (node_at g link.from) ≡ true

-- The link of this index comes from this source, which is no Constant, and those before it come from Constants.
pub record IsOpen (g : Nodes) (key source index : ℕ) : Type 0 where
  pub link : Link
  pub here : link_at g key index ≡ Some link
  pub from : link.from ≡ source
  pub open_source : is_constant (node_at g source) ≡ false
  pub passed : HasPassed g (record { node = key; index = index })

-- A node will be looked at, or waits for the source of one of its links, which is no Constant, or can't be folded for good.
pub data IsTended (g : Nodes) (work : List Wait) (lists : List (Vec Wait Global)) (key : ℕ) (node : Node) : Type 0 where
  ToDo : (wait : Wait) → Among work wait → wait.node ≡ key → IsTended g work lists key node
  Awaits : (index : ℕ) (link : Link) (wait : Wait) → slice_get node.links index ≡ Some link → is_constant (node_at g link.from) ≡ false → Among (waiting_for lists link.from) wait → wait.node ≡ key →
      IsTended g work lists key node
  NoFold : IsStuck g node → IsTended g work lists key node

-- Each other node than this one is tended, and there is a list for each source.
pub record OthersTended (g : Nodes) (key : ℕ) (work : List Wait) (lists : List (Vec Wait Global)) : Type 0 where
  pub others : (k : ℕ) (node : Node) → k ≢ key → node_at g k ≡ Some node → IsTended g work lists k node
  pub passed : Each (HasPassed g) work
  pub waits_passed : (source : ℕ) → Each (HasPassed g) (waiting_for lists source)
  pub room : (k : ℕ) → Lives g k → k < length lists

-- Each node is.
pub record AllTended (g : Nodes) (work : List Wait) (lists : List (Vec Wait Global)) : Type 0 where
  pub each : (k : ℕ) (node : Node) → node_at g k ≡ Some node → IsTended g work lists k node
  pub passed : Each (HasPassed g) work
  pub waits_passed : (source : ℕ) → Each (HasPassed g) (waiting_for lists source)
  pub room : (k : ℕ) → Lives g k → k < length lists

-- each node's key is among these
abbrev pub AreListed : Nodes → List ℕ → Type 0
AreListed g keys = (k : ℕ) → Lives g k → (i : ℕ) × (i < length keys) × (get_or keys i 0 ≡ k)

-- of the nodes from one index on, up to another one, none can be folded now
abbrev pub NoneFold : Nodes → List ℕ → ℕ → ℕ → Type 0
NoneFold g keys from end = (i : ℕ) → from ≤ i → i < end → fold_value_at g (node_at g (get_or keys i 0)) ≡ None

-- All these nodes are to be looked at from their first links on, and nothing waits.
pub record IsFresh (keys : List ℕ) (work : List Wait) (lists : List (Vec Wait Global)) : Type 0 where
  pub all : (index : ℕ) → index < length keys → (wait : Wait) × Among work wait × (wait.node ≡ get_or keys index 0)
  pub first : Each (λ wait. wait.index ≡ 0) work
  pub empty : (source : ℕ) → waiting_for lists source ≡ []
  pub room : (index : ℕ) → index < length keys → get_or keys index 0 < length lists
