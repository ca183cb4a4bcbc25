-- The parts of what makes two nodes twins.
use Rattle.std.specs.Prelude.{◌≡◌, ◌≢◌, ◌⊎◌, ℕ, Bool, true, false, ◌&&◌, List, [], ◌∷◌, Option, Some, None, slice_get, nat_lt, if◌then◌else◌}
use Rattle.graph.specs.declared.Kind.{Kind}
use Rattle.graph.specs.declared.Group.{Group}
use Rattle.graph.specs.declared.Group.TheVariants.{Back}
use Rattle.graph.specs.declared.Link.{Link}
use Rattle.graph.specs.Graph.{Node, Nodes, node_at}
use Rattle.graph.specs.Links.{is_group}
use Rattle.graph.specs.Steps.{can_fold, is_full_or_none, asks_for_any}

-- the one link of a node, where it is of its back and brings something
abbrev pub only_link : List Link → Option Link
only_link (link ∷ []) = if is_group Back link.group && nat_lt link.weight 15 then Some link else None
only_link _ = None

-- the nodes are the same but for their places and links
pub record LookAlike (a b : Node) : Type 0 where
  pub can : can_fold a.kind ≡ true
  pub kind : a.kind ≡ b.kind
  pub first : a.first ≡ b.first
  pub state : a.state ≡ b.state
  pub due : a.due ≡ b.due
  pub priority : a.priority ≡ b.priority

abbrev pub full_at : Option Node → Bool
full_at None = false
full_at (Some node) = is_full_or_none node.kind node.state

-- what has links from both has them in one group
abbrev pub InOneGroup : List Link → ℕ → ℕ → Type 0
InOneGroup links keep gone = (i j : ℕ) (l m : Link) → slice_get links i ≡ Some l → slice_get links j ≡ Some m → l.from ≡ keep → m.from ≡ gone → l.group ≡ m.group

abbrev pub IsInOneGroup : Option Node → ℕ → ℕ → Type 0
IsInOneGroup None keep gone = Unit {0}
IsInOneGroup (Some node) keep gone = InOneGroup node.links keep gone

-- some link of the group comes from the node
pub record ComesFrom (links : List Link) (from : ℕ) (group : Group) : Type 0 where
  pub index : ℕ
  pub link : Link
  pub there : slice_get links index ≡ Some link
  pub source : link.from ≡ from
  pub of_group : link.group ≡ group

-- The two links come from one source, which is neither node, and bring the same, or something just where one does.
pub record AreLinksAlike (g : Nodes) (kind : Kind) (a b : Link) (keep gone : ℕ) : Type 0 where
  pub source : b.from ≡ a.from
  pub not_a : a.from ≢ keep
  pub not_b : a.from ≢ gone
  pub alike : (a.weight ≡ b.weight) ⊎ ((asks_for_any kind ≡ true) × (full_at (node_at g a.from) ≡ true))

abbrev pub ReadAlike : Nodes → Kind → Option Link → Option Link → ℕ → ℕ → Type 0
ReadAlike g kind (Some a) (Some b) keep gone = AreLinksAlike g kind a b keep gone
ReadAlike g kind _ _ keep gone = ⊥
