-- The steps that make a graph smaller.
use Rattle.std.specs.Prelude.{◌≡◌, ◌≢◌, ◌⊎◌, ◌↔◌, ℕ, ◌-◌, max, ◌<◌, ◌≤◌, Bool, true, false, ◌||◌, ◌==◌, List, [], ◌∷◌, Option, Some, None, slice_get}
use Rattle.circuit.specs.declared.Component.{Component}
use Rattle.circuit.specs.Component.{goal, locked, out}
use Rattle.circuit.specs.Circuit.{Among}
use Rattle.graph.specs.declared.Kind.{Kind}
use Rattle.graph.specs.declared.Kind.TheVariants.{Lever, Button, Plate, Weighted, Torch, Repeater, Comparator, Lamp, Trapdoor, Note, Wire, Constant}
use Rattle.graph.specs.declared.Group.TheVariants.{Back, Side}
use Rattle.graph.specs.declared.Link.{Link}
use Rattle.graph.specs.Graph.{Node, Nodes, node_at, Lives, HasLink}
use Rattle.graph.specs.Readings.{reading, readings_of}
use Rattle.graph.specs.GraphCircuit.{role_of}
use Rattle.graph.specs.Edits.{drop_link, fold_to, merge, drop_set}

-- Clamp: a link that weighs 15 or more brings nothing, and is dropped.
pub record Clamps (old new : Nodes) : Type 0 where
  pub key : ℕ
  pub index : ℕ
  pub link : Link
  pub linked : HasLink old key index link
  pub heavy : 15 ≤ link.weight
  pub after : new ≡ drop_link old key index

-- Dedup: of two links with the same ends and group the heavier goes, and of equal ones the later.
pub record Dedups (old new : Nodes) : Type 0 where
  pub key : ℕ
  pub index : ℕ
  pub other : ℕ
  pub link : Link
  pub better : Link
  pub linked : HasLink old key index link
  pub beside : HasLink old key other better
  pub from : link.from ≡ better.from
  pub group : link.group ≡ better.group
  pub worse : (better.weight < link.weight) ⊎ ((better.weight ≡ link.weight) × (other < index))
  pub after : new ≡ drop_link old key index

abbrev pub fixed_out : Kind → ℕ → ℕ
fixed_out Constant state = state
fixed_out Lever state = 0
fixed_out (Button delay) state = 0
fixed_out Plate state = 0
fixed_out Weighted state = 0
fixed_out Torch state = 0
fixed_out (Repeater delay) state = 0
fixed_out (Comparator subtract direct far) state = 0
fixed_out Lamp state = 0
fixed_out Trapdoor state = 0
fixed_out Note state = 0
fixed_out Wire state = 0

-- what a Constant gives, and 0 for every other node
abbrev pub fixed_at : Option Node → ℕ
fixed_at None = 0
fixed_at (Some node) = fixed_out node.kind node.state

-- what Constants alone give
abbrev pub fixed : Nodes → ℕ → ℕ
fixed g key = fixed_at (node_at g key)

abbrev pub bound_of : (ℕ → ℕ) → Node → Kind → ℕ
bound_of given node Constant = node.state
bound_of given node (Comparator true direct far) = max node.state (15 - reading given Side node.links)
bound_of given node (Comparator false direct far) = 15
bound_of given node Lever = 15
bound_of given node (Button delay) = 15
bound_of given node Plate = 15
bound_of given node Weighted = 15
bound_of given node Torch = 15
bound_of given node (Repeater delay) = 15
bound_of given node Lamp = 15
bound_of given node Trapdoor = 15
bound_of given node Note = 15
bound_of given node Wire = 15

-- What a node never passes: a Constant its state, and every other node 15. A comparator that subtracts loses at least what
-- Constants bring to its side, so it never passes 15 less that, or its own state where that is more.
abbrev pub bound_at : Nodes → Option Node → ℕ
bound_at g None = 0
bound_at g (Some node) = bound_of (fixed g) node node.kind

-- Unreach: a link that weighs as much as its source ever gives brings nothing, and is dropped.
pub record Unreaches (old new : Nodes) : Type 0 where
  pub key : ℕ
  pub index : ℕ
  pub link : Link
  pub linked : HasLink old key index link
  pub heavy : bound_at old (node_at old link.from) ≤ link.weight
  pub after : new ≡ drop_link old key index

-- a torch, a repeater or a comparator
abbrev pub can_fold : Kind → Bool
can_fold Torch = true
can_fold (Repeater delay) = true
can_fold (Comparator subtract direct far) = true
can_fold Lever = false
can_fold (Button delay) = false
can_fold Plate = false
can_fold Weighted = false
can_fold Lamp = false
can_fold Trapdoor = false
can_fold Note = false
can_fold Wire = false
can_fold Constant = false

-- Fold: what reads Constants alone, has no pending tick, and is at its goal or locked, never changes. It becomes a Constant.
pub record Folds (old new : Nodes) : Type 0 where
  pub key : ℕ
  pub node : Node
  pub component : Component
  pub there : node_at old key ≡ Some node
  pub can : can_fold node.kind ≡ true
  pub role : role_of node.kind ≡ Some component
  pub idle : node.due ≡ 0
  pub sources : (index : ℕ) (link : Link) → slice_get node.links index ≡ Some link → (source : Node) × (node_at old link.from ≡ Some source) × (source.kind ≡ Constant)
  pub rests : (node.state ≡ goal component (readings_of (fixed old) node)) ⊎ (locked component (readings_of (fixed old) node) ≡ true)
  pub after : new ≡ fold_to old key (out component node.state)

-- gives 0 or 15 in every state
abbrev pub is_full_or_none : Kind → ℕ → Bool
is_full_or_none Lever state = true
is_full_or_none (Button delay) state = true
is_full_or_none Plate state = true
is_full_or_none Torch state = true
is_full_or_none (Repeater delay) state = true
is_full_or_none Constant state = (state == 0) || (state == 15)
is_full_or_none Weighted state = false
is_full_or_none (Comparator subtract direct far) state = false
is_full_or_none Lamp state = false
is_full_or_none Trapdoor state = false
is_full_or_none Note state = false
is_full_or_none Wire state = false

-- a torch or a repeater, which ask only whether there is any power
abbrev pub asks_for_any : Kind → Bool
asks_for_any Torch = true
asks_for_any (Repeater delay) = true
asks_for_any Lever = false
asks_for_any (Button delay) = false
asks_for_any Plate = false
asks_for_any Weighted = false
asks_for_any (Comparator subtract direct far) = false
asks_for_any Lamp = false
asks_for_any Trapdoor = false
asks_for_any Note = false
asks_for_any Wire = false
asks_for_any Constant = false

-- Two nodes that always do the same.
pub record AreTwins (g : Nodes) (keep gone : ℕ) : Type 0 where
  pub a : Node
  pub b : Node
  pub link_a : Link
  pub link_b : Link
  pub there_a : node_at g keep ≡ Some a
  pub there_b : node_at g gone ≡ Some b
  pub can : can_fold a.kind ≡ true
  -- of one kind, with one delay, mode and strengths
  pub kind : a.kind ≡ b.kind
  pub first : a.first ≡ b.first
  pub state : a.state ≡ b.state
  pub due : a.due ≡ b.due
  pub priority : a.priority ≡ b.priority
  -- each has one link, of group Back, from one source that is neither
  pub links_a : a.links ≡ link_a ∷ []
  pub links_b : b.links ≡ link_b ∷ []
  pub back_a : link_a.group ≡ Back
  pub back_b : link_b.group ≡ Back
  pub source : link_b.from ≡ link_a.from
  pub not_a : link_a.from ≢ keep
  pub not_b : link_a.from ≢ gone
  pub light_a : link_a.weight < 15
  pub light_b : link_b.weight < 15
  -- both links bring the same, or both bring something just where one does
  pub alike : (link_a.weight ≡ link_b.weight)
      ⊎ ((asks_for_any a.kind ≡ true) × ((source : Node) × (node_at g link_a.from ≡ Some source) × (is_full_or_none source.kind source.state ≡ true)))
  -- what has links from both has them in one group
  pub one_group : (key i j : ℕ) (l m : Link) → HasLink g key i l → HasLink g key j m → l.from ≡ keep → m.from ≡ gone → l.group ≡ m.group

-- Coalesce: of two nodes that always do the same, the lower takes the part of the other.
pub record Coalesces (old new : Nodes) : Type 0 where
  pub keep : ℕ
  pub gone : ℕ
  pub earlier : keep < gone
  pub twins : AreTwins old keep gone
  pub after : new ≡ merge old keep gone

-- What a node reaches along links.
pub data Reaches (g : Nodes) (from : ℕ) : ℕ → Type 0 where
  Itself : Reaches g from from
  Along : {key index : ℕ} {link : Link} → Reaches g from link.from → HasLink g key index link → Reaches g from key

-- what isn't shown and can't be clicked
abbrev pub can_go : Kind → Bool
can_go Torch = true
can_go (Repeater delay) = true
can_go (Comparator subtract direct far) = true
can_go Constant = true
can_go Lever = false
can_go (Button delay) = false
can_go Plate = false
can_go Weighted = false
can_go Lamp = false
can_go Trapdoor = false
can_go Note = false
can_go Wire = false

-- Prune: a node and all that it reaches go, where none of them is shown or clicked.
pub record Prunes (old new : Nodes) : Type 0 where
  pub key : ℕ
  pub keys : List ℕ
  pub lives : Lives old key
  pub reached : (k : ℕ) → Among keys k ↔ Reaches old key k
  pub unseen : (k : ℕ) (node : Node) → Among keys k → node_at old k ≡ Some node → can_go node.kind ≡ true
  pub after : new ≡ drop_set old keys
