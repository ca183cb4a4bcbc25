-- What each edit leaves of a graph, and what it asks for.
use Rattle.std.specs.Prelude.{◌≡◌, ℕ, ◌<◌, ◌==◌, List, [], ◌∷◌, ◌++◌, Option, Some, None, map, option_map, set, remove, length, if◌then◌else◌}
use Rattle.circuit.specs.Circuit.{Each, EachBefore, Among}
use Rattle.graph.specs.declared.Kind.TheVariants.{Constant}
use Rattle.graph.specs.declared.Link.{Link}
use Rattle.graph.specs.Graph.{Node, Nodes, node_at, Lives, HasLink}
use Rattle.graph.specs.Links.{in_groups}

-- the graph with another node under this key
abbrev pub change : (Node → Node) → Nodes → ℕ → Nodes
change f g key = set g key (option_map f (node_at g key))

-- a Back link goes behind the last Back link, a Side link behind all
abbrev pub with_link : Link → Node → Node
with_link link node = record node { links = in_groups (node.links ++ link ∷ []) }

abbrev pub add_link : Nodes → ℕ → Link → Nodes
add_link g to link = change (with_link link) g to

abbrev pub without_link : ℕ → Node → Node
without_link index node = record node { links = remove node.links index }

abbrev pub drop_link : Nodes → ℕ → ℕ → Nodes
drop_link g to index = change (without_link index) g to

-- with these links in place of its own
abbrev pub relinked : List Link → Node → Node
relinked links node = record node { links = links }

abbrev pub set_links : Nodes → ℕ → List Link → Nodes
set_links g key links = change (relinked links) g key

-- a Constant of this state, without links and without a pending tick
abbrev pub folded : ℕ → Node → Node
folded value node = record node { kind = Constant; state = value; due = 0; priority = 0; links = [] }

abbrev pub fold_to : Nodes → ℕ → ℕ → Nodes
fold_to g key value = change (folded value) g key

abbrev pub renamed_link : ℕ → ℕ → Link → Link
renamed_link keep gone link = record link { from = (if link.from == gone then keep else link.from) }

-- each link from `gone` comes from `keep`
abbrev pub renamed : ℕ → ℕ → Node → Node
renamed keep gone node = record node { links = map (renamed_link keep gone) node.links }

-- the node stands for the places of another one too
abbrev pub standing_for : Option Node → Node → Node
standing_for None node = node
standing_for (Some other) node = record node { also = node.also ++ other.pos ∷ other.also }

-- `gone` and the links into it are dropped, and `keep` takes its part
abbrev pub merge : Nodes → ℕ → ℕ → Nodes
merge g keep gone = map (option_map (renamed keep gone)) (set (change (standing_for (node_at g gone)) g keep) gone None)

-- nothing stands under these keys any more
abbrev pub drop_set : Nodes → List ℕ → Nodes
drop_set g [] = g
drop_set g (key ∷ keys) = drop_set (set g key None) keys

-- the node has a link of this index
pub record HasLinkAt (g : Nodes) (key index : ℕ) : Type 0 where
  pub node : Node
  pub there : node_at g key ≡ Some node
  pub inside : index < length node.links

-- no link goes from one of these to one of these
pub record IsUnlinked (g : Nodes) (keys : List ℕ) : Type 0 where
  pub none : (key index : ℕ) (link : Link) → HasLink g key index link → Among keys key → Among keys link.from → ⊥

-- the keys live and rise, and no link goes from one of them to another node
pub record IsClosed (g : Nodes) (keys : List ℕ) : Type 0 where
  pub live : Each (Lives g) keys
  pub rise : EachBefore (λ a b. a < b) keys
  pub closed : (key index : ℕ) (link : Link) → HasLink g key index link → Among keys link.from → Among keys key
