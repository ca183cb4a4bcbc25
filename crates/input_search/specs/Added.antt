-- Nodes with other links.
use Rattle.std.specs.Prelude.{◌≡◌, ℕ, ◌<◌, List, [], All, Option, Some, None, Vec, map, take, length, get_or, option_map}
use Rattle.std.specs.Global.{Global}
use Rattle.graph.specs.declared.Link.{Link}
use Rattle.graph.specs.Graph.{Node, Nodes, node_at, Lives}
use Rattle.graph.specs.Links.{in_groups}

abbrev pub links_under : Option Node → List Link
links_under None = []
links_under (Some node) = node.links

abbrev pub with_links : List Link → Node → Node
with_links links node = record node { links = links }

abbrev pub plain_lists : List (Vec Link Global) → List (List Link)
plain_lists lists = map (λ list. list.items) lists

abbrev pub list_at : List (Vec Link Global) → ℕ → List Link
list_at lists key = get_or (plain_lists lists) key []

-- each of these lists can go into the node of its key, which has no link
pub record IsFitting (g : Nodes) (lists : List (Vec Link Global)) : Type 0 where
  pub live : (key : ℕ) → key < length lists → Lives g key
  pub fresh : (key : ℕ) → links_under (node_at g key) ≡ []
  pub from : (key : ℕ) → All (λ link. Lives g link.from) (list_at lists key)
  pub groups : (key n : ℕ) → in_groups (take n (list_at lists key)) ≡ take n (list_at lists key)

-- each of these lists went into the node of its key
pub record AreFilled (lists : List (List Link)) (old new : Nodes) : Type 0 where
  pub size : length new ≡ length old
  pub each : (key : ℕ) → node_at new key ≡ option_map (with_links (get_or lists key [])) (node_at old key)
