-- The search for what is seen: which nodes were found, and whose sources are still to be looked for.
use Rattle.std.specs.Prelude.{◌≡◌, ◌↔◌, ℕ, Bool, true, false, not, List, [], ◌∷◌, ◌++◌, Option, Some, None, set, get_or, if◌then◌else◌}
use Rattle.graph.specs.declared.Link.{Link}
use Rattle.graph.specs.Graph.{Node, Nodes, node_at, Lives}
use Rattle.graph.specs.Steps.{can_go}
use Rattle.prune.specs.declared.search.Search.{Search as StoredSearch}
use Rattle.prune.specs.Unseen.{IsUnseen}

-- whether each node was found, by its number, and those whose sources are still to be looked for
pub record Search : Type 0 where
  pub marks : List Bool
  pub found : List ℕ

abbrev pub plain_search : StoredSearch → Search
plain_search search = record { marks = search.marks.items; found = search.found.items }

-- the node has a mark, and it isn't set
abbrev pub is_unmarked : List Bool → ℕ → Bool
is_unmarked marks key = not (get_or marks key true)

-- a node that is found for the first time is marked
abbrev pub found_one : Search → ℕ → Search
found_one search key =
    if is_unmarked search.marks key then record { marks = set search.marks key true; found = search.found ++ key ∷ [] } else search

-- the sources of these links
abbrev pub found_all : Search → List Link → Search
found_all search [] = search
found_all search (link ∷ links) = found_all (found_one search link.from) links

abbrev pub links_at : Option Node → List Link
links_at None = []
links_at (Some node) = node.links

-- the node is shown or clicked
abbrev pub is_outer_at : Option Node → Bool
is_outer_at None = false
is_outer_at (Some node) = not (can_go node.kind)

-- a node that is shown or clicked is found, and no other
abbrev pub found_outer : Nodes → Search → ℕ → Search
found_outer g search key = if is_outer_at (node_at g key) then found_one search key else search

-- those of these nodes that are shown or clicked
abbrev pub found_outers : Nodes → Search → List ℕ → Search
found_outers g search [] = search
found_outers g search (key ∷ keys) = found_outers g (found_outer g search key) keys

-- of the nodes just those that are unseen have a mark that isn't set
abbrev pub TellUnseen : Nodes → List Bool → Type 0
TellUnseen g marks = (key : ℕ) → Lives g key → (is_unmarked marks key ≡ true) ↔ IsUnseen g key
