-- What nodes read that may have a twin.
use Rattle.std.specs.Prelude.{◌≡◌, ℕ, Bool, true, false, List, Option, Some, None, get_or, if◌then◌else◌}
use Rattle.graph.specs.declared.Link.{Link}
use Rattle.graph.specs.Graph.{Node, Nodes, node_at}
use Rattle.graph.specs.Steps.{can_fold}
use Rattle.coalesce.specs.Pairs.{only_link}

abbrev pub source_by : Option Link → Option ℕ
source_by None = None
source_by (Some link) = Some link.from

abbrev pub source_in : Option Node → Option ℕ
source_in None = None
source_in (Some node) = if can_fold node.kind then source_by (only_link node.links) else None

-- what a node reads by its one link, if it may have a twin
abbrev pub source_at : Nodes → ℕ → Option ℕ
source_at g key = source_in (node_at g key)

-- the number has its mark
abbrev pub IsMet : List Bool → ℕ → Type 0
IsMet marks number = get_or marks number false ≡ true
