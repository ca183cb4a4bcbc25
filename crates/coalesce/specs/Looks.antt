-- What twins have in common, and which nodes have it in common.
use Rattle.std.specs.Prelude.{◌≡◌, ℕ, Bool, ◌&&◌, List, Option, Some, None, Vec, if◌then◌else◌}
use Rattle.std.specs.declared.alloc.Global.{Global}
use Rattle.std.specs.HashMap.{HashMap, get}
use Rattle.circuit.specs.Circuit.{Among}
use Rattle.graph.specs.declared.Kind.{Kind}
use Rattle.graph.specs.declared.Link.{Link}
use Rattle.graph.specs.Graph.{Node, Nodes, node_at}
use Rattle.graph.specs.Steps.{can_fold, asks_for_any}
use Rattle.coalesce.specs.declared.looks.Look.{Look}
use Rattle.coalesce.specs.contracts.looks.LookPartialEq.TheImpl as look_eq
use Rattle.coalesce.specs.FanOuts.{items_of}
use Rattle.coalesce.specs.Pairs.{only_link, full_at}

-- the weight of a link, where it makes a difference to a node of this kind
abbrev pub counted_weight : Nodes → Kind → Link → ℕ
counted_weight g kind link = if full_at (node_at g link.from) && asks_for_any kind then 0 else link.weight

abbrev pub look_with : Nodes → Node → Link → Option Look
look_with g node link =
    if can_fold node.kind
    then Some (record { source = link.from; weight = counted_weight g node.kind link; kind = node.kind; state = node.state; first = node.first; due = node.due; priority = node.priority })
    else None

abbrev pub look_by : Nodes → Node → Option Link → Option Look
look_by g node None = None
look_by g node (Some link) = look_with g node link

-- the look of a node that may have a twin
abbrev pub look_in : Nodes → Option Node → Option Look
look_in g None = None
look_in g (Some node) = look_by g node (only_link node.links)

abbrev pub look_at : Nodes → ℕ → Option Look
look_at g key = look_in g (node_at g key)

abbrev pub same_look : Look → Look → Bool
same_look = (look_eq.ghosts).eq

-- the nodes of one look
abbrev pub members : {S : Type 0} → HashMap Look (Vec ℕ Global) S → Look → List ℕ
members lists look = items_of (get same_look lists look)

-- who is a member stays one
abbrev pub KeepsMembers : {S : Type 0} → HashMap Look (Vec ℕ Global) S → HashMap Look (Vec ℕ Global) S → Type 0
KeepsMembers old new = (look : Look) (key : ℕ) → Among (members old look) key → Among (members new look) key

-- the node is a member of its look, if it has one
abbrev pub IsGrouped : {S : Type 0} → Nodes → HashMap Look (Vec ℕ Global) S → ℕ → Type 0
IsGrouped g lists key = (look : Look) → look_at g key ≡ Some look → Among (members lists look) key
