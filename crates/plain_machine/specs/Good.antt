-- The graphs that the tests make: sound, and each node stands at the place of its key.
use Rattle.std.specs.Prelude.{ℕ, Bool, true, length, Option, Some, None, ◌&&◌, ◌||◌, ◌==◌, nat_le, nat_lt, is_some, pos, if◌then◌else◌}
use Rattle.std.specs.List.{list_all}
use Rattle.std.specs.Ordering.{int_eq}
use Rattle.node_arena.specs.Items.{keys_of}
use Rattle.graph.specs.declared.Kind.{Kind}
use Rattle.graph.specs.declared.Kind.TheVariants.{Button, Repeater, Comparator}
use Rattle.graph.specs.declared.Link.{Link}
use Rattle.graph.specs.Graph.{Node, Nodes, node_at}
use Rattle.graph.specs.GraphCircuit.{role_of}
use Rattle.graph.specs.Sound.{can_wait, top_of}

abbrev pub is_small : Option ℕ → Bool
is_small None = true
is_small (Some strength) = nat_le strength 15

abbrev pub is_kind_good : Kind → Bool
is_kind_good (Button delay) = (delay == 10) || (delay == 15)
is_kind_good (Repeater delay) = nat_le 1 delay && nat_le delay 4
is_kind_good (Comparator subtract direct far) = is_small direct && is_small far
is_kind_good kind = true

abbrev pub is_tick_good : Kind → ℕ → ℕ → Bool
is_tick_good kind due priority = if due == 0 then priority == 0 else can_wait kind && (nat_le due 15 && nat_le priority 3)

abbrev pub is_link_good : Nodes → Link → Bool
is_link_good g link = nat_le link.weight 15 && is_some (node_at g link.from)

-- it stands at the place of its key, and for no other place
abbrev pub is_alone : ℕ → Node → Bool
is_alone key node = int_eq node.pos.x (pos key) && (length node.also == 0)

abbrev pub is_node_good : Nodes → ℕ → Node → Bool
is_node_good g key node =
    nat_le node.state (top_of (role_of node.kind)) && (is_kind_good node.kind && (is_tick_good node.kind node.due node.priority && (list_all (is_link_good g) node.links && is_alone key node)))

abbrev pub is_entry_good : Nodes → ℕ → Option Node → Bool
is_entry_good g key None = true
is_entry_good g key (Some node) = is_node_good g key node

abbrev pub is_key_good : Nodes → ℕ → Bool
is_key_good g key = nat_lt key 100 && is_entry_good g key (node_at g key)

-- all nodes are good, under keys below 100
abbrev pub is_good : Nodes → Bool
is_good g = list_all (is_key_good g) (keys_of g)
