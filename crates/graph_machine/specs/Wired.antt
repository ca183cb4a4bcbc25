-- A graph whose nodes read what the others give, as it is kept by a started machine.
use Rattle.std.specs.Prelude.{◌≡◌, ◌⊎◌, ℕ, Bool, false, ◌<◌, ◌≤◌, ◌^◌, List, [], Option, Some, None, length, map, option_map, slice_index, slice_index_or, nat_lt, if◌then◌else◌}
use Rattle.circuit.specs.declared.Readings.{Readings}
use Rattle.circuit.specs.declared.Component.{Component}
use Rattle.graph.specs.declared.Group.{Group}
use Rattle.graph.specs.declared.Group.TheVariants.{Back, Side}
use Rattle.graph.specs.Graph.{Node, Nodes, node_at}
use Rattle.graph.specs.declared.Kind.{Kind}
use Rattle.graph.specs.declared.Kind.TheVariants.{Lever, Button, Plate, Weighted, Torch, Repeater, Comparator, Lamp, Trapdoor, Note, Wire, Constant}
use Rattle.graph.specs.GraphCircuit.{role_of}
use Rattle.graph_machine.specs.declared.net.Part.{Part}
use Rattle.graph_machine.specs.declared.net.BackRule.{BackRule}
use Rattle.graph_machine.specs.declared.net.BackRule.TheVariants.{Power, Direct, Far}
use Rattle.graph_machine.specs.declared.net.Brief.{Brief}
use Rattle.link_counts.specs.declared.counts.Counts.{Counts}
use Rattle.graph_machine.specs.declared.links.OutLink.{OutLink}
use Rattle.graph_machine.specs.Outgoing.{links_at, links_from}
use Rattle.link_counts.specs.Counted.{count_at}
use Rattle.graph_machine.specs.Counted.{IsCounted, IsTurned}

-- The nodes of the graph, what each key gives, and for each key the nodes that read it.
pub record Wired : Type 0 where
  pub nodes : Nodes
  pub outs : List ℕ
  pub targets : List (List ℕ)

abbrev pub given : List ℕ → ℕ → ℕ
given outs key = slice_index outs key

-- what a node is, without its links
abbrev pub part_of : Node → Part
part_of node = record { pos = node.pos; kind = node.kind; state = node.state; first = node.first }

abbrev pub part_at : Option Node → Option Part
part_at entry = option_map part_of entry

abbrev pub targets_of : List OutLink → List ℕ
targets_of links = map (λ (link : OutLink). link.to) links

abbrev pub targets_in : List (List ℕ) → ℕ → List ℕ
targets_in targets from = slice_index_or targets from []

-- ---- what an event needs of a node

-- how the back reading comes of the power
abbrev pub rule_by : Option ℕ → Option ℕ → BackRule
rule_by (Some direct) far = Direct direct
rule_by None (Some far) = Far far
rule_by None None = Power

abbrev pub rule_of : Kind → BackRule
rule_of (Comparator subtract direct far) = rule_by direct far
rule_of Lever = Power
rule_of (Button delay) = Power
rule_of Plate = Power
rule_of Weighted = Power
rule_of Torch = Power
rule_of (Repeater delay) = Power
rule_of Lamp = Power
rule_of Trapdoor = Power
rule_of Note = Power
rule_of Wire = Power
rule_of Constant = Power

abbrev pub back_by : BackRule → ℕ → ℕ
back_by Power power = power
back_by (Direct direct) power = direct
back_by (Far far) power = if nat_lt power 15 then far else power

-- the component that a part is, whether it is a diode that faces a diode, and its rule
abbrev pub part_role : Option Part → Option Component
part_role None = None
part_role (Some part) = role_of part.kind

abbrev pub part_first : Option Part → Bool
part_first None = false
part_first (Some part) = part.first

abbrev pub part_rule : Option Part → BackRule
part_rule None = Power
part_rule (Some part) = rule_of part.kind

abbrev pub brief_by : Option Part → Brief
brief_by part = record { role = part_role part; first = part_first part; back = part_rule part }

abbrev pub no_brief : Brief
no_brief = record { role = None; first = false; back = Power }

-- how the parts, what events need of them, the outputs, the counts and the links of the graph are kept
pub record IsWired (g : Nodes) (parts : List (Option Part)) (briefs : List Brief) (outs : List ℕ) (counts : List Counts) (rows : List (List OutLink)) : Type 0 where
  pub kept : (key : ℕ) → slice_index_or parts key None ≡ part_at (node_at g key)
  pub brief : (key : ℕ) → slice_index_or briefs key no_brief ≡ brief_by (part_at (node_at g key))
  pub parts_whole : length parts ≡ length outs
  pub briefs_whole : length briefs ≡ length outs
  pub counts_whole : length counts ≡ length outs
  pub rows_whole : length rows ≡ length outs
  pub small : (key : ℕ) → given outs key < 16
  pub counted : IsCounted g (given outs) counts
  pub turned : IsTurned g rows
  pub few : (key : ℕ) → length (links_at (node_at g key)) < 2 ^ 31
  pub few_keys : length outs ≤ 2 ^ 32

-- the key is among the targets
pub record IsTarget (targets : List ℕ) (key : ℕ) : Type 0 where
  pub index : ℕ
  pub inside : index < length targets
  pub here : slice_index targets index ≡ key

-- each node that has a link from the key is among its targets
abbrev pub AreTargets : Nodes → List ℕ → ℕ → Type 0
AreTargets g targets from = (key : ℕ) → IsTarget targets key ⊎ (links_from from (node_at g key) ≡ 0)

-- the strength is the greatest that is counted, and below 16
pub record IsGreatest (counts : Counts) (group : Group) (strength : ℕ) : Type 0 where
  pub small : strength < 16
  pub some : 0 < strength → 0 < count_at counts group strength
  pub none : (other : ℕ) → strength < other → other < 16 → count_at counts group other ≡ 0

-- the readings of a node by its counts
pub record ReadsBy (brief : Brief) (counts : Counts) (readings : Readings) : Type 0 where
  pub power : ℕ
  pub greatest : IsGreatest counts Back power
  pub back : readings.back ≡ back_by brief.back power
  pub side : IsGreatest counts Side readings.side
