-- The text of a graph. Numbers are plain decimal, and each line ends with LF.
use Rattle.std.specs.Prelude.{ℕ, suc, Bool, true, false, List, [], ◌∷◌, ◌++◌, Option, Some, None, codes, decimal, ◌==◌, if◌then◌else◌}
use Rattle.std.specs.List.{flat_map}
use Rattle.std.specs.Fmt.{signed_decimal}
use Rattle.circuit.specs.declared.Pos.{Pos}
use Rattle.graph.specs.declared.Kind.{Kind}
use Rattle.graph.specs.declared.Kind.TheVariants.{Lever, Button, Plate, Weighted, Torch, Repeater, Comparator, Lamp, Trapdoor, Note, Wire, Constant}
use Rattle.graph.specs.declared.Group.{Group}
use Rattle.graph.specs.declared.Group.TheVariants.{Back, Side}
use Rattle.graph.specs.declared.Link.{Link}
use Rattle.graph.specs.Graph.{Node, Nodes, node_count, link_count}

abbrev pub kind_text : Kind → List ℕ
kind_text Lever = codes "lever"
kind_text (Button delay) = codes "button"
kind_text Plate = codes "plate"
kind_text Weighted = codes "weighted"
kind_text Torch = codes "torch"
kind_text (Repeater delay) = codes "repeater"
kind_text (Comparator subtract direct far) = codes "comparator"
kind_text Lamp = codes "lamp"
kind_text Trapdoor = codes "trapdoor"
kind_text Note = codes "note"
kind_text Wire = codes "wire"
kind_text Constant = codes "constant"

abbrev pub mode_text : Bool → List ℕ
mode_text false = codes " compare"
mode_text true = codes " subtract"

-- the strength that a comparator reads, of the block behind it or of the one beyond
abbrev pub strength_text : Option ℕ → Option ℕ → List ℕ
strength_text (Some direct) far = codes " direct " ++ decimal direct
strength_text None (Some far) = codes " far " ++ decimal far
strength_text None None = []

-- what a kind adds
abbrev pub detail_text : Kind → List ℕ
detail_text (Button delay) = codes " delay " ++ decimal delay
detail_text (Repeater delay) = codes " delay " ++ decimal delay
detail_text (Comparator subtract direct far) = mode_text subtract ++ strength_text direct far
detail_text Lever = []
detail_text Plate = []
detail_text Weighted = []
detail_text Torch = []
detail_text Lamp = []
detail_text Trapdoor = []
detail_text Note = []
detail_text Wire = []
detail_text Constant = []

abbrev pub first_text : Bool → List ℕ
first_text false = []
first_text true = codes " first"

-- a pending tick
abbrev pub tick_text : ℕ → ℕ → List ℕ
tick_text due priority = if due == 0 then [] else codes " due " ++ decimal due ++ codes " priority " ++ decimal priority

abbrev pub place_text : Pos → List ℕ
place_text place = signed_decimal place.x ++ codes " " ++ signed_decimal place.y ++ codes " " ++ signed_decimal place.z

abbrev pub node_line : ℕ → Node → List ℕ
node_line key node = codes "node " ++ decimal key ++ codes " " ++ kind_text node.kind ++ codes " " ++ place_text node.pos ++ codes " " ++ decimal node.state
    ++ detail_text node.kind ++ first_text node.first ++ tick_text node.due node.priority ++ codes "\n"

abbrev pub group_text : Group → List ℕ
group_text Back = codes " back "
group_text Side = codes " side "

abbrev pub link_line : ℕ → Link → List ℕ
link_line to link = codes "link " ++ decimal link.from ++ codes " " ++ decimal to ++ group_text link.group ++ decimal link.weight ++ codes "\n"

-- a line for each link into the node
abbrev pub link_lines : ℕ → Node → List ℕ
link_lines to node = flat_map (link_line to) node.links

abbrev pub entry_text : (ℕ → Node → List ℕ) → ℕ → Option Node → List ℕ
entry_text text key None = []
entry_text text key (Some node) = text key node

-- what is written of each node by rising number, where these entries stand from this key on
abbrev pub texts_from : (ℕ → Node → List ℕ) → ℕ → Nodes → List ℕ
texts_from text key [] = []
texts_from text key (entry ∷ entries) = entry_text text key entry ++ texts_from text (suc key) entries

abbrev pub graph_line : ℕ → ℕ → List ℕ
graph_line nodes links = codes "graph " ++ decimal nodes ++ codes " " ++ decimal links ++ codes "\n"

-- the nodes, and then the links by target and in the target's order
abbrev pub graph_text : Nodes → List ℕ
graph_text g = graph_line (node_count g) (link_count g) ++ texts_from node_line 0 g ++ texts_from link_lines 0 g
