-- Worked examples, computed: the links of small raw graphs.
use Rattle.std.specs.Prelude.{◌≡◌, refl, ℕ, false, pos, List, [], ◌∷◌, map, Option, Some, None}
use Rattle.block_table.specs.declared.Block.{Block}
use Rattle.block_table.specs.declared.Block.TheVariants.{Air, Inert, Wire, Repeater, Comparator, Lever, Lamp}
use Rattle.block_table.specs.declared.Side.TheVariants.{North, West}
use Rattle.block_table.specs.declared.Face.TheVariants.{Floor}
use Rattle.block_table.specs.declared.WireSide.TheVariants.{Absent}
use Rattle.block_table.specs.Table.{table, kind_at}
use Rattle.circuit.specs.declared.Pos.{Pos}
use Rattle.build.specs.Plan.{Plan, in_box, entry}
use Rattle.wire_shape.specs.Shape.{connection, points}
use Rattle.wire_shape.specs.Feeders.{fed_from_below, fed_from_beside, fed_from_above, feeders}
use Rattle.graph.specs.declared.Group.TheVariants.{Back, Side as Lateral}
use Rattle.graph.specs.declared.Link.{Link}
use Rattle.graph.specs.Graph.{Node}
use Rattle.graph.specs.RawNodes.{has_node, node_places}
use Rattle.wiring.specs.Taps.{back_taps, side_taps}
use Rattle.input_search.specs.Links.{wires_in, links_below, wire_links}
use Rattle.input_search.specs.Raw.{links_of, raw}

abbrev at : ℕ → ℕ → ℕ → Pos
at x y z = record { x = pos x; y = pos y; z = pos z }

abbrev wire : Block
wire = Wire Absent Absent Absent Absent 0

abbrev stone : Block
stone = Inert 36

abbrev glass : Block
glass = Inert 182

abbrev zeros : List Block → List ℕ
zeros [] = []
zeros (block ∷ blocks) = 0 ∷ zeros blocks

abbrev box : ℕ → ℕ → ℕ → List Block → Plan
box width height depth blocks = record { width = width; height = height; depth = depth; blocks = blocks; levels = zeros blocks; pending = []; data_version = pos 0 }

abbrev back : ℕ → ℕ → Link
back from weight = record { from = from; group = Back; weight = weight }

abbrev side : ℕ → ℕ → Link
side from weight = record { from = from; group = Lateral; weight = weight }

abbrev links_into : Option Node → List Link
links_into None = []
links_into (Some node) = node.links

-- the links into each node
abbrev links_in : Plan → List Pos → List (List Link)
links_in b marks = map links_into (raw b marks)

-- no more than 15 steps are looked at
wire_length : links_in (box 18 2 1 (stone ∷ stone ∷ stone ∷ stone ∷ stone ∷ stone ∷ stone ∷ stone ∷ stone ∷ stone ∷ stone ∷ stone ∷ stone ∷ stone ∷ stone ∷ stone ∷ stone ∷ stone ∷ Lever Floor North false ∷ wire ∷ wire ∷ wire ∷ wire ∷ wire ∷ wire ∷ wire ∷ wire ∷ wire ∷ wire ∷ wire ∷ wire ∷ wire ∷ wire ∷ wire ∷ wire ∷ wire ∷ [])) (at 15 1 0 ∷ at 16 1 0 ∷ at 17 1 0 ∷ [])
    ≡ [] ∷ (back 0 14 ∷ []) ∷ (back 0 15 ∷ []) ∷ [] ∷ []
unfolding table kind_at in_box entry connection points fed_from_below fed_from_beside fed_from_above feeders has_node node_places back_taps side_taps wires_in links_below wire_links links_of raw
wire_length = refl

-- power goes up over glass and not down, and the nearer lever comes first
power_goes_up_over_glass : links_in (box 4 3 1 (stone ∷ stone ∷ stone ∷ stone ∷ Lever Floor North false ∷ wire ∷ glass ∷ stone ∷ Air ∷ Air ∷ wire ∷ Lever Floor North false ∷ [])) (at 1 1 0 ∷ at 2 2 0 ∷ [])
    ≡ [] ∷ (back 0 0 ∷ []) ∷ (back 3 0 ∷ back 0 1 ∷ []) ∷ [] ∷ []
unfolding table kind_at in_box entry connection points fed_from_below fed_from_beside fed_from_above feeders has_node node_places back_taps side_taps wires_in links_below wire_links links_of raw
power_goes_up_over_glass = refl

-- two wires into one block, each with its distance
two_ways_into_one_block : links_in (box 7 3 1 (stone ∷ stone ∷ stone ∷ stone ∷ stone ∷ stone ∷ stone ∷ Lever Floor North false ∷ wire ∷ wire ∷ wire ∷ stone ∷ Comparator West false ∷ Lamp false ∷ Air ∷ Air ∷ Air ∷ Air ∷ wire ∷ Air ∷ Air ∷ [])) []
    ≡ [] ∷ (back 0 3 ∷ back 0 2 ∷ []) ∷ (back 1 0 ∷ []) ∷ []
unfolding table kind_at in_box entry connection points fed_from_below fed_from_beside fed_from_above feeders has_node node_places back_taps side_taps wires_in links_below wire_links links_of raw
two_ways_into_one_block = refl

-- a repeater is locked by another one, and reads no wire at its sides
back_and_lock : links_in (box 4 2 3 (stone ∷ stone ∷ stone ∷ stone ∷ stone ∷ stone ∷ stone ∷ stone ∷ stone ∷ stone ∷ stone ∷ stone ∷ Lever Floor North false ∷ wire ∷ wire ∷ Air ∷ wire ∷ Air ∷ Repeater 1 North false ∷ Air ∷ wire ∷ Repeater 1 West false ∷ Repeater 1 West false ∷ Lamp false ∷ [])) []
    ≡ [] ∷ (back 0 1 ∷ []) ∷ (back 0 1 ∷ []) ∷ (back 2 0 ∷ side 1 0 ∷ []) ∷ (back 3 0 ∷ []) ∷ []
unfolding table kind_at in_box entry connection points fed_from_below fed_from_beside fed_from_above feeders has_node node_places back_taps side_taps wires_in links_below wire_links links_of raw
back_and_lock = refl
