-- What a node reads by its links.
use Rattle.std.specs.Prelude.{ℕ, ◌-◌, max, List, [], ◌∷◌, Option, Some, None, if◌then◌else◌, nat_lt}
use Rattle.circuit.specs.declared.Readings.{Readings}
use Rattle.graph.specs.declared.Kind.{Kind}
use Rattle.graph.specs.declared.Kind.TheVariants.{Lever, Button, Plate, Weighted, Torch, Repeater, Comparator, Lamp, Trapdoor, Note, Wire, Constant}
use Rattle.graph.specs.declared.Group.{Group}
use Rattle.graph.specs.declared.Group.TheVariants.{Back, Side}
use Rattle.graph.specs.declared.Link.{Link}
use Rattle.graph.specs.Graph.{Node}
use Rattle.graph.specs.Links.{of_group}

-- what a link brings to the reading of a group, where each node gives so much
abbrev pub share : (ℕ → ℕ) → Group → Link → ℕ
share given group link = if of_group group link then given link.from - link.weight else 0

-- the greatest that the links of the group bring, 0 where there is none
abbrev pub reading : (ℕ → ℕ) → Group → List Link → ℕ
reading given group [] = 0
reading given group (link ∷ links) = max (share given group link) (reading given group links)

-- a strength beyond the block counts where the power is below 15
abbrev pub far_back : Option ℕ → ℕ → ℕ
far_back None power = power
far_back (Some far) power = if nat_lt power 15 then far else power

-- and a strength of the block itself always
abbrev pub direct_back : Option ℕ → ℕ → ℕ
direct_back None power = power
direct_back (Some direct) power = direct

-- the back reading of a node whose Back links bring so much
abbrev pub back_of : Kind → ℕ → ℕ
back_of (Comparator subtract direct far) power = direct_back direct (far_back far power)
back_of Lever power = power
back_of (Button delay) power = power
back_of Plate power = power
back_of Weighted power = power
back_of Torch power = power
back_of (Repeater delay) power = power
back_of Lamp power = power
back_of Trapdoor power = power
back_of Note power = power
back_of Wire power = power
back_of Constant power = power

-- both readings of a node
abbrev pub readings_of : (ℕ → ℕ) → Node → Readings
readings_of given node = record { back = back_of node.kind (reading given Back node.links); side = reading given Side node.links }
