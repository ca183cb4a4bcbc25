-- The links into the nodes of a build, by places: from what a reader taps, at its distance.
use Rattle.std.specs.Prelude.{ℕ, zero, suc, Bool, true, false, not, ◌&&◌, if◌then◌else◌, List, [], ◌∷◌, ◌++◌, map, filter, is_some}
use Rattle.std.specs.List.{flat_map, list_any}
use Rattle.block_table.specs.declared.Side.TheVariants.{Down}
use Rattle.block_table.specs.declared.Block.{Block}
use Rattle.block_table.specs.declared.Block.TheVariants.{Air, Inert, Slab, Wire, Torch, WallTorch, Repeater, Comparator, Lever, Button, Plate, RedstoneBlock, Lamp, Trapdoor, Container, Composter, Cauldron, Cake, Weighted, Note}
use Rattle.block_table.specs.Facts.{opposite}
use Rattle.circuit.specs.declared.Pos.{Pos}
use Rattle.build.specs.Place.{sides, same_place}
use Rattle.build.specs.Plan.{Plan, places}
use Rattle.build.specs.Roles.{direct_at}
use Rattle.wire_shape.specs.Shape.{across}
use Rattle.wire_shape.specs.Feeders.{feeders}
pub use Rattle.input_search.specs.declared.search.Origin.{Origin as From}
use Rattle.wiring.specs.declared.Tap.{Tap}
use Rattle.wiring.specs.declared.Tap.TheVariants.{Direct, Wired}
use Rattle.wiring.specs.Taps.{back_taps, side_taps}
pub use Rattle.wiring.specs.Reads.{direct_of, direct_places}

abbrev pub at_weight : ℕ → Pos → From
at_weight n p = record { place = p; weight = n }

abbrev pub among : List Pos → Pos → Bool
among ps p = list_any (same_place p) ps

-- the feeders of these wires, in order of places
abbrev pub fed : Plan → List Pos → List Pos
fed b wires = filter (among (flat_map (feeders b) wires)) (places b)

-- the wires that w reaches in exactly n steps along feeders
unfoldable pub wires_in : Plan → Pos → ℕ → List Pos
wires_in b w zero = w ∷ []
wires_in b w (suc n) = fed b (wires_in b w n)

-- what a wire in exactly n steps reads without dust
abbrev pub sources_in : Plan → Pos → ℕ → List Pos
sources_in b w n = flat_map (direct_places b) (wires_in b w n)

-- the links of one more distance: from the sources there that have no link yet, in order of places
abbrev pub with_distance : Plan → ℕ → List Pos → List From → List From
with_distance b n sources links =
    links ++ map (at_weight n) (filter (λ s. among sources s && not (among (map (λ l. l.place) links) s)) (places b))

-- the links of the wire tap w from what is nearer than n steps
unfoldable pub links_below : Plan → Pos → ℕ → List From
links_below b w zero = []
links_below b w (suc n) = with_distance b n (sources_in b w n) (links_below b w n)

-- the links of the wire tap w: from what is at most 15 steps away, by distance and then by place
unfoldable pub wire_links : Plan → Pos → List From
wire_links b w = links_below b w 16

abbrev pub tap_links : Plan → Tap → List From
tap_links b (Direct p) = at_weight 0 p ∷ []
tap_links b (Wired w) = wire_links b w

abbrev pub through : Plan → List Tap → List From
through b taps = flat_map (tap_links b) taps

-- The Back links of what stands at p. A comparator with a strength in its input block has none, and a marked wire is its own tap.
abbrev pub back_links_of : Plan → Pos → Block → List From
back_links_of b p (Torch lit) = through b (back_taps b false p Down)
back_links_of b p (WallTorch facing lit) = through b (back_taps b false p (opposite facing))
back_links_of b p (Lamp lit) = through b (flat_map (back_taps b false p) sides)
back_links_of b p (Trapdoor facing top powered) = through b (flat_map (back_taps b false p) sides)
back_links_of b p (Note powered) = through b (flat_map (back_taps b false p) sides)
back_links_of b p (Repeater delay facing powered) = through b (back_taps b true p facing)
back_links_of b p (Comparator facing subtract) = if is_some (direct_at b p facing) then [] else through b (back_taps b true p facing)
back_links_of b p (Wire north east south west power) = through b (Wired p ∷ [])
back_links_of b p Air = []
back_links_of b p (Inert name) = []
back_links_of b p (Slab name half) = []
back_links_of b p (Lever face facing powered) = []
back_links_of b p (Button name face facing powered) = []
back_links_of b p (Plate name powered) = []
back_links_of b p RedstoneBlock = []
back_links_of b p (Container name) = []
back_links_of b p (Composter filled) = []
back_links_of b p (Cauldron water filled) = []
back_links_of b p (Cake bites) = []
back_links_of b p (Weighted name power) = []

-- its Side links
abbrev pub side_links_of : Plan → Pos → Block → List From
side_links_of b p (Repeater delay facing powered) = through b (flat_map (side_taps b false p) (across facing))
side_links_of b p (Comparator facing subtract) = through b (flat_map (side_taps b true p) (across facing))
side_links_of b p Air = []
side_links_of b p (Inert name) = []
side_links_of b p (Slab name half) = []
side_links_of b p (Wire north east south west power) = []
side_links_of b p (Torch lit) = []
side_links_of b p (WallTorch facing lit) = []
side_links_of b p (Lever face facing powered) = []
side_links_of b p (Button name face facing powered) = []
side_links_of b p (Plate name powered) = []
side_links_of b p RedstoneBlock = []
side_links_of b p (Lamp lit) = []
side_links_of b p (Trapdoor facing top powered) = []
side_links_of b p (Container name) = []
side_links_of b p (Composter filled) = []
side_links_of b p (Cauldron water filled) = []
side_links_of b p (Cake bites) = []
side_links_of b p (Weighted name power) = []
side_links_of b p (Note powered) = []
