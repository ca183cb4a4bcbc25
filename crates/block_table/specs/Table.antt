-- The names of blocks, in the order of their numbers, and what each name means.
use Rattle.std.specs.Prelude.{ℕ, true, false, List, [], ◌∷◌, ◌++◌, map, position, slice_get, Option, codes}
use Rattle.std.specs.Borrow.{Bor}
use Rattle.std.specs.Option.{option_map, option_map_or}
use Rattle.std.specs.Str.{bytes_eq}
use Rattle.block_table.specs.declared.names.Kind.{Kind}
use Rattle.block_table.specs.declared.names.Kind.TheVariants.{Air as AirName, Wire as WireName, Torch as TorchName, WallTorch as WallTorchName, Repeater as RepeaterName, Comparator as ComparatorName, Lever as LeverName, Button as ButtonName, Plate as PlateName, RedstoneBlock as RedstoneBlockName, Lamp as LampName, Trapdoor as TrapdoorName, Container as ContainerName, Composter as ComposterName, Cauldron as CauldronName, Cake as CakeName, Inert as InertName, Slab as SlabName, Weighted as WeightedName, Note as NoteName}

pub record Row : Type 0 where
  pub name : List ℕ
  pub kind : Kind

abbrev pub woods : List (List ℕ)
woods = codes "oak" ∷ codes "spruce" ∷ codes "birch" ∷ codes "jungle" ∷ codes "acacia" ∷ codes "dark_oak" ∷ codes "crimson" ∷ codes "warped" ∷ []

abbrev pub colours : List (List ℕ)
colours = codes "white" ∷ codes "orange" ∷ codes "magenta" ∷ codes "light_blue" ∷ codes "yellow" ∷ codes "lime" ∷ codes "pink" ∷ codes "gray" ∷ codes "light_gray" ∷ codes "cyan" ∷ codes "purple" ∷ codes "blue" ∷ codes "brown" ∷ codes "green" ∷ codes "red" ∷ codes "black" ∷ []

-- each word with the same end
abbrev pub ended : List (List ℕ) → List ℕ → List (List ℕ)
ended words end = map (λ word. word ++ end) words

-- names that mean the same
abbrev pub rows : Kind → List (List ℕ) → List Row
rows kind names = map (λ name. record { name = name; kind = kind }) names

-- A name's number is its place in this list. `note_block` has the place that no block's number names.
unfoldable pub table : List Row
table =
    rows AirName (codes "air" ∷ codes "cave_air" ∷ codes "void_air" ∷ [])
    ++ (rows WireName (codes "redstone_wire" ∷ []))
    ++ (rows TorchName (codes "redstone_torch" ∷ []))
    ++ (rows WallTorchName (codes "redstone_wall_torch" ∷ []))
    ++ (rows RepeaterName (codes "repeater" ∷ []))
    ++ (rows ComparatorName (codes "comparator" ∷ []))
    ++ (rows LeverName (codes "lever" ∷ []))
    ++ (rows ButtonName (codes "stone_button" ∷ codes "polished_blackstone_button" ∷ []))
    ++ (rows PlateName (codes "stone_pressure_plate" ∷ codes "polished_blackstone_pressure_plate" ∷ []))
    ++ (rows PlateName (ended woods (codes "_pressure_plate")))
    ++ (rows RedstoneBlockName (codes "redstone_block" ∷ []))
    ++ (rows LampName (codes "redstone_lamp" ∷ []))
    ++ (rows TrapdoorName (codes "iron_trapdoor" ∷ []))
    ++ (rows (ContainerName 27 true) (codes "barrel" ∷ []))
    ++ (rows (ContainerName 9 true) (codes "dispenser" ∷ codes "dropper" ∷ []))
    ++ (rows (ContainerName 3 true) (codes "furnace" ∷ codes "blast_furnace" ∷ codes "smoker" ∷ []))
    ++ (rows (ContainerName 27 false) (codes "chest" ∷ []))
    ++ (rows (ContainerName 5 false) (codes "hopper" ∷ []))
    ++ (rows ComposterName (codes "composter" ∷ []))
    ++ (rows (CauldronName false) (codes "cauldron" ∷ []))
    ++ (rows (CauldronName true) (codes "water_cauldron" ∷ []))
    ++ (rows CakeName (codes "cake" ∷ []))
    ++ (rows (InertName true) (codes "stone" ∷ codes "granite" ∷ codes "polished_granite" ∷ codes "diorite" ∷ codes "polished_diorite" ∷ codes "andesite" ∷ codes "polished_andesite" ∷ codes "cobblestone" ∷ codes "mossy_cobblestone" ∷ codes "stone_bricks" ∷ codes "smooth_stone" ∷ codes "bricks" ∷ codes "sandstone" ∷ codes "smooth_sandstone" ∷ codes "red_sandstone" ∷ codes "dirt" ∷ codes "coarse_dirt" ∷ codes "grass_block" ∷ codes "podzol" ∷ codes "sand" ∷ codes "gravel" ∷ codes "clay" ∷ codes "obsidian" ∷ codes "bedrock" ∷ codes "netherrack" ∷ codes "nether_bricks" ∷ codes "end_stone" ∷ codes "end_stone_bricks" ∷ codes "quartz_block" ∷ codes "smooth_quartz" ∷ codes "quartz_bricks" ∷ codes "quartz_pillar" ∷ codes "purpur_block" ∷ codes "prismarine" ∷ codes "dark_prismarine" ∷ codes "bookshelf" ∷ codes "crafting_table" ∷ codes "iron_block" ∷ codes "gold_block" ∷ codes "diamond_block" ∷ codes "emerald_block" ∷ codes "lapis_block" ∷ codes "coal_block" ∷ codes "snow_block" ∷ codes "hay_block" ∷ codes "melon" ∷ codes "pumpkin" ∷ codes "bone_block" ∷ codes "blackstone" ∷ codes "polished_blackstone" ∷ []))
    ++ (rows NoteName (codes "note_block" ∷ []))
    ++ (rows (InertName true) (codes "terracotta" ∷ []))
    ++ (rows (InertName true) (ended woods (codes "_planks")))
    ++ (rows (InertName true) (codes "oak_log" ∷ codes "spruce_log" ∷ codes "birch_log" ∷ codes "jungle_log" ∷ codes "acacia_log" ∷ codes "dark_oak_log" ∷ []))
    ++ (rows (InertName true) (ended colours (codes "_wool")))
    ++ (rows (InertName true) (ended colours (codes "_concrete")))
    ++ (rows (InertName true) (ended colours (codes "_concrete_powder")))
    ++ (rows (InertName true) (ended colours (codes "_terracotta")))
    ++ (rows (InertName true) (ended colours (codes "_glazed_terracotta")))
    ++ (rows (InertName false) (codes "glass" ∷ codes "glass_pane" ∷ []))
    ++ (rows (InertName false) (ended colours (codes "_stained_glass")))
    ++ (rows (InertName false) (ended colours (codes "_stained_glass_pane")))
    ++ (rows (InertName false) (ended colours (codes "_carpet")))
    ++ (rows (InertName false) (codes "glowstone" ∷ codes "sea_lantern" ∷ codes "ice" ∷ codes "oak_leaves" ∷ codes "spruce_leaves" ∷ codes "birch_leaves" ∷ codes "jungle_leaves" ∷ codes "acacia_leaves" ∷ codes "dark_oak_leaves" ∷ codes "torch" ∷ codes "wall_torch" ∷ codes "ladder" ∷ codes "scaffolding" ∷ codes "iron_bars" ∷ []))
    ++ (rows (InertName false) (ended woods (codes "_sign")))
    ++ (rows (InertName false) (ended woods (codes "_wall_sign")))
    ++ (rows (InertName false) (ended woods (codes "_fence")))
    ++ (rows (InertName false) (ended woods (codes "_stairs")))
    ++ (rows (InertName false) (codes "stone_stairs" ∷ codes "cobblestone_stairs" ∷ codes "stone_brick_stairs" ∷ codes "quartz_stairs" ∷ []))
    ++ (rows SlabName (codes "stone_slab" ∷ codes "smooth_stone_slab" ∷ codes "cobblestone_slab" ∷ codes "stone_brick_slab" ∷ codes "brick_slab" ∷ codes "sandstone_slab" ∷ codes "quartz_slab" ∷ codes "smooth_quartz_slab" ∷ []))
    ++ (rows SlabName (ended woods (codes "_slab")))
    ++ (rows ButtonName (ended woods (codes "_button")))
    ++ (rows WeightedName (codes "light_weighted_pressure_plate" ∷ codes "heavy_weighted_pressure_plate" ∷ []))

-- the place of a name
abbrev pub place_named : List ℕ → List Row → Option ℕ
place_named name rows = position (λ row. bytes_eq row.name name) rows

-- the number of a name
unfoldable pub number_of : List ℕ → Option ℕ
number_of name = place_named name table

abbrev pub kind_in : ℕ → List Row → Option Kind
kind_in place rows = option_map (λ row. row.kind) (slice_get rows place)

-- what the name of a number means
unfoldable pub kind_at : ℕ → Option Kind
kind_at n = kind_in n table

-- the name in a place, and an empty text where there is none
abbrev pub name_in : ℕ → List Row → List ℕ
name_in place rows = option_map_or (λ row. row.name) (slice_get rows place) []

-- the name of a number
unfoldable pub name_at : ℕ → List ℕ
name_at n = name_in n table

-- rows as the program keeps them
abbrev pub rows_of : List (Bor (List ℕ) × Kind) → List Row
rows_of rows = map (λ row. record { name = row.0.now; kind = row.1 }) rows
