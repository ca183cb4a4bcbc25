-- The file that is written for a build, in each of the two layouts.
use Rattle.std.specs.Prelude.{ℕ, ℤ, pos, List, [], ◌∷◌, ◌++◌, codes}
use Rattle.std.specs.List.{flat_map}
use Rattle.std.specs.Int.{cast_signed, w16}
use Rattle.nbt.specs.Plain.{PlainTree, PlainField, PlainRoot, fields_of, short, int, ints, bytes, compound}
use Rattle.nbt.specs.Spelling.{spelling}
use Rattle.build.specs.declared.Pending.{Pending}
use Rattle.build.specs.Plan.{Plan}
use Rattle.schem_write.specs.declared.Layout.{Layout}
use Rattle.schem_write.specs.declared.Layout.TheVariants.{Second, Third}
use Rattle.schem_write.specs.PaletteTexts.{palette_of, cells_of, numbered_from}
use Rattle.schem_write.specs.BlockEntities.{entities_of}

-- a size as a Short, which is read as unsigned
abbrev pub size : ℕ → PlainTree
size n = short (cast_signed w16 n)

-- what stands first in the main compound
abbrev pub head : ℤ → Plan → List PlainField
head version b =
    (codes "Version", int version)
    ∷ (codes "DataVersion", int b.data_version)
    ∷ (codes "Width", size b.width)
    ∷ (codes "Height", size b.height)
    ∷ (codes "Length", size b.depth)
    ∷ []

-- the palette, the cells under their name, and the block entities
abbrev pub body : Layout → List ℕ → Plan → List PlainField
body layout cells_name b =
    (codes "Palette", compound (fields_of (numbered_from 0 (palette_of b.blocks))))
    ∷ (cells_name, bytes (cells_of b.blocks))
    ∷ (codes "BlockEntities", entities_of layout b)
    ∷ []

-- a pending tick as five numbers
abbrev pub tick_numbers : Pending → List ℤ
tick_numbers tick = tick.pos.x ∷ tick.pos.y ∷ tick.pos.z ∷ pos tick.due ∷ pos tick.priority ∷ []

-- It stands there only where ticks are pending.
abbrev pub metadata : List Pending → List PlainField
metadata [] = []
metadata (tick ∷ ticks) = (codes "Metadata", compound (fields_of ((codes "RedpilePending", ints (flat_map tick_numbers (tick ∷ ticks))) ∷ []))) ∷ []

-- a root of this name with these fields
abbrev pub root_with : List ℕ → List PlainField → PlainRoot
root_with name fields = record { name = name; fields = fields_of fields }

unfoldable pub root_of : Plan → PlainRoot
root_of b = root_with (codes "Schematic") (head (pos 2) b ++ (body Second (codes "BlockData") b ++ metadata b.pending))

-- the compound of the third layout
abbrev pub main_of : Plan → List PlainField
main_of b = head (pos 3) b ++ ((codes "Blocks", compound (fields_of (body Third (codes "Data") b))) ∷ metadata b.pending)

unfoldable pub root3_of : Plan → PlainRoot
root3_of b = root_with [] ((codes "Schematic", compound (fields_of (main_of b))) ∷ [])

unfoldable pub written : Plan → List ℕ
written b = spelling (root_of b)

unfoldable pub written3 : Plan → List ℕ
written3 b = spelling (root3_of b)
