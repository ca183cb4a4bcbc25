-- The block entities of a file.
use Rattle.std.specs.Prelude.{ℕ, ◌==◌, pos, if◌then◌else◌, List, [], ◌∷◌, ◌++◌, Option, Some, None, codes}
use Rattle.std.specs.Option.{option_map}
use Rattle.std.specs.List.{filter_map}
use Rattle.nbt.specs.Plain.{PlainTree, PlainField, PlainFields, no_fields, field, int, ints, text, list, compound, fields_of, trees_of}
use Rattle.block_table.specs.declared.Block.{Block}
use Rattle.block_table.specs.declared.Block.TheVariants.{Comparator, Container}
use Rattle.block_table.specs.StateText.{namespace}
use Rattle.block_table.specs.Table.{name_at}
use Rattle.block_table.specs.Facts.{slots}
use Rattle.circuit.specs.declared.Pos.{Pos}
use Rattle.build.specs.Plan.{Plan, places, block_at, entry}
use Rattle.schem_write.specs.declared.Layout.{Layout}
use Rattle.schem_write.specs.declared.Layout.TheVariants.{Second, Third}
use Rattle.schem_write.specs.Stacks.{items_for, stacks_of, stack_trees}

-- what a block's level is written as: a comparator's output, and a container's items
abbrev pub level_field : Block → ℕ → Option PlainField
level_field (Comparator facing subtract) level = Some (codes "OutputSignal", int (pos level))
level_field (Container name) level = Some (codes "Items", list 10 (trees_of (stack_trees 0 (stacks_of (items_for (slots (Container name)) level)))))
level_field _ level = None

abbrev pub id_of : Block → List ℕ
id_of (Comparator facing subtract) = codes "minecraft:comparator"
id_of (Container name) = namespace ++ name_at name
id_of _ = []

-- In the third layout the further data stand in a compound of their own.
abbrev pub further : Layout → PlainField → PlainFields
further Second said = fields_of (said ∷ [])
further Third said = field (codes "Data") (compound (fields_of (said ∷ []))) no_fields

abbrev pub entity_fields : Layout → Pos → Block → PlainField → PlainFields
entity_fields layout p block said = field (codes "Pos") (ints (p.x ∷ (p.y ∷ (p.z ∷ [])))) (field (codes "Id") (text (id_of block)) (further layout said))

-- the level of a block: 0 where it is no comparator and no container
abbrev pub level_in : Block → ℕ → ℕ
level_in (Comparator facing subtract) level = level
level_in (Container name) level = level
level_in _ level = 0

-- the block entity of a block with a level; a level of 0 needs none
abbrev pub entity_with : Layout → Pos → Block → ℕ → Option PlainTree
entity_with layout p block level =
    if level == 0 then None else option_map (λ (said : PlainField). compound (entity_fields layout p block said)) (level_field block level)

-- the block entity of a place
abbrev pub entity_at : Layout → Plan → Pos → Option PlainTree
entity_at layout b p = entity_with layout p (block_at b p) (level_in (block_at b p) (entry b b.levels 0 p))

-- the block entities of a build, in order of places
unfoldable pub entities_of : Layout → Plan → PlainTree
entities_of layout b = list 10 (trees_of (filter_map (entity_at layout b) (places b)))
