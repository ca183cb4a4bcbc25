-- The items that give a container its strength.
use Rattle.std.specs.Prelude.{ℕ, ◌+◌, ◌-◌, ◌*◌, ◌/◌, ◌%◌, ◌==◌, max, pos, if◌then◌else◌, List, [], ◌∷◌, ◌++◌, replicate, codes}
use Rattle.nbt.specs.Plain.{PlainTree, no_fields, field, byte, text, compound}

-- how many items give this strength to a container of so many slots: the fewest that do, of those that stack to 64
abbrev pub items_for : ℕ → ℕ → ℕ
items_for slots strength = max 1 (((strength - 1) * 64 * slots + 13) / 14)

-- whole stacks of 64, and one stack of the rest where there is one
unfoldable pub stacks_of : ℕ → List ℕ
stacks_of items = replicate (items / 64) 64 ++ (if items % 64 == 0 then [] else items % 64 ∷ [])

-- a stack of stone in a slot
abbrev pub stack_tree : ℕ → ℕ → PlainTree
stack_tree slot count = compound (field (codes "Slot") (byte (pos slot)) (field (codes "id") (text (codes "minecraft:stone")) (field (codes "Count") (byte (pos count)) no_fields)))

-- the stacks in their slots, counted from this one
abbrev pub stack_trees : ℕ → List ℕ → List PlainTree
stack_trees slot [] = []
stack_trees slot (count ∷ counts) = stack_tree slot count ∷ stack_trees (slot + 1) counts
