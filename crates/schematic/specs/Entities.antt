-- Block entities: the outputs of comparators and the items of containers.
use Rattle.std.specs.Prelude.{ℕ, ℤ, pos, Bool, not, ◌&&◌, ◌==◌, int_lt, int_le, if◌then◌else◌, List, [], ◌∷◌, map, find, Option, Some, None, codes}
use Rattle.std.specs.Option.{option_map}
use Rattle.std.specs.List.{filter_map}
use Rattle.nbt.specs.Plain.{PlainTree, PlainTrees, PlainFields, no_trees, tree, byte, short, int, text, ints, list}
use Rattle.nbt.specs.Named.{last_named}
use Rattle.block_table.specs.declared.Block.{Block}
use Rattle.block_table.specs.declared.Block.TheVariants.{Comparator, Container}
use Rattle.block_table.specs.Facts.{slots}
use Rattle.item_table.specs.declared.ItemCount.{ItemCount}
use Rattle.item_table.specs.Stacks.{stack_size_of}
use Rattle.item_table.specs.Strength.{strength_of}
use Rattle.circuit.specs.declared.Pos.{Pos}
use Rattle.build.specs.Place.{same_place}
use Rattle.build.specs.Plan.{Plan, places, block_at, has_level, natural}
use Rattle.build.specs.Edits.{is_comparator, with_level}
use Rattle.schematic.specs.Fields.{fields_in, int_in, is_third, holder}
use Rattle.schematic.specs.Palette.{last_ones}

-- a block entity: its place, and its further data
pub record Entity : Type 0 where
  pub pos : Pos
  pub further : PlainFields

abbrev pub trees_in : PlainTrees → List PlainTree
trees_in no_trees = []
trees_in (tree t ts) = t ∷ trees_in ts

-- the trees of a list of compounds; another tree, or none, has none
abbrev pub items_in : Option PlainTree → List PlainTree
items_in (Some (list element ts)) = if element == 10 then trees_in ts else []
items_in _ = []

-- three numbers are a place
abbrev pub place_in : Option PlainTree → Option Pos
place_in (Some (ints (x ∷ (y ∷ (z ∷ []))))) = Some (record { x = x; y = y; z = z })
place_in _ = None

abbrev pub entity_at : PlainFields → Option Pos → Option Entity
entity_at further (Some p) = Some (record { pos = p; further = further })
entity_at further None = None

-- An entry with a place is a block entity. In the third layout its further data are in a compound of their own.
abbrev pub entity_of : Bool → PlainFields → Option Entity
entity_of third fs = entity_at (if third then fields_in (last_named (codes "Data") fs) else fs) (place_in (last_named (codes "Pos") fs))

-- the block entities of a file, in the order of their list
unfoldable pub entities_of : PlainFields → List Entity
entities_of root = filter_map (λ t. entity_of (is_third root) (fields_in (Some t))) (items_in (last_named (codes "BlockEntities") (holder root)))

abbrev pub same_entity_place : Entity → Entity → Bool
same_entity_place a b = same_place a.pos b.pos

-- those that count: of two at one place the last
unfoldable pub counting : PlainFields → List Entity
counting root = last_ones same_entity_place (entities_of root)

-- the stored output of a comparator, 0 where there is none
unfoldable pub signal : PlainFields → ℤ
signal further = int_in (last_named (codes "OutputSignal") further)

-- 0 to 15
abbrev pub is_level : ℤ → Bool
is_level number = int_le (pos 0) number && int_le number (pos 15)

abbrev pub level_in : ℤ → ℕ
level_in number = if is_level number then natural number else 0

-- The name and the number of an item. `Count` is looked at before `count`.

abbrev pub text_in : Option PlainTree → Option (List ℕ)
text_in (Some (text name)) = Some name
text_in _ = None

abbrev pub amount_in : Option PlainTree → Option ℤ
amount_in (Some (byte n)) = Some n
amount_in (Some (short n)) = Some n
amount_in (Some (int n)) = Some n
amount_in _ = None

abbrev pub or_else : Option PlainTree → Option PlainTree → Option PlainTree
or_else (Some t) other = Some t
or_else None other = other

abbrev pub amount_of : PlainFields → Option ℤ
amount_of fs = amount_in (or_else (last_named (codes "Count") fs) (last_named (codes "count") fs))

-- An item without a name or a number counts nothing, and so does a number below 1.
abbrev pub item_with : Option (List ℕ) → Option ℤ → Option ItemCount
item_with (Some name) (Some amount) = if int_lt amount (pos 1) then None else Some (record { count = natural amount; size = stack_size_of name })
item_with _ _ = None

unfoldable pub item_of : PlainFields → Option ItemCount
item_of fs = item_with (text_in (last_named (codes "id") fs)) (amount_of fs)

unfoldable pub items_of : PlainFields → List ItemCount
items_of further = filter_map (λ t. item_of (fields_in (Some t))) (items_in (last_named (codes "Items") further))

-- the level that further data give to a block
abbrev pub level_by : Block → PlainFields → ℕ
level_by (Comparator facing subtract) further = level_in (signal further)
level_by (Container name) further = strength_of (slots (Container name)) (items_of further)
level_by _ further = 0

abbrev pub level_with : Block → Option Entity → ℕ
level_with block (Some e) = level_by block e.further
level_with block None = 0

-- the level that stands at a place, by the entities that count
abbrev pub level_at : Plan → List Entity → Pos → ℕ
level_at b entities p = level_with (block_at b p) (find (λ (e : Entity). same_place e.pos p) entities)

-- a comparator's output that is none
abbrev pub is_wrong_signal : Plan → Entity → Bool
is_wrong_signal b e = is_comparator (block_at b e.pos) && not (is_level (signal e.further))

-- the place of the first entity that counts and has one
abbrev pub signal_fault : Plan → List Entity → Option Pos
signal_fault b entities = option_map (λ (e : Entity). e.pos) (find (is_wrong_signal b) entities)

-- the build with the level that an entity gives to its block, if the block may have one
abbrev pub with_entity : Plan → Entity → Plan
with_entity b e = if has_level (block_at b e.pos) then with_level b e.pos (level_by (block_at b e.pos) e.further) else b

-- the build with the levels that these entities give
abbrev pub with_all : Plan → List Entity → Plan
with_all b entities = record b { levels = map (level_at b entities) (places b) }
