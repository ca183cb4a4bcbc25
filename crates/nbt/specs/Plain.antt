-- The plain form of a root, in which each vector is the list of its items.
use Rattle.std.specs.Prelude.{ℕ, ℤ, List, [], ◌∷◌, map}
use Rattle.nbt.specs.declared.trees.Tree.{Tree, fold-Tree}
use Rattle.nbt.specs.declared.trees.Tree.TheOpen.{Tree-F, Field-F}
use Rattle.nbt.specs.declared.trees.Field.{Field, fold-Field}
use Rattle.nbt.specs.declared.trees.Root.{Root}

mutual
  pub data PlainTree : Type 0 where
    byte : ℤ → PlainTree
    short : ℤ → PlainTree
    int : ℤ → PlainTree
    long : ℤ → PlainTree
    float : List ℕ → PlainTree
    double : List ℕ → PlainTree
    bytes : List ℕ → PlainTree
    text : List ℕ → PlainTree
    ints : List ℤ → PlainTree
    longs : List ℤ → PlainTree
    empty_list : ℤ → PlainTree
    numbers : ℕ → List ℕ → PlainTree
    list : ℕ → PlainTrees → PlainTree
    compound : PlainFields → PlainTree

  -- the items of a list, in order
  pub data PlainTrees : Type 0 where
    no_trees : PlainTrees
    tree : PlainTree → PlainTrees → PlainTrees

  -- the fields of a compound, in order, each with its name
  pub data PlainFields : Type 0 where
    no_fields : PlainFields
    field : List ℕ → PlainTree → PlainFields → PlainFields

pub record PlainRoot : Type 0 where
  pub name : List ℕ
  pub fields : PlainFields

-- a name and a tree
abbrev pub PlainField : Type 0
PlainField = List ℕ × PlainTree

abbrev pub trees_of : List PlainTree → PlainTrees
trees_of [] = no_trees
trees_of (t ∷ ts) = tree t (trees_of ts)

abbrev pub fields_of : List PlainField → PlainFields
fields_of [] = no_fields
fields_of (f ∷ fs) = field f.0 f.1 (fields_of fs)

-- one level, with what it holds already in plain form
abbrev pub tree_step : Tree-F PlainTree PlainField → PlainTree
tree_step (Tree-F.Byte z) = byte z
tree_step (Tree-F.Short z) = short z
tree_step (Tree-F.Int z) = int z
tree_step (Tree-F.Long z) = long z
tree_step (Tree-F.Float raw) = float raw
tree_step (Tree-F.Double raw) = double raw
tree_step (Tree-F.Bytes raw) = bytes raw.items.items
tree_step (Tree-F.Text raw) = text raw.items.items
tree_step (Tree-F.Ints zs) = ints zs.items.items
tree_step (Tree-F.Longs zs) = longs zs.items.items
tree_step (Tree-F.EmptyList length) = empty_list length
tree_step (Tree-F.Numbers element raw) = numbers element raw.items.items
tree_step (Tree-F.List element items) = list element (trees_of items.items)
tree_step (Tree-F.Compound fields) = compound (fields_of fields.items)

abbrev pub field_step : Field-F PlainTree PlainField → PlainField
field_step f = (f.name.items.items, f.tree)

abbrev pub plain_tree : Tree → PlainTree
plain_tree = fold-Tree PlainTree PlainField tree_step field_step

abbrev pub plain_field : Field → PlainField
plain_field = fold-Field PlainTree PlainField tree_step field_step

abbrev pub plain_fields : List Field → PlainFields
plain_fields fs = fields_of (map plain_field fs)

abbrev pub plain_trees : List Tree → PlainTrees
plain_trees ts = trees_of (map plain_tree ts)

abbrev pub plain_root : Root → PlainRoot
plain_root r = record { name = r.name.items.items; fields = plain_fields r.fields.items }
