-- What the code's lists of fields, trees and texts mean.
use Rattle.std.specs.Prelude.{ℕ, List, map, Vec}
use Rattle.std.specs.declared.alloc.Global.{Global}
use Rattle.nbt.specs.declared.trees.Tree.{Tree}
use Rattle.nbt.specs.declared.trees.Field.{Field}
use Rattle.nbt.specs.Plain.{PlainTree, PlainField, plain_tree, plain_field}

abbrev pub plain_pairs : List Field → List PlainField
plain_pairs fs = map plain_field fs

abbrev pub plain_list : List Tree → List PlainTree
plain_list ts = map plain_tree ts

-- the bytes of texts
abbrev pub texts_of : List (Vec ℕ Global) → List (List ℕ)
texts_of texts = map (λ (text : Vec ℕ Global). text.items) texts
