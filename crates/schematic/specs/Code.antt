-- What the code's views of a root mean: a tree that was found or not, and a compound that is there or not.
use Rattle.std.specs.Prelude.{ℕ, List, Option, Some, None, map, Bool}
use Rattle.std.specs.List.{list_any}
use Rattle.std.specs.Str.{bytes_eq}
use Rattle.std.specs.Option.{option_map}
use Rattle.std.specs.Prelude.{Vec}
use Rattle.std.specs.Borrow.{Bor}
use Rattle.std.specs.declared.alloc.Global.{Global}
use Rattle.schematic.specs.declared.entities.Entity.{Entity as CodeEntity}
use Rattle.schematic.specs.Entities.{Entity}
use Rattle.nbt.specs.declared.trees.Tree.{Tree}
use Rattle.nbt.specs.declared.trees.Field.{Field}
use Rattle.nbt.specs.Plain.{PlainTree, PlainField, PlainFields, no_fields, plain_tree, plain_field, plain_fields}

abbrev pub plain_found : Option (Bor Tree) → Option PlainTree
plain_found found = option_map (λ (tree : Bor Tree). plain_tree tree.now) found

-- what isn't there has no fields
abbrev pub plain_held : Option (Bor (Vec Field Global)) → PlainFields
plain_held None = no_fields
plain_held (Some fields) = plain_fields fields.now.items

-- some fields of a compound
abbrev pub plain_entries : List (Bor Field) → List PlainField
plain_entries fields = map (λ (f : Bor Field). plain_field f.now) fields

-- the name is one of these
abbrev pub has_name : List (Bor (List ℕ)) → List ℕ → Bool
has_name names name = list_any (λ (known : Bor (List ℕ)). bytes_eq name known.now) names

abbrev pub plain_entity : CodeEntity → Entity
plain_entity e = record { pos = e.pos; further = plain_held e.further }

abbrev pub plain_entities : List CodeEntity → List Entity
plain_entities es = map plain_entity es
