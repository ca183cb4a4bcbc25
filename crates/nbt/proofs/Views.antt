-- The plain forms of trees and fields that are made.
use Rattle.std.proofs.Common.{◌≡◌, ℕ, ℤ, List, rules, Vec}
use Rattle.std.specs.Global.{Global}
use Rattle.rp_text.specs.declared.Raw.{Raw}
use Rattle.nbt.specs.Plain as plain
use Rattle.nbt.specs.Plain.{plain_tree, plain_field, plain_fields, plain_trees}
use Rattle.nbt.specs.declared.trees.IntList.{IntList}
use Rattle.nbt.specs.declared.trees.LongList.{LongList}
use Rattle.nbt.specs.declared.trees.Field.{Field}
use Rattle.nbt.specs.declared.trees.Tree.{Tree, the_lemmas}
use Rattle.nbt.specs.declared.trees.Tree.TheVariants.{Byte, Short, Int, Long, Float, Double, Bytes, Text, Ints, Longs, EmptyList, Numbers, List as ListOf, Compound}

pub plain-Byte : (z : ℤ) → plain_tree (Byte z) ≡ plain.byte z
plain-Byte z = search (rules, the_lemmas)

pub plain-Short : (z : ℤ) → plain_tree (Short z) ≡ plain.short z
plain-Short z = search (rules, the_lemmas)

pub plain-Int : (z : ℤ) → plain_tree (Int z) ≡ plain.int z
plain-Int z = search (rules, the_lemmas)

pub plain-Long : (z : ℤ) → plain_tree (Long z) ≡ plain.long z
plain-Long z = search (rules, the_lemmas)

pub plain-Float : (raw : List ℕ) → plain_tree (Float raw) ≡ plain.float raw
plain-Float raw = search (rules, the_lemmas)

pub plain-Double : (raw : List ℕ) → plain_tree (Double raw) ≡ plain.double raw
plain-Double raw = search (rules, the_lemmas)

pub plain-Bytes : (raw : Raw) → plain_tree (Bytes raw) ≡ plain.bytes raw.items.items
plain-Bytes raw = search (rules, the_lemmas)

pub plain-Text : (raw : Raw) → plain_tree (Text raw) ≡ plain.text raw.items.items
plain-Text raw = search (rules, the_lemmas)

pub plain-Ints : (zs : IntList) → plain_tree (Ints zs) ≡ plain.ints zs.items.items
plain-Ints zs = search (rules, the_lemmas)

pub plain-Longs : (zs : LongList) → plain_tree (Longs zs) ≡ plain.longs zs.items.items
plain-Longs zs = search (rules, the_lemmas)

pub plain-EmptyList : (z : ℤ) → plain_tree (EmptyList z) ≡ plain.empty_list z
plain-EmptyList z = search (rules, the_lemmas)

pub plain-Numbers : (element : ℕ) (raw : Raw) → plain_tree (Numbers element raw) ≡ plain.numbers element raw.items.items
plain-Numbers element raw = search (rules, the_lemmas)

pub plain-List : (element : ℕ) (items : Vec Tree Global) → plain_tree (ListOf element items) ≡ plain.list element (plain_trees items.items)
plain-List element items = search (rules, the_lemmas)

pub plain-Compound : (fields : Vec Field Global) → plain_tree (Compound fields) ≡ plain.compound (plain_fields fields.items)
plain-Compound fields = search (rules, the_lemmas)

pub plain-Field : (f : Field) → plain_field f ≡ (f.name.items.items, plain_tree f.tree)
plain-Field f = search (rules, the_lemmas)
