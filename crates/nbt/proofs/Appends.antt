-- Bytes that are appended one part after the other.
use Rattle.std.proofs.Common.{◌≡◌, ◌<◌, ◌≤◌, ◌+◌, ◌*◌, ℕ, ℤ, List, [], ◌∷◌, ◌++◌, length, drop, get_or, map, sym, ap, ◌∙◌, subst, arith, append_assoc, length-append}
use Rattle.std.specs.Prelude.{Result, Ok, Err, OnOk, OnErr}
use Rattle.std.specs.Int.{Width, w32}
use Rattle.std.proofs.lemmas.List.{drop_more, length-map}
use Rattle.nbt.specs.Plain.{PlainTree, PlainTrees, PlainFields, PlainField, list, compound, plain_tree, plain_trees, plain_fields}
use Rattle.nbt.specs.Spelling.{unsigned, signed, all_signed, count, short_text, type_of, payload, item_payloads, field_spellings, IsText, CanStand, FieldsCanStand}
use Rattle.nbt.specs.Writing.{IsLonger}
use Rattle.nbt.specs.declared.trees.Tree.{Tree}
use Rattle.nbt.specs.declared.trees.Field.{Field}
use Rattle.nbt.proofs.Elements.{all_signed-push}
use Rattle.nbt.proofs.Growing.{count-of}
use Rattle.nbt.proofs.Views.{plain-Field}

pub any-err : {A E : Type 0} {P : Type 0} (r : Result A E) → P → OnErr r P
any-err (Ok x) p = tt
any-err (Err e) p = p

pub then-ok : {A E : Type 0} {P Q : Type 0} (r : Result A E) → OnOk r P → (P → Q) → OnOk r Q
then-ok (Ok x) p f = f p
then-ok (Err e) p f = tt

pub then-err : {A E : Type 0} {P Q : Type 0} (r : Result A E) → OnErr r P → (P → Q) → OnErr r Q
then-err (Ok x) p f = tt
then-err (Err e) p f = f p

pub longer-then : (a b c : List ℕ) → IsLonger a b → IsLonger b c → IsLonger a c
longer-then a b c h k = (h.0 ++ k.0, k.1 ∙ ap (λ (x : List ℕ). x ++ k.0) h.1 ∙ append_assoc a h.0 k.0)

pub longer-by : (a b more : List ℕ) → b ≡ a ++ more → IsLonger a b
longer-by a b more e = (more, e)

-- one more number of an array
pub numbers-more : (w : Width) (out here more : List ℕ) (zs : List ℤ) (z : ℤ) (ws : List ℤ) (head : List ℕ) → here ≡ out ++ (head ++ all_signed w zs) → more ≡ here ++ signed w z → ws ≡ zs ++ z ∷ []
    → more ≡ out ++ (head ++ all_signed w ws)
numbers-more w out here more zs z ws head e f g =
    f ∙ ap (λ (x : List ℕ). x ++ signed w z) e ∙ append_assoc out (head ++ all_signed w zs) (signed w z)
    ∙ ap (λ (x : List ℕ). out ++ x) (append_assoc head (all_signed w zs) (signed w z) ∙ ap (λ (x : List ℕ). head ++ x) (sym (all_signed-push w zs z) ∙ ap (all_signed w) (sym g)))

-- an item and the items behind it
pub items-at : (items : List Tree) (i : ℕ) (one : Tree) → i < length items → one ≡ get_or items i one → drop i items ≡ one ∷ drop (i + 1) items
items-at items i one low at = drop_more items i one low ∙ ap (λ (x : Tree). x ∷ drop (i + 1) items) (sym at)

pub fields-at : (fields : List Field) (i : ℕ) (one : Field) → i < length fields → one ≡ get_or fields i one → drop i fields ≡ one ∷ drop (i + 1) fields
fields-at fields i one low at = drop_more fields i one low ∙ ap (λ (x : Field). x ∷ drop (i + 1) fields) (sym at)

-- the fields from one on, in plain form
pub fields-spelled : (one : Field) (later : List Field)
    → field_spellings (plain_fields (one ∷ later)) ≡ (type_of (plain_tree one.tree) ∷ (short_text one.name.items.items ++ payload (plain_tree one.tree))) ++ field_spellings (plain_fields later)
fields-spelled one later = ap (λ (f : PlainField). (type_of f.1 ∷ (short_text f.0 ++ payload f.1)) ++ field_spellings (plain_fields later)) (plain-Field one)

pub fields-stand-at : (one : Field) (later : List Field) (d : ℕ) → FieldsCanStand d (plain_fields (one ∷ later))
    → IsText one.name.items.items × CanStand d (plain_tree one.tree) × FieldsCanStand d (plain_fields later)
fields-stand-at one later d h =
    subst (λ (f : PlainField). IsText f.0 × CanStand d f.1 × FieldsCanStand d (plain_fields later)) (plain-Field one) h

pub field-pushed : (o0 o1 o2 o3 name body rest : List ℕ) (t : ℕ) → o1 ≡ o0 ++ (t ∷ []) → o2 ≡ o1 ++ name → o3 ≡ o2 ++ body → o3 ++ rest ≡ o0 ++ ((t ∷ (name ++ body)) ++ rest)
field-pushed o0 o1 o2 o3 name body rest t e f g =
    ap (λ (x : List ℕ). x ++ rest) (g ∙ ap (λ (x : List ℕ). x ++ body) (f ∙ ap (λ (x : List ℕ). x ++ name) e) ∙ append_assoc (o0 ++ (t ∷ [])) name body ∙ append_assoc o0 (t ∷ []) (name ++ body))
    ∙ append_assoc o0 (t ∷ (name ++ body)) rest

pub count-plain : (items : List Tree) → count (plain_trees items) ≡ length items
count-plain items = count-of (map plain_tree items) ∙ simp length-map

-- what is left of a row is no longer than the row
pub left-shorter : (before out left all : List ℕ) → out ++ left ≡ before ++ all → IsLonger before out → length left ≤ length all
left-shorter before out left all e h =
    omega (arith, ap length e, length-append out left, length-append before all, ap length h.1, length-append before h.0)

pub item-shorter : (one : Tree) (later : List Tree) → length (payload (plain_tree one)) ≤ length (item_payloads (plain_trees (one ∷ later)))
item-shorter one later = omega (arith, length-append (payload (plain_tree one)) (item_payloads (plain_trees later)))

pub field-shorter : (one : Field) (later : List Field) → length (payload (plain_tree one.tree)) < length (field_spellings (plain_fields (one ∷ later)))
field-shorter one later =
    let name = short_text one.name.items.items in
    let body = payload (plain_tree one.tree) in
    omega (arith, ap length (fields-spelled one later), length-append (type_of (plain_tree one.tree) ∷ (name ++ body)) (field_spellings (plain_fields later)), length-append name body)

-- a list is longer than its items, and a compound than its fields
pub list-longer : (t : PlainTree) (element : ℕ) (ts : PlainTrees) → t ≡ list element ts → 2 * length (item_payloads ts) + 1 < 2 * length (payload t)
list-longer t element ts e =
    omega (arith, ap (λ (x : PlainTree). length (payload x)) e, length-append (unsigned w32 (count ts)) (item_payloads ts))

pub compound-longer : (t : PlainTree) (fs : PlainFields) → t ≡ compound fs → 2 * length (field_spellings fs) + 1 < 2 * length (payload t)
compound-longer t fs e = omega (arith, ap (λ (x : PlainTree). length (payload x)) e, length-append (field_spellings fs) (0 ∷ []))
