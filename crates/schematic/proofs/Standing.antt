-- What a root that is spelled says of its fields.
use Rattle.std.proofs.Common.{◌≡◌, ℕ, suc, ◌<◌, ◌^◌, List, length, Option, Some, None, Bool, true, false, refl, subst, arith, inl, inr}
use Rattle.std.proofs.lemmas.Bool.{cases_Bool}
use Rattle.nbt.specs.Plain.{PlainTree, PlainFields, PlainRoot, no_fields, field, ints, compound}
use Rattle.nbt.specs.Spelling.{CanStand, FieldsCanStand, Spells}
use Rattle.nbt.specs.Named.{is_same_name, later_or, last_named}
use Rattle.schematic.specs.declared.FieldName.TheVariants.{Metadata, RedpilePending}
use Rattle.schematic.specs.Fields.{text_of, fields_in, ints_in, held, is_third, main, pending_in}

pub named_stands : (depth : ℕ) (name : List ℕ) (fs : PlainFields) (t : PlainTree) → FieldsCanStand depth fs → last_named name fs ≡ Some t → CanStand depth t
named_stands depth name no_fields t h e = absurd (cc)
named_stands depth name (field own one fs) t h e = by_later (last_named name fs) (λ k. named_stands depth name fs t h.2 k) (is_same_name own name) e
  where
    by_later : (later : Option PlainTree) → (later ≡ Some t → CanStand depth t) → (same : Bool) → later_or later same one ≡ Some t → CanStand depth t
    by_later (Some u) k same e = k e
    by_later None k true e = let is : one ≡ t = cc in subst (CanStand depth) is h.1
    by_later None k false e = absurd (cc)

fields_stand : (depth : ℕ) (o : Option PlainTree) → ((t : PlainTree) → o ≡ Some t → CanStand depth t) → (d : ℕ) × FieldsCanStand d (fields_in o)
fields_stand depth None h = (0, tt)
fields_stand depth (Some (compound fs)) h = (suc depth, (h (compound fs) refl).1)
fields_stand depth (Some _) h = (0, tt)

held_stand : (depth : ℕ) (name : List ℕ) (fs : PlainFields) → FieldsCanStand depth fs → (d : ℕ) × FieldsCanStand d (fields_in (last_named name fs))
held_stand depth name fs h = fields_stand depth (last_named name fs) (λ t e. named_stands depth name fs t h e)

pub main_stands : (R : PlainFields) → FieldsCanStand 1 R → (d : ℕ) × FieldsCanStand d (main R)
unfolding main
main_stands R h = elim (cases_Bool (is_third R)) [ inl e ↦ rw e (held_stand 1 _ R h) | inr e ↦ rw e (1, h) ]

ints_few : (depth : ℕ) (o : Option PlainTree) → ((t : PlainTree) → o ≡ Some t → CanStand depth t) → length (ints_in o) < 2 ^ 31
ints_few depth None h = omega arith
ints_few depth (Some (ints zs)) h = (h (ints zs) refl).0
ints_few depth (Some _) h = omega arith

-- there are fewer numbers of pending ticks than an array may have
pub few_pending : (file : List ℕ) (root : PlainRoot) → Spells file root → length (pending_in root.fields) < 2 ^ 31
unfolding pending_in
few_pending file root h =
    let m = main_stands root.fields h.0.1 in
    let metadata = held_stand m.0 (text_of Metadata) (main root.fields) m.1 in
    ints_few metadata.0 (held RedpilePending (fields_in (held Metadata (main root.fields)))) (λ t e. named_stands metadata.0 (text_of RedpilePending) (fields_in (held Metadata (main root.fields))) t metadata.1 e)
