-- The roots that are written can be spelled.
use Rattle.std.proofs.Common.{◌≡◌, ℕ, zero, suc, ◌+◌, ◌/◌, ◌%◌, ◌^◌, ◌<◌, ◌≤◌, ℤ, pos, List, [], ◌∷◌, ◌++◌, map, length, Bool, true, Option, Some, None, refl, ap, subst, arith, inl, inr, lit<, lit≤}
use Rattle.schem_write.proofs.FirstOnes.{length-first_ones}
use Rattle.std.specs.Prelude.{FitsSigned, not, filter, nat_eq, nat_le, replicate, codes, ◌&&◌}
use Rattle.std.specs.Option.{option_map}
use Rattle.std.specs.Int.{w32}
use Rattle.std.specs.List.{AllByRecursion, filter_map, range_with_len}
use Rattle.std.specs.Str.{bytes_eq}
use Rattle.std.proofs.lemmas.Bool.{cases_Bool, and_parts}
use Rattle.std.proofs.lemmas.Bool.Decides.{nat_tests}
use Rattle.std.proofs.lemmas.List.{length-append, length-map}
use Rattle.nbt.specs.Plain.{PlainTree, PlainField, int, list, compound, fields_of, trees_of}
use Rattle.nbt.specs.Spelling.{AreBytes, IsText, CanStand, ItemsCanStand, FieldsCanStand, count, type_of}
use Rattle.circuit.specs.declared.Pos.{Pos}
use Rattle.block_table.specs.declared.Block.{Block}
use Rattle.block_table.specs.declared.Block.TheVariants.{Comparator, Container}
use Rattle.block_table.specs.StateText.{namespace}
use Rattle.block_table.specs.Table.{name_at}
use Rattle.block_table.specs.Facts.{slots}
use Rattle.block_table.specs.WrittenText.{state_text}
use Rattle.build.specs.Plan.{Plan, IsWhole, volume, places, place_of, in_box, block_at, entry, natural, level_fits, has_level}
use Rattle.build.specs.Places.{inside, place_inside, length-places}
use Rattle.schem_write.specs.declared.Layout.{Layout}
use Rattle.schem_write.specs.declared.Layout.TheVariants.{Second, Third}
use Rattle.schem_write.specs.Stacks.{items_for, stacks_of, stack_tree, stack_trees}
use Rattle.schem_write.specs.PaletteTexts.{first_ones, palette_of, numbered_from}
use Rattle.schem_write.specs.BlockEntities.{level_field, level_in, id_of, further, entity_fields, entity_with, entity_at, entities_of}
use Rattle.schem_write.proofs.TextLengths.{text-length, name_at-short}
use Rattle.schem_write.proofs.TextBytes.{literal, named, joined, name_at-bytes, namespace-bytes, text-bytes}
use Rattle.schem_write.proofs.Slots.{few_slots, few_items}

-- ---- the palette

all-states : (blocks : List Block) → AllByRecursion IsText (map state_text blocks)
all-states [] = tt
all-states (b ∷ blocks) = ((text-length b, text-bytes b), all-states blocks)

all-kept : (P : List ℕ → Type 0) (p : List ℕ → Bool) (texts : List (List ℕ)) → AllByRecursion P texts → AllByRecursion P (filter p texts)
all-kept P p [] h = tt
all-kept P p (t ∷ texts) h = elim (cases_Bool (p t)) [
  | inl e ↦ rw e (h.0, all-kept P p texts h.1)
  | inr e ↦ rw e (all-kept P p texts h.1)
]

pub all-first_ones : (P : List ℕ → Type 0) (texts : List (List ℕ)) → AllByRecursion P texts → AllByRecursion P (first_ones texts)
all-first_ones P [] h = tt
all-first_ones P (t ∷ texts) h = (h.0, all-kept P (λ other. not (bytes_eq other t)) (first_ones texts) (all-first_ones P texts h.1))

numbered-stands : (depth n : ℕ) (texts : List (List ℕ)) → AllByRecursion IsText texts → n + length texts ≤ 2 ^ 30 → FieldsCanStand depth (fields_of (numbered_from n texts))
numbered-stands depth n [] h l = tt
numbered-stands depth n (t ∷ texts) h l = (h.0, record { sfits = omega arith }, numbered-stands depth (n + 1) texts h.1 (omega arith))

-- ---- stacks

stack-stands : (depth slot number : ℕ) → depth < 512 → slot < 128 → number < 128 → CanStand depth (stack_tree slot number)
stack-stands depth slot number d s n =
    (d, (named (codes "Slot") refl, record { sfits = omega arith }, (named (codes "id") refl, named (codes "minecraft:stone") refl, (named (codes "Count") refl, record { sfits = omega arith }, tt))))

stacks-stand : (depth slot : ℕ) (counts : List ℕ) → depth < 512 → AllByRecursion (λ n. n < 128) counts → slot + length counts ≤ 128 → ItemsCanStand depth 10 (trees_of (stack_trees slot counts))
stacks-stand depth slot [] d h l = tt
stacks-stand depth slot (n ∷ counts) d h l = (refl, stack-stands depth slot n d (omega arith) h.0, stacks-stand depth (slot + 1) counts d h.1 (omega arith))

count-stacks : (slot : ℕ) (counts : List ℕ) → count (trees_of (stack_trees slot counts)) ≡ length counts
count-stacks slot [] = refl
count-stacks slot (n ∷ counts) = ap suc (count-stacks (slot + 1) counts)

all-small : (k : ℕ) (rest : List ℕ) → AllByRecursion (λ n. n < 128) rest → AllByRecursion (λ n. n < 128) (replicate k 64 ++ rest)
all-small zero rest h = h
all-small (suc k) rest h = (lit< tt, all-small k rest h)

length-whole : (k : ℕ) (rest : List ℕ) → length (replicate k 64 ++ rest) ≡ k + length rest
length-whole zero rest = omega arith
length-whole (suc k) rest = omega (arith, length-whole k rest)

stacks-small : (n : ℕ) → AllByRecursion (λ m. m < 128) (stacks_of n)
unfolding stacks_of
stacks-small n = elim (cases_Bool (nat_eq (n % 64) 0)) [
  | inl e ↦ rw e (all-small (n / 64) [] tt)
  | inr e ↦ rw e (all-small (n / 64) (n % 64 ∷ []) (omega arith, tt))
]

length-stacks : (n : ℕ) → length (stacks_of n) ≤ n / 64 + 1
unfolding stacks_of
length-stacks n = elim (cases_Bool (nat_eq (n % 64) 0)) [
  | inl e ↦ rw e (omega (arith, length-whole (n / 64) []))
  | inr e ↦ rw e (omega (arith, length-whole (n / 64) (n % 64 ∷ [])))
]

items-stand : (depth n : ℕ) → depth < 511 → n ≤ 1728 → CanStand depth (list 10 (trees_of (stack_trees 0 (stacks_of n))))
items-stand depth n d h =
    let few : length (stacks_of n) ≤ 28 = omega (arith, length-stacks n) in
    (omega arith, lit≤ tt, lit≤ tt, λ _. omega arith, omega (arith, count-stacks 0 (stacks_of n)), stacks-stand (suc depth) 0 (stacks_of n) (omega arith) (stacks-small n) (omega arith))

-- ---- block entities

level-stands : (depth : ℕ) (block : Block) (level : ℕ) (said : PlainField) → depth < 511 → level ≤ 15 → level_field block level ≡ Some said → FieldsCanStand depth (fields_of (said ∷ []))
level-stands depth (Comparator facing subtract) level said d l e =
    let one : (codes "OutputSignal", int (pos level)) ≡ said = cc in
    subst (λ (f : PlainField). FieldsCanStand depth (fields_of (f ∷ []))) one (named (codes "OutputSignal") refl, record { sfits = omega arith }, tt)
level-stands depth (Container name) level said d l e =
    let n : ℕ = items_for (slots (Container name)) level in
    let one : (codes "Items", list 10 (trees_of (stack_trees 0 (stacks_of n)))) ≡ said = cc in
    subst (λ (f : PlainField). FieldsCanStand depth (fields_of (f ∷ []))) one (named (codes "Items") refl, items-stand depth n d (few_items (slots (Container name)) level (few_slots name) l), tt)
level-stands depth _ level said d l e = absurd (cc)

further-stands : (depth : ℕ) (layout : Layout) (said : PlainField) → depth < 510 → ((k : ℕ) → k < 511 → FieldsCanStand k (fields_of (said ∷ []))) → FieldsCanStand depth (further layout said)
further-stands depth Second said d h = h depth (omega arith)
further-stands depth Third said d h = (named (codes "Data") refl, (omega arith, h (suc depth) (omega arith)), tt)

id-short : (block : Block) → length (id_of block) < 2 ^ 16
id-short (Comparator facing subtract) = lit< tt
id-short (Container name) = omega (arith, length-append namespace (name_at name), name_at-short name)
id-short _ = lit< tt

id-bytes : (block : Block) → AreBytes (id_of block)
id-bytes (Comparator facing subtract) = literal (codes "minecraft:comparator") refl
id-bytes (Container name) = joined namespace (name_at name) namespace-bytes (name_at-bytes name)
id-bytes _ = tt

pub record IsPlaced (p : Pos) : Type 0 where
  pub x : FitsSigned w32 p.x
  pub y : FitsSigned w32 p.y
  pub z : FitsSigned w32 p.z

fits-below : (n : ℕ) (z : ℤ) → natural z < n → n < 65536 → pos (natural z) ≡ z → FitsSigned w32 z
fits-below n z h k e = subst (λ (q : ℤ). FitsSigned w32 q) e (record { sfits = omega arith })

pub placed : (b : Plan) (p : Pos) → IsWhole b → in_box b p ≡ true → IsPlaced p
placed b p w h =
    let i = inside b p h in
    record { x = fits-below b.width p.x i.x_below w.narrow i.x_is; y = fits-below b.height p.y i.y_below w.low i.y_is; z = fits-below b.depth p.z i.z_below w.shallow i.z_is }

entity-stands : (depth : ℕ) (layout : Layout) (p : Pos) (block : Block) (said : PlainField) → depth < 509 → IsPlaced p → ((k : ℕ) → k < 511 → FieldsCanStand k (fields_of (said ∷ []))) → CanStand depth (compound (entity_fields layout p block said))
entity-stands depth layout p block said d h s =
    (omega arith, (named (codes "Pos") refl, (lit< tt, (h.x, (h.y, (h.z, tt)))), (named (codes "Id") refl, (id-short block, id-bytes block), further-stands (suc depth) layout said (omega arith) s)))

pub level-small : (b : Plan) (p : Pos) → IsWhole b → entry b b.levels 0 p ≤ 15
level-small b p w = at (block_at b p) (entry b b.levels 0 p) (w.fitting p)
  where
    at : (block : Block) (level : ℕ) → level_fits block level ≡ true → level ≤ 15
    at block level h = elim (cases_Bool (nat_eq level 0)) [
      | inl e ↦ grind (arith, nat_tests, e)
      | inr e ↦ (let k : (has_level block && nat_le level 15) ≡ true = rw e at h in let l : nat_le level 15 ≡ true = (and_parts (has_level block) (nat_le level 15) k).1 in grind (arith, nat_tests, l))
    ]

pub level_in-small : (block : Block) (level : ℕ) → level ≤ 15 → level_in block level ≤ 15
level_in-small (Comparator facing subtract) level h = h
level_in-small (Container name) level h = h
level_in-small _ level h = omega arith

entity_with-stands : (depth : ℕ) (layout : Layout) (p : Pos) (block : Block) (level : ℕ) (t : PlainTree) → depth < 509 → IsPlaced p → level ≤ 15 → entity_with layout p block level ≡ Some t →
    (type_of t ≡ 10) × CanStand depth t
entity_with-stands depth layout p block level t d h l e = elim (cases_Bool (nat_eq level 0)) [
  | inl z ↦ absurd (let k : ◌≡◌ {A = Option PlainTree} None (Some t) = rw z at e in cc)
  | inr z ↦ (let k : option_map (λ (said : PlainField). compound (entity_fields layout p block said)) (level_field block level) ≡ Some t = rw z at e in
      at (level_field block level) (λ said f n m. level-stands n block level said m l f) k)
]
  where
    at : (o : Option PlainField) → ((said : PlainField) → o ≡ Some said → (k : ℕ) → k < 511 → FieldsCanStand k (fields_of (said ∷ []))) → option_map (λ (said : PlainField). compound (entity_fields layout p block said)) o ≡ Some t →
        (type_of t ≡ 10) × CanStand depth t
    at None s f = absurd (cc)
    at (Some said) s f =
        let one : compound (entity_fields layout p block said) ≡ t = cc in
        subst (λ (u : PlainTree). (type_of u ≡ 10) × CanStand depth u) one (refl, entity-stands depth layout p block said d h (s said refl))

entities-stand : (depth : ℕ) (f : Pos → Option PlainTree) (g : ℕ → Pos) (a n : ℕ) → ((i : ℕ) (t : PlainTree) → a ≤ i → i < a + n → f (g i) ≡ Some t → (type_of t ≡ 10) × CanStand depth t) →
    ItemsCanStand depth 10 (trees_of (filter_map f (map g (range_with_len a n))))
entities-stand depth f g a zero h = tt
entities-stand depth f g a (suc n) h = at (f (g a)) refl (entities-stand depth f g (a + 1) n (λ i t l k e. h i t (omega arith) (omega arith) e))
  where
    at : (o : Option PlainTree) → f (g a) ≡ o → ItemsCanStand depth 10 (trees_of (filter_map f (map g (range_with_len (a + 1) n)))) →
        ItemsCanStand depth 10 (trees_of (filter_map f (map g (a ∷ range_with_len (a + 1) n))))
    at None e rest = rw e rest
    at (Some t) e rest = let one = h a t (omega arith) (omega arith) e in rw e (one.0, one.1, rest)

count-trees : (ts : List PlainTree) → count (trees_of ts) ≡ length ts
count-trees [] = refl
count-trees (t ∷ ts) = ap suc (count-trees ts)

pub length-filter_map : {X Y : Type 0} (f : X → Option Y) (xs : List X) → length (filter_map f xs) ≤ length xs
length-filter_map {X = X} {Y = Y} f [] = omega arith
length-filter_map {X = X} {Y = Y} f (x ∷ xs) = at (f x) refl (length-filter_map f xs)
  where
    at : (o : Option Y) → f x ≡ o → length (filter_map f xs) ≤ length xs → length (filter_map f (x ∷ xs)) ≤ length (x ∷ xs)
    at None e h = rw e (omega arith)
    at (Some y) e h = rw e (omega arith)

pub entities_of-stands : (depth : ℕ) (layout : Layout) (b : Plan) → depth < 500 → IsWhole b → CanStand depth (entities_of layout b)
unfolding entities_of
entities_of-stands depth layout b d w =
    let trees : List PlainTree = filter_map (entity_at layout b) (places b) in (
      omega arith,
      lit≤ tt,
      lit≤ tt,
      λ _. omega arith,
      omega (arith, count-trees trees, length-filter_map (entity_at layout b) (places b), length-places b, w.small),
      entities-stand (suc depth) (entity_at layout b) (place_of b) 0 (volume b)
          (λ i t l k e. entity_with-stands (suc depth) layout (place_of b i) (block_at b (place_of b i)) _ t (omega arith) (placed b (place_of b i) w (place_inside b i (omega arith)))
          (level_in-small (block_at b (place_of b i)) (entry b b.levels 0 (place_of b i)) (level-small b (place_of b i) w)) e),
    )

pub palette-stands : (depth : ℕ) (blocks : List Block) → depth < 500 → length blocks ≤ 2 ^ 24 → CanStand depth (compound (fields_of (numbered_from 0 (palette_of blocks))))
unfolding palette_of
palette-stands depth blocks d h =
    let texts : List (List ℕ) = map state_text blocks in
    (omega arith, numbered-stands (suc depth) 0 (first_ones texts) (all-first_ones IsText texts (all-states blocks)) (omega (arith, length-first_ones texts, length-map blocks state_text)))
