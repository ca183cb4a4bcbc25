-- The block entities that are written, read back.
use Rattle.std.proofs.Common.{◌≡◌, ◌≢◌, ℕ, zero, suc, ◌+◌, ◌<◌, ◌≤◌, pos, List, [], ◌∷◌, map, Bool, true, false, cond, Option, Some, None, refl, sym, ap, ◌∙◌, arith, inl, inr}
use Rattle.std.specs.Prelude.{nat_eq, nat_le, not, find, codes, option_and_then, ◌||◌, ◌&&◌}
use Rattle.std.specs.Option.{option_map}
use Rattle.std.specs.List.{filter_map, list_any, range_with_len}
use Rattle.std.proofs.Math.ListN.{get_or}
use Rattle.std.proofs.lemmas.Bool.{cases_Bool, cases_eq}
use Rattle.std.proofs.lemmas.Bool.Decides.{nat_tests}
use Rattle.std.proofs.lemmas.List.{ext_get_or, get_or-map, length-map}
use Rattle.nbt.specs.Plain.{PlainTree, PlainField, PlainFields, int, compound, fields_of, trees_of}
use Rattle.circuit.specs.declared.Pos.{Pos}
use Rattle.block_table.specs.declared.Side.{Side}
use Rattle.item_table.specs.Strength.{strength_of}
use Rattle.schematic.specs.Entities.{item_of}
use Rattle.block_table.specs.declared.Block.{Block}
use Rattle.block_table.specs.declared.Block.TheVariants.{Comparator, Container}
use Rattle.block_table.specs.Facts.{slots}
use Rattle.block_table.specs.WrittenText.{is_listed}
use Rattle.block_table.proofs.SlotSteps.{listed_slots}
use Rattle.build.specs.Place.{same_place}
use Rattle.build.specs.SamePlace.{place_one, place_itself}
use Rattle.build.specs.Plan.{Plan, IsWhole, volume, places, place_of, cell_of, block_at, entry, level_fits}
use Rattle.build.specs.Places.{cell-place, entry-place, places-at, length-places}
use Rattle.build.specs.Edits.{is_comparator}
use Rattle.schematic.specs.Fields.{fields_in}
use Rattle.schematic.specs.Palette.{last_ones}
use Rattle.schematic.specs.Entities.{Entity, entity_of, items_in, trees_in, signal, is_level, level_in as read_level, items_of, level_with, level_at, same_entity_place, is_wrong_signal, signal_fault}
use Rattle.schematic.proofs.Counting.{trees_back}
use Rattle.schem_write.specs.declared.Layout.{Layout}
use Rattle.schem_write.specs.declared.Layout.TheVariants.{Second, Third}
use Rattle.schem_write.specs.BlockEntities.{level_field, level_in, entity_fields, entity_with, entity_at}
use Rattle.schem_write.proofs.Spellable.{level-small}
use Rattle.schem_write.proofs.ReadStacks.{items-back}

-- ---- one block entity

abbrev pub is_third : Layout → Bool
is_third Second = false
is_third Third = true

-- the further data that a reader sees
abbrev seen : Layout → Pos → Block → PlainField → PlainFields
seen Second p block said = entity_fields Second p block said
seen Third p block said = fields_of (said ∷ [])

-- the block entity that a reader sees
abbrev pub read : Layout → Pos → Block → ℕ → Option Entity
read layout p block level =
    cond (nat_eq level 0) None (option_map (λ (said : PlainField). record { pos = p; further = seen layout p block said }) (level_field block level))

entity-back : (layout : Layout) (p : Pos) (block : Block) (level : ℕ) → option_and_then (λ t. entity_of (is_third layout) (fields_in (Some t))) (entity_with layout p block level) ≡ read layout p block level
entity-back layout p block level = elim (cases_Bool (nat_eq level 0)) [
  | inl e ↦ rw e refl
  | inr e ↦ rw e (at layout block)
]
  where
    at : (layout : Layout) (block : Block) →
        option_and_then (λ t. entity_of (is_third layout) (fields_in (Some t))) (option_map (λ (said : PlainField). compound (entity_fields layout p block said)) (level_field block level))
        ≡ option_map (λ (said : PlainField). record { pos = p; further = seen layout p block said }) (level_field block level)
    at Second (Comparator facing subtract) = refl
    at Third (Comparator facing subtract) = refl
    at Second (Container name) = refl
    at Third (Container name) = refl
    at layout _ = refl

-- what is known of a cell
record Fits (block : Block) (level : ℕ) : Type 0 where
  listed : is_listed block ≡ true
  fits : level_fits block level ≡ true
  few : level ≤ 15

level-back : (n : ℕ) → n ≤ 15 → read_level (pos n) ≡ n
level-back n h = let a : nat_le 0 n ≡ true = grind (arith, nat_tests) in let b : nat_le n 15 ≡ true = grind (arith, nat_tests) in rw (a, b) refl

signal-right : (layout : Layout) (p : Pos) (facing : Side) (subtract : Bool) (level : ℕ) → signal (seen layout p (Comparator facing subtract) (codes "OutputSignal", int (pos level))) ≡ pos level
unfolding signal
signal-right Second p facing subtract level = refl
signal-right Third p facing subtract level = refl

items-right : (layout : Layout) (p : Pos) (name level : ℕ) (t : PlainTree) → items_of (seen layout p (Container name) (codes "Items", t)) ≡ filter_map (λ u. item_of (fields_in (Some u))) (items_in (Some t))
unfolding items_of
items-right Second p name level t = refl
items-right Third p name level t = refl

-- the level that a reader gives to the block
read-level : (layout : Layout) (p : Pos) (block : Block) (level : ℕ) → Fits block level → level_with block (read layout p block (level_in block level)) ≡ level
read-level layout p (Comparator facing subtract) level h = elim (cases_Bool (nat_eq level 0)) [
  | inl e ↦ (let none : level ≡ 0 = grind (arith, nat_tests, e) in rw e (sym none))
  | inr e ↦ rw e (ap read_level (signal-right layout p facing subtract level) ∙ level-back level h.few)
]
read-level layout p (Container name) level h = elim (cases_Bool (nat_eq level 0)) [
  | inl e ↦ (let none : level ≡ 0 = grind (arith, nat_tests, e) in rw e (sym none))
  | inr e ↦ (let some : level ≢ 0 = grind (arith, nat_tests, e) in
      rw e (ap (strength_of (slots (Container name))) (items-right layout p name level _) ∙ items-back (slots (Container name)) level (listed_slots name h.listed) (omega arith) h.few))
]
read-level layout p _ level h = other h.fits
  where
    other : ((nat_eq level 0) || false) ≡ true → 0 ≡ level
    other k = elim (cases_Bool (nat_eq level 0)) [
      | inl e ↦ (let none : level ≡ 0 = grind (arith, nat_tests, e) in sym none)
      | inr e ↦ absurd (let f : false ≡ true = rw e at k in cc)
    ]

-- ---- the block entities of a build

abbrev pub read_at : Layout → Plan → Pos → Option Entity
read_at layout b p = read layout p (block_at b p) (level_in (block_at b p) (entry b b.levels 0 p))

filter_map-twice : {A B C : Type 0} (f : A → Option B) (g : B → Option C) (h : A → Option C) → ((x : A) → option_and_then g (f x) ≡ h x) → (xs : List A) → filter_map g (filter_map f xs) ≡ filter_map h xs
filter_map-twice f g h s [] = refl
filter_map-twice {A = A} f g h s (x ∷ xs) = at (f x) refl (filter_map-twice f g h s xs)
  where
    at : (o : Option _) → f x ≡ o → filter_map g (filter_map f xs) ≡ filter_map h xs → filter_map g (filter_map f (x ∷ xs)) ≡ filter_map h (x ∷ xs)
    at None e r = let none : h x ≡ None = sym (s x) ∙ ap (option_and_then g) e in rw (e, none) r
    at (Some y) e r = let same : h x ≡ g y = sym (s x) ∙ ap (option_and_then g) e in rw (e, same, r) refl

-- what a reader sees of the list of block entities
pub all-read : (layout : Layout) (b : Plan) →
    filter_map (λ t. entity_of (is_third layout) (fields_in (Some t))) (trees_in (trees_of (filter_map (entity_at layout b) (places b)))) ≡ filter_map (read_at layout b) (places b)
all-read layout b =
    ap (filter_map (λ t. entity_of (is_third layout) (fields_in (Some t)))) (trees_back (filter_map (entity_at layout b) (places b)))
    ∙ filter_map-twice (entity_at layout b) (λ t. entity_of (is_third layout) (fields_in (Some t))) (read_at layout b)
    (λ p. entity-back layout p (block_at b p) (level_in (block_at b p) (entry b b.levels 0 p))) (places b)

read-place : (layout : Layout) (p : Pos) (block : Block) (level : ℕ) (e : Entity) → read layout p block level ≡ Some e → e.pos ≡ p
read-place layout p block level e h = elim (cases_Bool (nat_eq level 0)) [
  | inl z ↦ absurd (let k : ◌≡◌ {A = Option Entity} None (Some e) = rw z at h in cc)
  | inr z ↦ (let k : option_map (λ (said : PlainField). record { pos = p; further = seen layout p block said }) (level_field block level) ≡ Some e = rw z at h in at (level_field block level) k)
]
  where
    at : (o : Option PlainField) → option_map (λ (said : PlainField). record { pos = p; further = seen layout p block said }) o ≡ Some e → e.pos ≡ p
    at None f = absurd (cc)
    at (Some said) f = let one : record { pos = p; further = seen layout p block said } ≡ e = cc in sym (ap (λ (x : Entity). x.pos) one)

-- what some cells give, from one on
abbrev found : Plan → (Pos → Option Entity) → ℕ → ℕ → List Entity
found b f a n = filter_map f (map (place_of b) (range_with_len a n))

abbrev Stands : (Pos → Option Entity) → Type 0
Stands f = (p : Pos) (e : Entity) → f p ≡ Some e → e.pos ≡ p

apart : (b : Plan) (i j : ℕ) → i < volume b → j < volume b → i ≢ j → same_place (place_of b i) (place_of b j) ≡ false
apart b i j h k d = elim (cases_Bool (same_place (place_of b i) (place_of b j))) [
  | inl e ↦ absurd (d (sym (cell-place b i) ∙ ap (cell_of b) (place_one (place_of b i) (place_of b j) e) ∙ cell-place b j))
  | inr e ↦ e
]

-- an entity of another cell isn't among them
none-same : (b : Plan) (f : Pos → Option Entity) (s : Stands f) (e : Entity) (i a n : ℕ) → e.pos ≡ place_of b i → i < a → a + n ≤ volume b → list_any (same_entity_place e) (found b f a n) ≡ false
none-same b f s e i a zero p h l = refl
none-same b f s e i a (suc n) p h l = at (f (place_of b a)) refl (none-same b f s e i (a + 1) n p (omega arith) (omega arith))
  where
    at : (o : Option Entity) → f (place_of b a) ≡ o → list_any (same_entity_place e) (found b f (a + 1) n) ≡ false → list_any (same_entity_place e) (found b f a (suc n)) ≡ false
    at None q r = rw q r
    at (Some g) q r =
        let differ : same_place e.pos g.pos ≡ false =
        ap (λ (x : Pos). same_place x g.pos) p ∙ ap (same_place (place_of b i)) (s (place_of b a) g q) ∙ apart b i a (omega arith) (omega arith) (λ k. absurd (omega (arith, k))) in
        rw (q, differ) r

all-last : (b : Plan) (f : Pos → Option Entity) (s : Stands f) (a n : ℕ) → a + n ≤ volume b → last_ones same_entity_place (found b f a n) ≡ found b f a n
all-last b f s a zero l = refl
all-last b f s a (suc n) l = at (f (place_of b a)) refl (all-last b f s (a + 1) n (omega arith))
  where
    at : (o : Option Entity) → f (place_of b a) ≡ o → last_ones same_entity_place (found b f (a + 1) n) ≡ found b f (a + 1) n → last_ones same_entity_place (found b f a (suc n)) ≡ found b f a (suc n)
    at None q r = rw q r
    at (Some e) q r = rw (q, none-same b f s e a (a + 1) n (s (place_of b a) e q) (omega arith) (omega arith)) (ap (λ es. e ∷ es) r)

abbrev at_place : Pos → Entity → Bool
at_place p e = same_place e.pos p

not-found : (b : Plan) (f : Pos → Option Entity) (s : Stands f) (i a n : ℕ) → i < a → a + n ≤ volume b → find (at_place (place_of b i)) (found b f a n) ≡ None
not-found b f s i a zero h l = refl
not-found b f s i a (suc n) h l = at (f (place_of b a)) refl (not-found b f s i (a + 1) n (omega arith) (omega arith))
  where
    at : (o : Option Entity) → f (place_of b a) ≡ o → find (at_place (place_of b i)) (found b f (a + 1) n) ≡ None → find (at_place (place_of b i)) (found b f a (suc n)) ≡ None
    at None q r = rw q r
    at (Some g) q r =
        let differ : same_place g.pos (place_of b i) ≡ false = ap (λ (x : Pos). same_place x (place_of b i)) (s (place_of b a) g q) ∙ apart b a i (omega arith) (omega arith) (λ k. absurd (omega (arith, k))) in
        rw (q, differ) r

found-one : (b : Plan) (f : Pos → Option Entity) (s : Stands f) (i a n : ℕ) → a ≤ i → i < a + n → a + n ≤ volume b → find (at_place (place_of b i)) (found b f a n) ≡ f (place_of b i)
found-one b f s i a zero h k l = absurd (omega arith)
found-one b f s i a (suc n) h k l = elim (cases_eq i a) [
  | inl same ↦ ap (λ (j : ℕ). find (at_place (place_of b j)) (found b f a (suc n))) same ∙ here (f (place_of b a)) refl ∙ ap (λ (j : ℕ). f (place_of b j)) (sym same)
  | inr other ↦ there other (f (place_of b a)) refl (found-one b f s i (a + 1) n (omega arith) (omega arith) (omega arith))
]
  where
    here : (o : Option Entity) → f (place_of b a) ≡ o → find (at_place (place_of b a)) (found b f a (suc n)) ≡ f (place_of b a)
    here None q = rw q (not-found b f s a (a + 1) n (omega arith) (omega arith))
    here (Some e) q =
        let same : same_place e.pos (place_of b a) ≡ true = ap (λ (x : Pos). same_place x (place_of b a)) (s (place_of b a) e q) ∙ place_itself (place_of b a) in
        rw (q, same) refl

    there : i ≢ a → (o : Option Entity) → f (place_of b a) ≡ o → find (at_place (place_of b i)) (found b f (a + 1) n) ≡ f (place_of b i) → find (at_place (place_of b i)) (found b f a (suc n)) ≡ f (place_of b i)
    there d None q r = ap (λ es. find (at_place (place_of b i)) es) (skip q) ∙ r
      where
        skip : f (place_of b a) ≡ None → found b f a (suc n) ≡ found b f (a + 1) n
        skip z = rw z refl
    there d (Some g) q r =
        let differ : same_place g.pos (place_of b i) ≡ false = ap (λ (x : Pos). same_place x (place_of b i)) (s (place_of b a) g q) ∙ apart b a i (omega arith) (omega arith) (λ z. d (sym z)) in
        ap (λ es. find (at_place (place_of b i)) es) (first q) ∙ skip differ ∙ r
      where
        first : f (place_of b a) ≡ Some g → found b f a (suc n) ≡ g ∷ found b f (a + 1) n
        first z = rw z refl

        skip : same_place g.pos (place_of b i) ≡ false → find (at_place (place_of b i)) (g ∷ found b f (a + 1) n) ≡ find (at_place (place_of b i)) (found b f (a + 1) n)
        skip z = rw z refl

stands : (layout : Layout) (b : Plan) → Stands (read_at layout b)
stands layout b p e h = read-place layout p (block_at b p) (level_in (block_at b p) (entry b b.levels 0 p)) e h

pub all-count : (layout : Layout) (b : Plan) → last_ones same_entity_place (filter_map (read_at layout b) (places b)) ≡ filter_map (read_at layout b) (places b)
all-count layout b = all-last b (read_at layout b) (stands layout b) 0 (volume b) (omega arith)

fits-at : (b : Plan) (p : Pos) → IsWhole b → Fits (block_at b p) (entry b b.levels 0 p)
fits-at b p w = record { listed = w.listed p; fits = w.fitting p; few = level-small b p w }

-- the level that a reader gives to a cell
level-read : (layout : Layout) (b c : Plan) (i : ℕ) → IsWhole b → ((p : Pos) → block_at c p ≡ block_at b p) → i < volume b → level_at c (filter_map (read_at layout b) (places b)) (place_of b i) ≡ get_or b.levels i 0
level-read layout b c i w s h =
    let p : Pos = place_of b i in
    ap (λ o. level_with (block_at c p) o) (found-one b (read_at layout b) (stands layout b) i 0 (volume b) (omega arith) (omega arith) (omega arith))
    ∙ ap (λ x. level_with x (read_at layout b p)) (s p)
    ∙ read-level layout p (block_at b p) (entry b b.levels 0 p) (fits-at b p w)
    ∙ entry-place b b.levels 0 i h

pub levels-back : (layout : Layout) (b c : Plan) → IsWhole b → ((p : Pos) → block_at c p ≡ block_at b p) → map (level_at c (filter_map (read_at layout b) (places b))) (places b) ≡ b.levels
levels-back layout b c w s =
    let g : Pos → ℕ = level_at c (filter_map (read_at layout b) (places b)) in
    ext_get_or 0 (map g (places b)) b.levels (length-map (places b) g ∙ length-places b ∙ sym w.levels)
    (λ (i : ℕ) below.
    let there : i < volume b = omega (arith, below, length-map (places b) g, length-places b) in
    get_or-map g (places b) i (place_of b i) 0 (omega (arith, length-places b, there)) ∙ ap g (places-at b i (place_of b i) there) ∙ level-read layout b c i w s there)

-- no comparator has an output that is none
right-signal : (layout : Layout) (c : Plan) (p : Pos) (block : Block) (level : ℕ) (e : Entity) → block_at c p ≡ block → level ≤ 15 → read layout p block (level_in block level) ≡ Some e → is_wrong_signal c e ≡ false
right-signal layout c p block level e s l h =
    ap (λ x. is_comparator (block_at c x) && not (is_level (signal e.further))) (read-place layout p block (level_in block level) e h)
    ∙ ap (λ x. is_comparator x && not (is_level (signal e.further))) s ∙ at block h
  where
    at : (x : Block) → read layout p x (level_in x level) ≡ Some e → (is_comparator x && not (is_level (signal e.further))) ≡ false
    at (Comparator facing subtract) k = elim (cases_Bool (nat_eq level 0)) [
      | inl z ↦ absurd (let q : ◌≡◌ {A = Option Entity} None (Some e) = rw z at k in cc)
      | inr z ↦ (let q : Some (record { pos = p; further = seen layout p (Comparator facing subtract) (codes "OutputSignal", int (pos level)) }) ≡ Some e = rw z at k in
          let one : record { pos = p; further = seen layout p (Comparator facing subtract) (codes "OutputSignal", int (pos level)) } ≡ e = cc in
          let given : signal e.further ≡ pos level = ap (λ (x : Entity). signal x.further) (sym one) ∙ signal-right layout p facing subtract level in
          let low : nat_le 0 level ≡ true = grind (arith, nat_tests) in
          let high : nat_le level 15 ≡ true = grind (arith, nat_tests) in
          let level-is : is_level (pos level) ≡ true = rw (low, high) refl in
          ap (λ x. not (is_level x)) given ∙ ap not level-is)
    ]
    at _ k = refl

none-wrong : (layout : Layout) (b c : Plan) (a n : ℕ) → IsWhole b → ((p : Pos) → block_at c p ≡ block_at b p) → find (is_wrong_signal c) (found b (read_at layout b) a n) ≡ None
none-wrong layout b c a zero w s = refl
none-wrong layout b c a (suc n) w s = at (read_at layout b (place_of b a)) refl (none-wrong layout b c (a + 1) n w s)
  where
    at : (o : Option Entity) → read_at layout b (place_of b a) ≡ o → find (is_wrong_signal c) (found b (read_at layout b) (a + 1) n) ≡ None → find (is_wrong_signal c) (found b (read_at layout b) a (suc n)) ≡ None
    at None q r = ap (λ es. find (is_wrong_signal c) es) (skip q) ∙ r
      where
        skip : read_at layout b (place_of b a) ≡ None → found b (read_at layout b) a (suc n) ≡ found b (read_at layout b) (a + 1) n
        skip z = rw z refl
    at (Some e) q r =
        let right : is_wrong_signal c e ≡ false =
        right-signal layout c (place_of b a) (block_at b (place_of b a)) (entry b b.levels 0 (place_of b a)) e (s (place_of b a)) (level-small b (place_of b a) w) q in
        ap (λ es. find (is_wrong_signal c) es) (first q) ∙ skip right ∙ r
      where
        first : read_at layout b (place_of b a) ≡ Some e → found b (read_at layout b) a (suc n) ≡ e ∷ found b (read_at layout b) (a + 1) n
        first z = rw z refl

        skip : is_wrong_signal c e ≡ false → find (is_wrong_signal c) (e ∷ found b (read_at layout b) (a + 1) n) ≡ find (is_wrong_signal c) (found b (read_at layout b) (a + 1) n)
        skip z = rw z refl

pub no-signal_fault : (layout : Layout) (b c : Plan) → IsWhole b → ((p : Pos) → block_at c p ≡ block_at b p) → signal_fault c (filter_map (read_at layout b) (places b)) ≡ None
no-signal_fault layout b c w s = rw (none-wrong layout b c 0 (volume b) w s) refl
