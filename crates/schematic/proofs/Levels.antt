-- The levels that block entities give.
use Rattle.std.proofs.Common.{◌≡◌, ◌≢◌, ◌<◌, ◌≤◌, ℕ, ◌+◌, ◌*◌, ◌/◌, List, [], ◌∷◌, map, length, Option, Some, None, true, false, refl, sym, ap, ◌∙◌, subst, arith, inl, inr}
use Rattle.std.specs.Prelude.{replicate, find, set, min, ◌==◌}
use Rattle.std.proofs.Math.ListN.{get_or}
use Rattle.std.proofs.lemmas.Bool.{cases_Bool, cases_eq}
use Rattle.std.proofs.lemmas.List.{ext_get_or, get_or-set_same, get_or-set_other, length-set, get_or-map, length-map}
use Rattle.circuit.specs.declared.Pos.{Pos}
use Rattle.block_table.specs.declared.Block.{Block}
use Rattle.block_table.specs.declared.Block.TheVariants.{Air, Comparator, Container}
use Rattle.item_table.specs.declared.ItemCount.{ItemCount}
use Rattle.item_table.specs.Strength.{strength_of, strength_by, stacked_sum}
use Rattle.build.specs.Place.{same_place}
use Rattle.build.specs.SamePlace.{place_one, place_itself}
use Rattle.build.specs.Plan.{Plan, volume, places, place_of, cell_of, in_box, entry, block_at, has_level}
use Rattle.build.specs.Places.{inside, cell_below, place-cell, cell-place, places-at, length-places, in_box-not_outside}
use Rattle.build.specs.Edits.{with_level}
use Rattle.schematic.specs.Entities.{Entity, level_by, level_with, level_at, with_entity, with_all}

pub strength_small : (n : ℕ) (items : List ItemCount) → strength_of n items ≤ 15
unfolding strength_of
strength_small n items = at (stacked_sum items)
  where
    capped : (x : ℕ) → min 15 x ≤ 15
    capped x = omega arith

    at : (s : ℕ) → strength_by n s ≤ 15
    at s = elim (cases_Bool (s == 0)) [ inl h ↦ rw h (omega arith) | inr h ↦ rw h (capped (1 + 14 * s / (64 * n))) ]

-- ---- one entity after another

no_level : (block : Block) (o : Option Entity) → has_level block ≡ false → level_with block o ≡ 0
no_level (Comparator facing subtract) o h = absurd (cc)
no_level (Container name) o h = absurd (cc)
no_level _ None h = refl
no_level _ (Some e) h = refl

map_zero : {A : Type 0} (f : A → ℕ) (xs : List A) → ((x : A) → f x ≡ 0) → map f xs ≡ replicate (length xs) 0
map_zero f [] h = refl
map_zero f (x ∷ xs) h = rw (h x, map_zero f xs h) refl

pub no_entities : (b : Plan) → b.levels ≡ replicate (volume b) 0 → b ≡ with_all b []
no_entities b h =
    let zeros : map (level_at b []) (places b) ≡ replicate (volume b) 0 = map_zero (level_at b []) (places b) (λ p. refl) ∙ ap (λ (n : ℕ). replicate n 0) (length-places b) in
    ap (λ (ls : List ℕ). record b { levels = ls }) (h ∙ sym zeros)

block-levels : (b : Plan) (es : List Entity) (p : Pos) → block_at (with_all b es) p ≡ block_at b p
unfolding entry in_box
block-levels b es p = refl

-- the entity in front counts where it stands
at_itself : (b : Plan) (e : Entity) (es : List Entity) → level_at b (e ∷ es) e.pos ≡ level_by (block_at b e.pos) e.further
at_itself b e es = rw (place_itself e.pos) refl

elsewhere : (b : Plan) (e : Entity) (es : List Entity) (p : Pos) → same_place e.pos p ≡ false → level_at b (e ∷ es) p ≡ level_at b es p
elsewhere b e es p h = rw h refl

without_level : (b : Plan) (e : Entity) (es : List Entity) (p : Pos) → has_level (block_at b e.pos) ≡ false → level_at b es p ≡ level_at b (e ∷ es) p
without_level b e es p h = elim (cases_Bool (same_place e.pos p)) [
  | inl same ↦ (let none : has_level (block_at b p) ≡ false = subst (λ (q : Pos). has_level (block_at b q) ≡ false) (place_one e.pos p same) h in
      no_level (block_at b p) (find (λ (x : Entity). same_place x.pos p) es) none ∙ sym (no_level (block_at b p) (find (λ (x : Entity). same_place x.pos p) (e ∷ es)) none))
  | inr other ↦ sym (elsewhere b e es p other)
]

map_alike : {A B : Type 0} (f g : A → B) (xs : List A) → ((x : A) → f x ≡ g x) → map f xs ≡ map g xs
map_alike f g [] h = refl
map_alike f g (x ∷ xs) h = rw (h x, map_alike f g xs h) refl

level-at_cell : (b : Plan) (es : List Entity) (i : ℕ) → i < volume b → get_or (map (level_at b es) (places b)) i 0 ≡ level_at b es (place_of b i)
level-at_cell b es i h =
    get_or-map (level_at b es) (places b) i (place_of b i) 0 (omega (arith, length-places b, h)) ∙ ap (level_at b es) (places-at b i (place_of b i) h)

-- the levels with one entity more in front
levels_more : (b : Plan) (e : Entity) (es : List Entity) → in_box b e.pos ≡ true →
    set (map (level_at b es) (places b)) (cell_of b e.pos) (level_by (block_at b e.pos) e.further) ≡ map (level_at b (e ∷ es)) (places b)
levels_more b e es h =
    let old : List ℕ = map (level_at b es) (places b) in
    let c : ℕ = cell_of b e.pos in
    let level : ℕ = level_by (block_at b e.pos) e.further in
    let count : length old ≡ volume b = length-map (places b) (level_at b es) ∙ length-places b in
    let low : c < volume b = cell_below b e.pos (inside b e.pos h) in
    let back : place_of b c ≡ e.pos = place-cell b e.pos (inside b e.pos h) in
    ext_get_or 0 (set old c level) (map (level_at b (e ∷ es)) (places b))
    (length-set old c level ∙ count ∙ sym (length-map (places b) (level_at b (e ∷ es)) ∙ length-places b))
    (λ (i : ℕ) below.
    let there : i < volume b = omega (arith, below, length-set old c level, count) in
    elim (cases_eq i c) [
      | inl same ↦ ap (λ (k : ℕ). get_or (set old c level) k 0) same ∙ get_or-set_same old c level 0 (omega (arith, low, count))
          ∙ sym (level-at_cell b (e ∷ es) i there ∙ ap (level_at b (e ∷ es)) (ap (place_of b) same ∙ back) ∙ at_itself b e es)
      | inr other ↦ get_or-set_other old c i level 0 other ∙ level-at_cell b es i there
          ∙ sym (level-at_cell b (e ∷ es) i there ∙ elsewhere b e es (place_of b i) (apart i other))
    ])
  where
    apart : (i : ℕ) → i ≢ cell_of b e.pos → same_place e.pos (place_of b i) ≡ false
    apart i other = elim (cases_Bool (same_place e.pos (place_of b i))) [
      | inl same ↦ absurd (other (sym (cell-place b i) ∙ ap (cell_of b) (sym (place_one e.pos (place_of b i) same))))
      | inr differ ↦ differ
    ]

pub one_entity : (b : Plan) (e : Entity) (es : List Entity) → with_entity (with_all b es) e ≡ with_all b (e ∷ es)
unfolding with_level
one_entity b e es = elim (cases_Bool (has_level (block_at b e.pos))) [
  | inl some ↦ (let there : in_box b e.pos ≡ true = in_box-not_outside b b.blocks Air has_level e.pos refl some in
      rw (block-levels b es e.pos, some) (ap (λ (ls : List ℕ). record b { levels = ls }) (levels_more b e es there)))
  | inr none ↦ rw (block-levels b es e.pos, none) (ap (λ (ls : List ℕ). record b { levels = ls }) (map_alike (level_at b es) (level_at b (e ∷ es)) (places b) (λ p. without_level b e es p none)))
]
