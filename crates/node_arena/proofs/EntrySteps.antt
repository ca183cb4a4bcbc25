-- What an edit of the slab and of the places leaves of the entries.
use Rattle.std.proofs.Common.{◌≡◌, ◌≢◌, ℕ, zero, suc, ◌<◌, List, [], ◌∷◌, ◌++◌, Option, Some, None, refl, ap, ap₂, ◌∙◌, arith, map, set, length}
use Rattle.std.proofs.lemmas.Bool.{false≢true}
use Rattle.std.specs.Prelude.{IsSome, slice_index_or}
use Rattle.slab.specs.Slab.{Slab, get, with_value}
use Rattle.node_arena.specs.Lending.{with_item}
use Rattle.std.proofs.lemmas.List.{get_or-set_same, get_or-set_other}
use Rattle.node_arena.specs.Layout.{entry_at, items_of, IsLaidOut}

-- the entries where no place is the one that changes
pub entries_same : {T : Type 0} (old new : Slab T) (place : ℕ) → ((other : ℕ) → other ≢ place → get new other ≡ get old other) →
    (places : List (Option ℕ)) → ((key : ℕ) → slice_index_or places key None ≢ Some place) → map (entry_at new) places ≡ map (entry_at old) places
entries_same old new place others [] away = refl
entries_same old new place others (None ∷ places) away = ap (λ xs. None ∷ xs) (entries_same old new place others places (λ key. away (suc key)))
entries_same old new place others (Some p ∷ places) away =
    ap₂ (λ x xs. x ∷ xs) (others p (λ e. away 0 (ap Some e))) (entries_same old new place others places (λ key. away (suc key)))

-- a new item stands behind the others
pub entries_push : {T : Type 0} (old new : Slab T) (place : ℕ) (item : T) → get new place ≡ Some item → ((other : ℕ) → other ≢ place → get new other ≡ get old other) →
    (places : List (Option ℕ)) → ((key : ℕ) → slice_index_or places key None ≢ Some place) →
    map (entry_at new) (places ++ Some place ∷ []) ≡ map (entry_at old) places ++ Some item ∷ []
entries_push old new place item here others [] away = ap (λ x. x ∷ []) here
entries_push old new place item here others (None ∷ places) away = ap (λ xs. None ∷ xs) (entries_push old new place item here others places (λ key. away (suc key)))
entries_push old new place item here others (Some p ∷ places) away =
    ap₂ (λ x xs. x ∷ xs) (others p (λ e. away 0 (ap Some e))) (entries_push old new place item here others places (λ key. away (suc key)))

-- one key's item goes, and its place stands for no other key
pub entries_remove : {T : Type 0} (old new : Slab T) (place key : ℕ) → ((other : ℕ) → other ≢ place → get new other ≡ get old other) →
    (places : List (Option ℕ)) → slice_index_or places key None ≡ Some place → ((other : ℕ) → other ≢ key → slice_index_or places other None ≢ Some place) →
    map (entry_at new) (set places key None) ≡ set (map (entry_at old) places) key None
entries_remove old new place key others [] here away = refl
entries_remove old new place zero others (p ∷ places) here away =
    ap (λ xs. None ∷ xs) (entries_same old new place others places (λ k. away (suc k) (omega arith)))
entries_remove old new place (suc key) others (None ∷ places) here away =
    ap (λ xs. None ∷ xs) (entries_remove old new place key others places here (λ k n. away (suc k) (λ e. n (omega arith))))
entries_remove old new place (suc key) others (Some p ∷ places) here away =
    ap₂ (λ x xs. x ∷ xs) (others p (λ e. away 0 (omega arith) (ap Some e))) (entries_remove old new place key others places here (λ k n. away (suc k) (λ e. n (omega arith))))

-- an empty place stands for no key
pub away_from_vacant : {T : Type 0} (slots : Slab T) (places : List (Option ℕ)) (room spare place : ℕ) → IsLaidOut slots places room spare → get slots place ≡ None → (key : ℕ) → slice_index_or places key None ≢ Some place
away_from_vacant slots places room spare place laid vacant key e =
    let some = laid.holds key place e in false≢true (rw vacant at some)

-- one key's item is written, and its place stands for no other key
pub entries_with : {T : Type 0} (old new : Slab T) (place key : ℕ) (item : T) → get new place ≡ Some item → ((other : ℕ) → other ≢ place → get new other ≡ get old other) →
    (places : List (Option ℕ)) → slice_index_or places key None ≡ Some place → ((other : ℕ) → other ≢ key → slice_index_or places other None ≢ Some place) →
    map (entry_at new) places ≡ set (map (entry_at old) places) key (Some item)
entries_with old new place key item changed others [] here away = refl
entries_with old new place zero item changed others (None ∷ places) here away = absurd (cc)
entries_with old new place zero item changed others (Some p ∷ places) here away =
    let same : p ≡ place = cc in
    ap₂ (λ x xs. x ∷ xs) (ap (get new) same ∙ changed) (entries_same old new place others places (λ k. away (suc k) (omega arith)))
entries_with old new place (suc key) item changed others (None ∷ places) here away =
    ap (λ xs. None ∷ xs) (entries_with old new place key item changed others places here (λ k n. away (suc k) (λ e. n (omega arith))))
entries_with old new place (suc key) item changed others (Some p ∷ places) here away =
    ap₂ (λ x xs. x ∷ xs) (others p (λ e. away 0 (omega arith) (ap Some e))) (entries_with old new place key item changed others places here (λ k n. away (suc k) (λ e. n (omega arith))))

-- what is there stands at an index
place_below : {T : Type 0} (slots : List (Option T)) (place : ℕ) → IsSome (slice_index_or slots place None) → place < length slots
place_below [] place h = absurd (false≢true h)
place_below (s ∷ slots) zero h = omega arith
place_below (s ∷ slots) (suc place) h = omega (arith, place_below slots place h)

-- so the arena has the written item under the key
pub view_with_value : {T : Type 0} (slots : Slab T) (places : List (Option ℕ)) (room spare place key : ℕ) (item : T) → IsLaidOut slots places room spare →
    slice_index_or places key None ≡ Some place → items_of (with_value slots place item) places spare ≡ with_item (items_of slots places spare) key item
view_with_value slots places room spare place key item laid here =
    ap (λ entries. record { entries = entries; spare = spare })
    (entries_with slots (with_value slots place item) place key item
    (get_or-set_same slots.slots place (Some item) None (place_below slots.slots place (laid.holds key place here)))
    (λ other n. get_or-set_other slots.slots place other (Some item) None n) places here
    (λ other n e. n (laid.apart other key place e here)))

-- the item under a key is what its place holds
pub entry_at_key : {T : Type 0} (slots : Slab T) (places : List (Option ℕ)) (place key : ℕ) → slice_index_or places key None ≡ Some place → get slots place ≡ slice_index_or (map (entry_at slots) places) key None
entry_at_key slots [] place key here = absurd (cc)
entry_at_key slots (p ∷ places) place zero here = rw here refl
entry_at_key slots (p ∷ places) place (suc key) here = entry_at_key slots places place key here
