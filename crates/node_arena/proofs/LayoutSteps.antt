-- What an insert and a removal leave of the layout, and what it counts.
use Rattle.std.proofs.Common.{◌≡◌, ◌≢◌, ℕ, zero, suc, ◌+◌, ◌-◌, ◌<◌, ◌≤◌, ◌^◌, List, [], ◌∷◌, ◌++◌, Option, Some, None, refl, sym, ap, ◌∙◌, subst, arith, map, set, length, inl, inr, ◌⊎◌, cond}
use Rattle.std.specs.Prelude.{IsSome, OnSome, is_some, count_by, slice_index_or}
use Rattle.std.proofs.lemmas.List.{length-append, length-set}
use Rattle.std.proofs.lemmas.List.Sums.{sum_by-cons, sum_by_push}
use Rattle.slab.specs.Slab.{Slab, get, slab_len}
use Rattle.node_arena.specs.Items.{keys_from}
use Rattle.node_arena.specs.Layout.{entry_at, IsLaidOut}

-- a key of the longer list is one of the shorter, or the new one
index_after_push : (places : List (Option ℕ)) (place key at : ℕ) → slice_index_or (places ++ Some place ∷ []) key None ≡ Some at →
    (slice_index_or places key None ≡ Some at) ⊎ ((key ≡ length places) × (place ≡ at))
index_after_push [] place zero at h = inr (refl, cc)
index_after_push [] place (suc key) at h = absurd (cc)
index_after_push (p ∷ places) place zero at h = inl h
index_after_push (p ∷ places) place (suc key) at h = elim (index_after_push places place key at h) [
  | inl a ↦ inl a
  | inr b ↦ inr (omega (arith, b.0), b.1)
]

-- the key that goes has no place, and the others have what they had
index_after_unset : (places : List (Option ℕ)) (gone key at : ℕ) → slice_index_or (set places gone None) key None ≡ Some at →
    (key ≢ gone) × (slice_index_or places key None ≡ Some at)
index_after_unset [] gone key at h = absurd (cc)
index_after_unset (p ∷ places) zero zero at h = absurd (cc)
index_after_unset (p ∷ places) zero (suc key) at h = ((λ e. absurd (omega arith)), h)
index_after_unset (p ∷ places) (suc gone) zero at h = ((λ e. absurd (omega arith)), h)
index_after_unset (p ∷ places) (suc gone) (suc key) at h =
    let a = index_after_unset places gone key at h in ((λ e. a.0 (omega arith)), a.1)

-- how many keys have a place, one by one
count-cons : {A : Type 0} (x : Option A) (xs : List (Option A)) → count_by is_some (x ∷ xs) ≡ cond (is_some x) 1 0 + count_by is_some xs
count-cons {A} x xs = sum_by-cons (λ (y : Option A). cond (is_some y) 1 0) x xs

count-push : (places : List (Option ℕ)) (place : ℕ) → count_by is_some (places ++ Some place ∷ []) ≡ count_by is_some places + 1
count-push places place = sum_by_push (λ (y : Option ℕ). cond (is_some y) 1 0) places (Some place)

count-unset : (places : List (Option ℕ)) (gone at : ℕ) → slice_index_or places gone None ≡ Some at → count_by is_some (set places gone None) + 1 ≡ count_by is_some places
count-unset [] gone at h = absurd (cc)
count-unset (p ∷ places) zero at h = rw (count-cons p places, count-cons None places, h) (omega arith)
count-unset (p ∷ places) (suc gone) at h = rw (count-cons p places, count-cons p (set places gone None)) (omega (arith, count-unset places gone at h))

-- an item more under a new key
pub laid_out_push : {T : Type 0} (old new : Slab T) (places : List (Option ℕ)) (place room more spare : ℕ) (item : T) → IsLaidOut old places room spare →
    get old place ≡ None → get new place ≡ Some item → ((other : ℕ) → other ≢ place → get new other ≡ get old other) → slab_len new ≡ slab_len old + 1 →
    slab_len new ≤ new.capacity → old.capacity ≤ new.capacity → length places + 1 < 2 ^ 32 → room ≤ more → length places + 1 ≤ more →
    IsLaidOut new (places ++ Some place ∷ []) more (spare - 1)
laid_out_push {T} old new places place room more spare item laid vacant changed others len fits capacity few rooms fits_places = record {
  holds = λ key at h. elim (index_after_push places place key at h) [
    | inl a ↦ held at (laid.holds key at a)
    | inr b ↦ subst (λ p. IsSome (get new p)) b.1 (rw changed refl)
  ];
  apart = λ a b at h k. elim (index_after_push places place a at h) [
    | inl x ↦ elim (index_after_push places place b at k) [
      | inl y ↦ laid.apart a b at x y
      | inr y ↦ absurd (away a (x ∙ ap Some (sym y.1)))
    ]
    | inr x ↦ elim (index_after_push places place b at k) [
      | inl y ↦ absurd (away b (y ∙ ap Some (sym x.1)))
      | inr y ↦ x.0 ∙ sym y.0
    ]
  ];
  counted = len ∙ ap (λ n. n + 1) laid.counted ∙ sym (count-push places place);
  few = let e : length (places ++ Some place ∷ []) ≡ length places + 1 = length-append places (Some place ∷ []) in omega arith;
  slots_room = let r : slab_len old + spare ≤ old.capacity = laid.slots_room in omega arith;
  places_room =
      let e : length (places ++ Some place ∷ []) ≡ length places + 1 = length-append places (Some place ∷ []) in
      let r : length places + spare ≤ room = laid.places_room in omega arith;
}
  where
    away : (key : ℕ) → slice_index_or places key None ≢ Some place
    away key e = let some : IsSome (get old place) = laid.holds key place e in let none : IsSome {T = T} None = rw vacant at some in absurd (cc)

    held : (at : ℕ) → IsSome (get old at) → IsSome (get new at)
    held at h = let apart_from : at ≢ place = (λ e. let some : IsSome (get old place) = subst (λ p. IsSome (get old p)) e h in let none : IsSome {T = T} None = rw vacant at some in absurd (cc)) in
        rw (others at apart_from) h

-- an item less
pub laid_out_unset : {T : Type 0} (old new : Slab T) (places : List (Option ℕ)) (place gone room more spare : ℕ) → IsLaidOut old places room spare →
    slice_index_or places gone None ≡ Some place → ((other : ℕ) → other ≢ place → get new other ≡ get old other) → slab_len new + 1 ≡ slab_len old →
    new.capacity ≡ old.capacity → room ≤ more → IsLaidOut new (set places gone None) more spare
laid_out_unset old new places place gone room more spare laid here others len capacity rooms = record {
  holds = λ key at h.
      let a : (key ≢ gone) × (slice_index_or places key None ≡ Some at) = index_after_unset places gone key at h in
      let apart_from : at ≢ place = (λ e. a.0 (laid.apart key gone place (a.1 ∙ ap Some e) here)) in
      rw (others at apart_from) (laid.holds key at a.1);
  apart = λ a b at h k. laid.apart a b at (index_after_unset places gone a at h).1 (index_after_unset places gone b at k).1;
  counted =
      let e : count_by is_some (set places gone None) + 1 ≡ count_by is_some places = count-unset places gone place here in
      let c : slab_len old ≡ count_by is_some places = laid.counted in omega arith;
  few = rw (length-set places gone None) laid.few;
  slots_room = let r : slab_len old + spare ≤ old.capacity = laid.slots_room in omega arith;
  places_room =
      let e : length (set places gone None) ≡ length places = length-set places gone None in
      let r : length places + spare ≤ room = laid.places_room in omega arith;
}

-- the first of the keys
keys_one : {T : Type 0} (entry : Option T) (from : ℕ) (entries : List (Option T)) → IsSome entry → keys_from from (entry ∷ entries) ≡ from ∷ keys_from (suc from) entries
keys_one None from entries h = absurd (cc)
keys_one (Some item) from entries h = refl

-- the keys with a place are those that hold an item
pub keys-entries : {T : Type 0} (slots : Slab T) (places : List (Option ℕ)) (from : ℕ) → ((key place : ℕ) → slice_index_or places key None ≡ Some place → IsSome (get slots place)) →
    keys_from from (map (entry_at slots) places) ≡ keys_from from places
keys-entries slots [] from holds = refl
keys-entries slots (None ∷ places) from holds = keys-entries slots places (suc from) (λ key. holds (suc key))
keys-entries slots (Some p ∷ places) from holds = keys_one (get slots p) from (map (entry_at slots) places) (holds 0 p refl)
    ∙ ap (λ keys. from ∷ keys) (keys-entries slots places (suc from) (λ key. holds (suc key)))

-- and so are counted
pub count-entries : {T : Type 0} (slots : Slab T) (places : List (Option ℕ)) → ((key place : ℕ) → slice_index_or places key None ≡ Some place → IsSome (get slots place)) →
    count_by is_some (map (entry_at slots) places) ≡ count_by is_some places
count-entries slots [] holds = refl
count-entries slots (None ∷ places) holds = rw (count-cons None (map (entry_at slots) places), count-cons None places) (ap (λ n. 0 + n) (count-entries slots places (λ key. holds (suc key))))
count-entries slots (Some p ∷ places) holds =
    let some : IsSome (get slots p) = holds 0 p refl in
    rw (count-cons (get slots p) (map (entry_at slots) places), count-cons (Some p) places, some) (ap (λ n. 1 + n) (count-entries slots places (λ key. holds (suc key))))

-- where a key holds nothing, taking it out changes nothing
pub set-none : {A : Type 0} (entries : List (Option A)) (key : ℕ) → slice_index_or entries key None ≡ None → set entries key None ≡ entries
set-none [] key h = refl
set-none (e ∷ entries) zero h = ap (λ x. x ∷ entries) (sym h)
set-none (e ∷ entries) (suc key) h = ap (λ xs. e ∷ xs) (set-none entries key h)

-- a key without a place holds nothing
pub entry_at_none : {T : Type 0} (slots : Slab T) (places : List (Option ℕ)) (key : ℕ) → slice_index_or places key None ≡ None → slice_index_or (map (entry_at slots) places) key None ≡ None
entry_at_none slots [] key here = refl
entry_at_none slots (p ∷ places) zero here = rw here refl
entry_at_none slots (p ∷ places) (suc key) here = entry_at_none slots places key here

-- what holds where there is a value, where there is one
pub on_some_holds : {T P : Type 0} (o : Option T) → IsSome o → OnSome o P → P
on_some_holds None some h = absurd (cc)
on_some_holds (Some x) some h = h
