-- Edits keep a build whole.
use Rattle.std.proofs.Common.{◌≡◌, ℕ, ◌≤◌, ◌<◌, ◌*◌, ◌⊎◌, Bool, true, false, cond, List, [], ◌∷◌, ◌++◌, length, set, refl, ◌∙◌, ap, arith, inl, inr}
use Rattle.std.specs.Prelude.{◌&&◌, not, All, IsTrue, ℤ, replicate}
use Rattle.std.specs.List.{list_all}
use Rattle.std.proofs.lemmas.Bool.{and_parts, and_from, or_from, or_parts, cases_Bool, cond_both, not-true}
use Rattle.std.proofs.lemmas.List.{length-set, length-replicate, get_or-replicate}
use Rattle.std.proofs.lemmas.List.Folds.{list_all-append, list_any-append}
use Rattle.block_table.specs.declared.Block.{Block}
use Rattle.block_table.specs.declared.Block.TheVariants.{Air}
use Rattle.block_table.specs.WrittenText.{is_listed}
use Rattle.circuit.specs.declared.Pos.{Pos}
use Rattle.build.specs.declared.Pending.{Pending}
use Rattle.build.specs.Place.{same_place}
use Rattle.build.specs.SamePlace.{place_one, same_place_either}
use Rattle.build.specs.Plan.{Plan, IsWhole, volume, in_box, cell_of, entry, block_at, level_fits, is_ticking, is_timely, is_pending, may_wait, is_once}
use Rattle.build.specs.Places.{inside, cell_below, entry-inside, entry-outside, entry-same_box, entry-set}
use Rattle.build.specs.Edits.{fresh, pending_elsewhere, with_block, with_level, with_pending}

-- ticks that may wait, without those at a place, may wait where the block at that place is another
waiting_elsewhere : (b c : Plan) (p : Pos) → ((q : Pos) → same_place q p ≡ false → block_at c q ≡ block_at b q) →
    (ticks : List Pending) → list_all (may_wait b) ticks ≡ true → list_all (may_wait c) (pending_elsewhere p ticks) ≡ true
waiting_elsewhere b c p same [] h = refl
waiting_elsewhere b c p same (tick ∷ ticks) h =
    let parts = and_parts (may_wait b tick) (list_all (may_wait b) ticks) h in
    let rest : list_all (may_wait c) (pending_elsewhere p ticks) ≡ true = waiting_elsewhere b c p same ticks parts.1 in
    elim (cases_Bool (same_place tick.pos p)) [
      | inl e ↦ rw e rest
      | inr e ↦ rw e (and_from (may_wait c tick) (list_all (may_wait c) (pending_elsewhere p ticks))
          (ap (λ (block : Block). is_ticking block && is_timely tick) (same tick.pos e) ∙ parts.0) rest)
    ]

waiting_still : (b c : Plan) → ((q : Pos) → block_at c q ≡ block_at b q) → (ticks : List Pending) → list_all (may_wait b) ticks ≡ true → list_all (may_wait c) ticks ≡ true
waiting_still b c same [] h = refl
waiting_still b c same (tick ∷ ticks) h =
    let parts = and_parts (may_wait b tick) (list_all (may_wait b) ticks) h in
    and_from (may_wait c tick) (list_all (may_wait c) ticks) (ap (λ (block : Block). is_ticking block && is_timely tick) (same tick.pos) ∙ parts.0) (waiting_still b c same ticks parts.1)

-- what isn't pending isn't pending elsewhere
pub not_pending_elsewhere : (p q : Pos) (ticks : List Pending) → is_pending ticks q ≡ false → is_pending (pending_elsewhere p ticks) q ≡ false
not_pending_elsewhere p q [] h = refl
not_pending_elsewhere p q (tick ∷ ticks) h =
    let parts = or_parts (same_place tick.pos q) (is_pending ticks q) h in
    let rest : is_pending (pending_elsewhere p ticks) q ≡ false = not_pending_elsewhere p q ticks parts.1 in
    elim (cases_Bool (same_place tick.pos p)) [
      | inl e ↦ rw e rest
      | inr e ↦ rw e (or_from (same_place tick.pos q) (is_pending (pending_elsewhere p ticks) q) parts.0 rest)
    ]

once_elsewhere : (p : Pos) (ticks : List Pending) → is_once ticks ≡ true → is_once (pending_elsewhere p ticks) ≡ true
once_elsewhere p [] h = refl
once_elsewhere p (tick ∷ ticks) h =
    let parts = and_parts (not (is_pending ticks tick.pos)) (is_once ticks) h in
    let rest : is_once (pending_elsewhere p ticks) ≡ true = once_elsewhere p ticks parts.1 in
    let apart : is_pending (pending_elsewhere p ticks) tick.pos ≡ false = not_pending_elsewhere p tick.pos ticks (not-true (is_pending ticks tick.pos) parts.0) in
    elim (cases_Bool (same_place tick.pos p)) [
      | inl e ↦ rw e rest
      | inr e ↦ rw (e, apart) rest
    ]

once_more : (tick : Pending) (ticks : List Pending) → is_once ticks ≡ true → is_pending ticks tick.pos ≡ false → is_once (ticks ++ tick ∷ []) ≡ true
once_more tick [] h k = refl
once_more tick (other ∷ ticks) h k =
    let parts = and_parts (not (is_pending ticks other.pos)) (is_once ticks) h in
    let apart = or_parts (same_place other.pos tick.pos) (is_pending ticks tick.pos) k in
    let none : is_pending (ticks ++ tick ∷ []) other.pos ≡ false =
    list_any-append (λ (t : Pending). same_place t.pos other.pos) ticks (tick ∷ [])
    ∙ or_from (is_pending ticks other.pos) (is_pending (tick ∷ []) other.pos)
    (not-true (is_pending ticks other.pos) parts.0)
    (or_from (same_place tick.pos other.pos) false (same_place_either tick.pos other.pos ∙ apart.0) refl) in
    rw none (once_more tick ticks parts.1 apart.1)

-- a test holds of an entry where it holds of what was put and of what stood there
entry_holds : {A : Type 0} (b : Plan) (xs : List A) (d x : A) (test : A → Bool) (p q : Pos) → length xs ≡ volume b → in_box b p ≡ true →
    test x ≡ true → test (entry b xs d q) ≡ true → test (entry b (set xs (cell_of b p) x) d q) ≡ true
entry_holds b xs d x test p q l here new old =
    ap test (entry-set b xs d x p q l here) ∙ cond_both (same_place q p) x (entry b xs d q) (λ y. test y ≡ true) (λ e. new) (λ e. old)

pub whole_with_block : (b : Plan) (p : Pos) (block : Block) → IsWhole b → in_box b p ≡ true → is_listed block ≡ true → IsWhole (with_block b p block)
unfolding with_block
whole_with_block b p block w here listed = record {
  narrow = w.narrow;
  low = w.low;
  shallow = w.shallow;
  small = w.small;
  blocks = length-set b.blocks (cell_of b p) block ∙ w.blocks;
  levels = length-set b.levels (cell_of b p) 0 ∙ w.levels;
  listed = λ q. ap is_listed (block_now q) ∙ cond_both (same_place q p) block (block_at b q) (λ x. is_listed x ≡ true) (λ e. listed) (λ e. w.listed q);
  fitting = λ q. rw (block_now q, level_now q) (fits q (cases_Bool (same_place q p)));
  waiting = waiting_elsewhere b c p (λ q e. block_now q ∙ rw e refl) b.pending w.waiting;
  once = once_elsewhere p b.pending w.once;
}
  where
    c : Plan
    c = with_block b p block

    block_now : (q : Pos) → entry c c.blocks Air q ≡ cond (same_place q p) block (block_at b q)
    block_now q = entry-same_box b c c.blocks Air q refl refl refl ∙ entry-set b b.blocks Air block p q w.blocks here

    level_now : (q : Pos) → entry c c.levels 0 q ≡ cond (same_place q p) 0 (entry b b.levels 0 q)
    level_now q = entry-same_box b c c.levels 0 q refl refl refl ∙ entry-set b b.levels 0 0 p q w.levels here

    fits : (q : Pos) → (same_place q p ≡ true) ⊎ (same_place q p ≡ false) → level_fits (cond (same_place q p) block (block_at b q)) (cond (same_place q p) 0 (entry b b.levels 0 q)) ≡ true
    fits q (inl e) = rw e refl
    fits q (inr e) = rw e (w.fitting q)

pub whole_with_level : (b : Plan) (p : Pos) (level : ℕ) → IsWhole b → in_box b p ≡ true → level_fits (block_at b p) level ≡ true → IsWhole (with_level b p level)
unfolding with_level
whole_with_level b p level w here fit = record {
  narrow = w.narrow;
  low = w.low;
  shallow = w.shallow;
  small = w.small;
  blocks = w.blocks;
  levels = length-set b.levels (cell_of b p) level ∙ w.levels;
  listed = λ q. ap is_listed (block_now q) ∙ w.listed q;
  fitting = λ q. rw (block_now q, level_now q) (fits q (cases_Bool (same_place q p)));
  waiting = waiting_still b c block_now b.pending w.waiting;
  once = w.once;
}
  where
    c : Plan
    c = with_level b p level

    block_now : (q : Pos) → block_at c q ≡ block_at b q
    block_now q = entry-same_box b c b.blocks Air q refl refl refl

    level_now : (q : Pos) → entry c c.levels 0 q ≡ cond (same_place q p) level (entry b b.levels 0 q)
    level_now q = entry-same_box b c c.levels 0 q refl refl refl ∙ entry-set b b.levels 0 level p q w.levels here

    fits : (q : Pos) → (same_place q p ≡ true) ⊎ (same_place q p ≡ false) → level_fits (block_at b q) (cond (same_place q p) level (entry b b.levels 0 q)) ≡ true
    fits q (inl e) = rw (e, place_one q p e) fit
    fits q (inr e) = rw e (w.fitting q)

pub whole_with_pending : (b : Plan) (tick : Pending) → IsWhole b → may_wait b tick ≡ true → is_pending b.pending tick.pos ≡ false → IsWhole (with_pending b tick)
unfolding with_pending
whole_with_pending b tick w wait apart = record {
  narrow = w.narrow;
  low = w.low;
  shallow = w.shallow;
  small = w.small;
  blocks = w.blocks;
  levels = w.levels;
  listed = λ q. ap is_listed (block_now q) ∙ w.listed q;
  fitting = λ q. rw (block_now q, entry-same_box b c b.levels 0 q refl refl refl) (w.fitting q);
  waiting = waiting_still b c block_now (b.pending ++ tick ∷ [])
      (list_all-append (may_wait b) b.pending (tick ∷ []) ∙ and_from (list_all (may_wait b) b.pending) (list_all (may_wait b) (tick ∷ [])) w.waiting (and_from (may_wait b tick) true wait refl));
  once = once_more tick b.pending w.once apart;
}
  where
    c : Plan
    c = with_pending b tick

    block_now : (q : Pos) → block_at c q ≡ block_at b q
    block_now q = entry-same_box b c b.blocks Air q refl refl refl

-- an entry of equal ones is that one
entry-replicate : {A : Type 0} (b : Plan) (x : A) (p : Pos) → entry b (replicate (volume b) x) x p ≡ x
entry-replicate b x p = elim (cases_Bool (in_box b p)) [
  | inl h ↦ entry-inside b (replicate (volume b) x) x p h ∙ get_or-replicate (volume b) (cell_of b p) x x (cell_below b p (inside b p h))
  | inr h ↦ entry-outside b (replicate (volume b) x) x p h
]

-- what holds of the blocks and of air holds of what stands at a place
listed_at : (b : Plan) (p : Pos) → length b.blocks ≡ volume b → All (λ block. IsTrue (is_listed block)) b.blocks → is_listed (block_at b p) ≡ true
listed_at b p l h = elim (cases_Bool (in_box b p)) [
  | inl e ↦ ap is_listed (entry-inside b b.blocks Air p e) ∙ h (cell_of b p) Air (omega (arith, l, cell_below b p (inside b p e)))
  | inr e ↦ ap is_listed (entry-outside b b.blocks Air p e)
]

pub whole_fresh : (width height depth : ℕ) (data_version : ℤ) (blocks : List Block) → width < 65536 → height < 65536 → depth < 65536 →
    width * (depth * height) ≤ 16777216 → length blocks ≡ width * (depth * height) → All (λ block. IsTrue (is_listed block)) blocks →
    IsWhole (fresh width height depth data_version blocks)
whole_fresh width height depth data_version blocks narrow low shallow small full listed = record {
  narrow = narrow;
  low = low;
  shallow = shallow;
  small = small;
  blocks = full;
  levels = length-replicate (width * (depth * height)) 0;
  listed = λ q. listed_at b q full listed;
  fitting = λ q. rw (entry-replicate {A = ℕ} b 0 q) refl;
  waiting = refl;
  once = refl;
}
  where
    b : Plan
    b = fresh width height depth data_version blocks
