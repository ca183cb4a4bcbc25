-- A build that bytes mean is whole.
use Rattle.std.proofs.Common.{◌≡◌, ℕ, zero, suc, cond, leb-true, ltb-false, ◌+◌, ◌<◌, ◌≤◌, ℤ, pos, negsuc, List, [], ◌∷◌, ◌++◌, length, replicate, append_assoc, Option, Some, None, Bool, true, false, refl, sym, ap, ◌∙◌, subst, arith, inl, inr}
use Rattle.std.specs.Prelude.{not, ◌&&◌, nat_le}
use Rattle.std.specs.Option.{option_map}
use Rattle.std.specs.List.{filter_map}
use Rattle.std.proofs.Math.Facts.{Fits-of_z, Fits-lt-pow}
use Rattle.std.proofs.lemmas.Bool.{cases_Bool, and_parts, and_from, not-true, false≢true}
use Rattle.std.proofs.lemmas.List.{append-nil, length-map}
use Rattle.block_table.specs.declared.Block.{Block}
use Rattle.block_table.specs.declared.Block.TheVariants.{Air, Comparator, Container}
use Rattle.block_table.specs.Facts.{slots}
use Rattle.item_table.specs.Strength.{strength_of}
use Rattle.nbt.specs.Plain.{PlainTree, PlainFields, PlainRoot, short}
use Rattle.nbt.specs.Spelling.{CanStand, FieldsCanStand}
use Rattle.build.specs.declared.Pending.{Pending}
use Rattle.build.specs.Plan.{Plan, IsWhole, volume, block_at, has_level, level_fits, is_ticking, is_timely, is_pending}
use Rattle.build.specs.Edits.{with_pending}
use Rattle.build.specs.Places.{in_box-not_outside}
use Rattle.build.proofs.LevelSteps.{fits-from}
use Rattle.build.proofs.WholeEdits.{whole_fresh, whole_with_level, whole_with_pending}
use Rattle.schematic.specs.declared.FieldName.{FieldName}
use Rattle.schematic.specs.Fields.{text_of, size_in, held, main, width_of, height_of, depth_of, data_version_of, volume_of, has_right_version, is_too_large, cells_in, pending_in}
use Rattle.schematic.specs.Palette.{clash, unknown_text, block_numbered}
use Rattle.schematic.specs.Presence.{missing, wrong_kind}
use Rattle.schematic.specs.Cells.{varints, is_right, fault_from, cells_fault, blocks_of}
use Rattle.schematic.specs.Entities.{Entity, level_by, level_in, is_level, items_of, signal, with_entity, with_all, counting, signal_fault}
use Rattle.schematic.specs.PendingTicks.{tick_of, fives, comes_after, with_tick, fault_after, pending_fault, ticks_of, with_ticks}
use Rattle.schematic.specs.File.{Refusal, missing_field, wrong_field, wrong_version, too_large, palette_clash, wrong_cells, unknown_block, wrong_signal, wrong_pending, only, first_some, of_fields, of_cells, of_state, refusal_in, entries_in, bare, build_of, file}
use Rattle.schematic.proofs.Firsts.{all_listed}
use Rattle.schematic.proofs.Levels.{strength_small, no_entities, one_entity}
use Rattle.schematic.proofs.Fives.{block-pending, fault_wrong, fault_right}
use Rattle.schematic.proofs.Standing.{named_stands, main_stands}
use Rattle.schematic.proofs.States.{bare-levels, bare-pending, pending-levels}

-- ---- no cause holds

none_fourth : (a b c d : Option Refusal) → first_some (a ∷ b ∷ c ∷ d ∷ []) ≡ None → d ≡ None
none_fourth None None None d h = by_last d h
  where
    by_last : (o : Option Refusal) → first_some (o ∷ []) ≡ None → o ≡ None
    by_last None e = refl
    by_last (Some r) e = absurd (cc)
none_fourth (Some r) b c d h = absurd (cc)
none_fourth None (Some r) c d h = absurd (cc)
none_fourth None None (Some r) d h = absurd (cc)

none_second : (a b : Option Refusal) (rest : List (Option Refusal)) → first_some (a ∷ b ∷ rest) ≡ None → b ≡ None
none_second None None rest h = refl
none_second None (Some r) rest h = absurd (cc)
none_second (Some r) b rest h = absurd (cc)

none_both : (xs ys : List (Option Refusal)) → first_some (xs ++ ys) ≡ None → (first_some xs ≡ None) × (first_some ys ≡ None)
none_both [] ys h = (refl, h)
none_both (None ∷ xs) ys h = none_both xs ys h
none_both (Some r ∷ xs) ys h = absurd (cc)

none_told : {A : Type 0} (tell : A → Refusal) (o : Option A) → option_map tell o ≡ None → o ≡ None
none_told tell None h = refl
none_told tell (Some a) h = absurd (cc)

none_only : (test : Bool) (r : Refusal) → only test r ≡ None → test ≡ false
none_only true r h = absurd (cc)
none_only false r h = refl

-- ---- the box

size_small : (depth : ℕ) (o : Option PlainTree) → ((t : PlainTree) → o ≡ Some t → CanStand depth t) → size_in o < 65536
size_small depth (Some (short z)) h = Fits-lt-pow (Fits-of_z (h (short z) refl))
size_small depth (Some _) h = omega arith
size_small depth None h = omega arith

held_small : (root : PlainRoot) → FieldsCanStand 1 root.fields → (name : FieldName) → size_in (held name (main root.fields)) < 65536
held_small root h name =
    let m = main_stands root.fields h in
    size_small m.0 (held name (main root.fields)) (λ t e. named_stands m.0 (text_of name) (main root.fields) t m.1 e)

next_right : (numbered : ℤ → Option Block) (place n : ℕ) (v : List ℕ) (vs : List (List ℕ)) → is_right numbered v ≡ true → fault_from numbered place (suc n) (v ∷ vs) ≡ fault_from numbered (place + length v) n vs
next_right numbered place n v vs e = rw e refl

next_wrong : (numbered : ℤ → Option Block) (place n : ℕ) (v : List ℕ) (vs : List (List ℕ)) → is_right numbered v ≡ false → fault_from numbered place (suc n) (v ∷ vs) ≡ Some place
next_wrong numbered place n v vs e = rw e refl

all_right : (numbered : ℤ → Option Block) (place n : ℕ) (vs : List (List ℕ)) → fault_from numbered place n vs ≡ None → length vs ≡ n
all_right numbered place zero [] h = refl
all_right numbered place zero (v ∷ vs) h = absurd (cc)
all_right numbered place (suc n) [] h = absurd (cc)
all_right numbered place (suc n) (v ∷ vs) h = elim (cases_Bool (is_right numbered v)) [
  | inl e ↦ ap suc (all_right numbered (place + length v) n vs (sym (next_right numbered place n v vs e) ∙ h))
  | inr e ↦ absurd (cc (next_wrong numbered place n v vs e, h))
]

bare_whole : (root : PlainRoot) → FieldsCanStand 1 root.fields → volume_of root.fields ≤ 16777216
    → cells_fault (block_numbered (entries_in root.fields)) (volume_of root.fields) (cells_in root.fields) ≡ None → IsWhole (bare root.fields)
unfolding bare width_of height_of depth_of cells_fault blocks_of
bare_whole root h small none =
    let R : PlainFields = root.fields in
    let blocks : List Block = blocks_of (block_numbered (entries_in R)) (cells_in R) in
    whole_fresh (width_of R) (height_of R) (depth_of R) (data_version_of R) blocks
    (held_small root h FieldName.Width) (held_small root h FieldName.Height) (held_small root h FieldName.Length) small
    (length-map (varints (cells_in R)) _ ∙ all_right (block_numbered (entries_in R)) 0 (volume_of R) (varints (cells_in R)) none)
    (all_listed (entries_in R) (cells_in R) blocks refl)

-- ---- levels

level_le : (number : ℤ) → level_in number ≤ 15
level_le (pos k) = elim (cases_Bool (is_level (pos k))) [
  | inl h ↦ rw h (leb-true k 15 (and_parts (nat_le 0 k) (nat_le k 15) h).1)
  | inr h ↦ rw h (omega arith)
]
level_le (negsuc k) = omega arith

level_small : (block : Block) (e : Entity) → level_fits block (level_by block e.further) ≡ true
level_small (Comparator facing subtract) e = fits-from (Comparator facing subtract) (level_in (signal e.further)) refl (level_le (signal e.further))
level_small (Container name) e = fits-from (Container name) (strength_of (slots (Container name)) (items_of e.further)) refl (strength_small (slots (Container name)) (items_of e.further))
level_small _ e = refl

entity_whole : (b : Plan) (e : Entity) → IsWhole b → IsWhole (with_entity b e)
entity_whole b e w = elim (cases_Bool (has_level (block_at b e.pos))) [
  | inl h ↦ rw h (whole_with_level b e.pos (level_by (block_at b e.pos) e.further) w (in_box-not_outside b b.blocks Air has_level e.pos refl h) (level_small (block_at b e.pos) e))
  | inr h ↦ rw h w
]

levels_whole : (b : Plan) (es : List Entity) → b.levels ≡ replicate (volume b) 0 → IsWhole b → IsWhole (with_all b es)
levels_whole b [] zeros w = subst IsWhole (no_entities b zeros) w
levels_whole b (e ∷ es) zeros w = subst IsWhole (one_entity b e es) (entity_whole (with_all b es) e (levels_whole b es zeros w))

-- ---- pending ticks

made_timely : (made tick : Pending) (test : Bool) → (test ≡ true → is_timely made ≡ true) → cond test (Some made) None ≡ Some tick → is_timely tick ≡ true
made_timely made tick true h e = let same : made ≡ tick = cc in subst (λ (t : Pending). is_timely t ≡ true) same (h refl)
made_timely made tick false h e = absurd (cc)

timely : (group : List ℤ) (tick : Pending) → tick_of group ≡ Some tick → is_timely tick ≡ true
timely (x ∷ (y ∷ (z ∷ (pos due ∷ (pos priority ∷ []))))) tick e =
    made_timely _ tick ((nat_le 1 due && nat_le due 15) && (nat_le 0 priority && nat_le priority 3))
    (λ t. let parts = and_parts (nat_le 1 due && nat_le due 15) (nat_le 0 priority && nat_le priority 3) t in
    and_from (nat_le 1 due && nat_le due 15) (nat_le priority 3) parts.0 (and_parts (nat_le 0 priority) (nat_le priority 3) parts.1).1) e
timely (x ∷ (y ∷ (z ∷ (pos due ∷ (negsuc priority ∷ []))))) tick e =
    made_timely _ tick ((nat_le 1 due && nat_le due 15) && false) (λ t. absurd (false≢true ((and_parts (nat_le 1 due && nat_le due 15) false t).1))) e
timely (x ∷ (y ∷ (z ∷ (negsuc due ∷ (priority ∷ []))))) tick e = absurd (cc)
timely _ tick e = absurd (cc)

comes_alike : (b c : Plan) → c ≡ record b { pending = c.pending } → (before : List Pending) (o : Option Pending) → comes_after c before o ≡ comes_after b before o
comes_alike b c e before None = refl
comes_alike b c e before (Some tick) = ap (λ block. is_ticking block && not (is_pending before tick.pos)) (block-pending b c tick.pos e)

-- the pending ticks of a build don't matter to what stands in it
fault_alike : (b c : Plan) → c ≡ record b { pending = c.pending } → (n : ℕ) (before : List Pending) (groups : List (List ℤ)) → fault_after c n before groups ≡ fault_after b n before groups
fault_alike b c e n before [] = refl
fault_alike b c e n before (g ∷ groups) = elim (cases_Bool (comes_after b before (tick_of g))) [
  | inl h ↦ rw (comes_alike b c e before (tick_of g), h) (fault_alike b c e (n + 1) (with_tick before (tick_of g)) groups)
  | inr h ↦ rw (comes_alike b c e before (tick_of g), h) refl
]

one_pending : (b : Plan) (tick : Pending) → with_pending b tick ≡ record b { pending = (with_pending b tick).pending }
unfolding with_pending
one_pending b tick = refl

pending_put : (b : Plan) (tick : Pending) → (with_pending b tick).pending ≡ b.pending ++ tick ∷ []
unfolding with_pending
pending_put b tick = refl

-- a group that is a tick which may wait, where the others behind it are right too
tick_whole : (b : Plan) (tick : Pending) (more : List Pending) → with_ticks (with_pending b tick) more ≡ with_ticks b (tick ∷ more)
unfolding with_pending
tick_whole b tick more = ap (λ (ticks : List Pending). record b { pending = ticks }) (append_assoc b.pending (tick ∷ []) more)

group_whole : (g : List ℤ) (groups : List (List ℤ)) (b : Plan) (n : ℕ) (o : Option Pending) → tick_of g ≡ o → IsWhole b → fault_after b n b.pending (g ∷ groups) ≡ None
    → ((c : Plan) → IsWhole c → fault_after c (n + 1) c.pending groups ≡ None → IsWhole (with_ticks c (filter_map tick_of groups)))
    → IsWhole (with_ticks b (filter_map tick_of (g ∷ groups)))
group_whole g groups b n None e w none others = let wrong : fault_after b n b.pending (g ∷ groups) ≡ Some n = rw e refl in absurd (cc)
group_whole g groups b n (Some tick) e w none others = elim (cases_Bool (is_ticking (block_at b tick.pos) && not (is_pending b.pending tick.pos))) [
  | inl h ↦ (let parts = and_parts (is_ticking (block_at b tick.pos)) (not (is_pending b.pending tick.pos)) h in
      let c : Plan = with_pending b tick in
      let whole : IsWhole c = whole_with_pending b tick w (and_from (is_ticking (block_at b tick.pos)) (is_timely tick) parts.0 (timely g tick e)) (not-true (is_pending b.pending tick.pos) parts.1) in
      let next : fault_after c (n + 1) c.pending groups ≡ None =
      fault_alike b c (one_pending b tick) (n + 1) c.pending groups ∙ ap (λ before. fault_after b (n + 1) before groups) (pending_put b tick) ∙ sym (fault_right b n b.pending g groups tick e h) ∙ none in
      let told : filter_map tick_of (g ∷ groups) ≡ tick ∷ filter_map tick_of groups = rw e refl in
      subst (λ ticks. IsWhole (with_ticks b ticks)) (sym told) (subst IsWhole (tick_whole b tick (filter_map tick_of groups)) (others c whole next)))
  | inr h ↦ (let wrong : fault_after b n b.pending (g ∷ groups) ≡ Some n = fault_wrong b n b.pending g groups tick e h in absurd (cc))
]

ticks_whole : (groups : List (List ℤ)) (b : Plan) (n : ℕ) → IsWhole b → fault_after b n b.pending groups ≡ None → IsWhole (with_ticks b (filter_map tick_of groups))
ticks_whole [] b n w none = subst IsWhole (ap (λ (ticks : List Pending). record b { pending = ticks }) (sym (append-nil b.pending))) w
ticks_whole (g ∷ groups) b n w none = group_whole g groups b n (tick_of g) refl w none (λ c whole next. ticks_whole groups c (n + 1) whole next)

-- ---- the file

with_its_ticks : (R : PlainFields) → IsWhole (with_all (bare R) (counting R)) → pending_fault (with_all (bare R) (counting R)) (pending_in R) ≡ None
    → IsWhole (with_ticks (with_all (bare R) (counting R)) (ticks_of (pending_in R)))
unfolding pending_fault ticks_of
with_its_ticks R w none = ticks_whole (fives (pending_in R)) (with_all (bare R) (counting R)) 0 w (ap (λ before. fault_after (with_all (bare R) (counting R)) 0 before (fives (pending_in R))) (bare-pending R) ∙ none)

whole_root : (root : PlainRoot) → FieldsCanStand 1 root.fields → refusal_in root.fields ≡ None → IsWhole (build_of root.fields)
unfolding refusal_in build_of
whole_root root h none =
    let R : PlainFields = root.fields in
    let one = none_both (of_fields R) (of_cells R ++ of_state R) none in
    let two = none_both (of_cells R) (of_state R) one.1 in
    let large : is_too_large R ≡ false = none_only (is_too_large R) too_large (none_fourth (option_map missing_field (missing R)) (option_map wrong_field (wrong_kind R)) (only (not (has_right_version R)) wrong_version) (only (is_too_large R) too_large) one.0) in
    let cells : cells_fault (block_numbered (entries_in R)) (volume_of R) (cells_in R) ≡ None = none_told wrong_cells _ (none_second (only (clash (entries_in R)) palette_clash) (option_map wrong_cells (cells_fault (block_numbered (entries_in R)) (volume_of R) (cells_in R))) (option_map unknown_block (unknown_text (entries_in R)) ∷ []) two.0) in
    let ticks : pending_fault (bare R) (pending_in R) ≡ None = none_told wrong_pending _ (none_second (option_map wrong_signal (signal_fault (bare R) (counting R))) (option_map wrong_pending (pending_fault (bare R) (pending_in R))) [] two.1) in
    let box : IsWhole (bare R) = bare_whole root h (ltb-false 16777216 (volume_of R) large) cells in
    with_its_ticks R (levels_whole (bare R) (counting R) (bare-levels R) box) (pending-levels (bare R) (counting R) (pending_in R) ∙ ticks)

pub file_whole : (bytes : List ℕ) (build : Plan) → file bytes build → IsWhole build
file_whole bytes build f = subst IsWhole (sym f.means) (whole_root f.root f.spells.0.1 f.accepted)
