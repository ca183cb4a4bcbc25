-- Groups of five numbers.
use Rattle.std.proofs.Common.{◌≡◌, ◌≢◌, ◌<◌, ◌≤◌, ℕ, ◌+◌, ℤ, List, [], ◌∷◌, ◌++◌, length, take, drop, Some, true, false, refl, sym, ap, ◌∙◌, arith}
use Rattle.std.specs.Prelude.{not, ◌&&◌}
use Rattle.std.specs.List.{filter_map}
use Rattle.std.proofs.lemmas.List.{append_assoc}
use Rattle.circuit.specs.declared.Pos.{Pos}
use Rattle.build.specs.declared.Pending.{Pending}
use Rattle.build.specs.Plan.{Plan, entry, in_box, block_at, is_ticking, is_pending}
use Rattle.build.specs.Edits.{with_pending}
use Rattle.schematic.specs.PendingTicks.{fives, tick_of, fault_after}

pub fives-few : (xs : List ℤ) → length xs ≢ 0 → length xs < 5 → fives xs ≡ xs ∷ []
fives-few [] h k = absurd (h refl)
fives-few (a ∷ []) h k = refl
fives-few (a ∷ (b ∷ [])) h k = refl
fives-few (a ∷ (b ∷ (c ∷ []))) h k = refl
fives-few (a ∷ (b ∷ (c ∷ (d ∷ [])))) h k = refl
fives-few (a ∷ (b ∷ (c ∷ (d ∷ (e ∷ rest))))) h k = absurd (omega arith)

pub fives-more : (xs : List ℤ) → 5 ≤ length xs → fives xs ≡ take 5 xs ∷ fives (drop 5 xs)
fives-more [] k = absurd (omega arith)
fives-more (a ∷ []) k = absurd (omega arith)
fives-more (a ∷ (b ∷ [])) k = absurd (omega arith)
fives-more (a ∷ (b ∷ (c ∷ []))) k = absurd (omega arith)
fives-more (a ∷ (b ∷ (c ∷ (d ∷ [])))) k = absurd (omega arith)
fives-more (a ∷ (b ∷ (c ∷ (d ∷ (e ∷ rest))))) k = refl

-- pending ticks change no block
pub block-pending : (b now : Plan) (p : Pos) → now ≡ record b { pending = now.pending } → block_at now p ≡ block_at b p
unfolding entry in_box
block-pending b now p h = ap (λ (c : Plan). block_at c p) h ∙ refl

pub fault_wrong : (b : Plan) (n : ℕ) (before : List Pending) (group : List ℤ) (groups : List (List ℤ)) (tick : Pending) → tick_of group ≡ Some tick → (is_ticking (block_at b tick.pos) && not (is_pending before tick.pos)) ≡ false →
    fault_after b n before (group ∷ groups) ≡ Some n
fault_wrong b n before group groups tick e h = rw (e, h) refl

pub fault_right : (b : Plan) (n : ℕ) (before : List Pending) (group : List ℤ) (groups : List (List ℤ)) (tick : Pending) → tick_of group ≡ Some tick → (is_ticking (block_at b tick.pos) && not (is_pending before tick.pos)) ≡ true →
    fault_after b n before (group ∷ groups) ≡ fault_after b (n + 1) (before ++ tick ∷ []) groups
fault_right b n before group groups tick e h = rw (e, h) refl

pub ticks_more : (before : List Pending) (group : List ℤ) (groups : List (List ℤ)) (tick : Pending) → tick_of group ≡ Some tick → (before ++ tick ∷ []) ++ filter_map tick_of groups ≡ before ++ filter_map tick_of (group ∷ groups)
ticks_more before group groups tick e = rw e (append_assoc before (tick ∷ []) (filter_map tick_of groups))

-- what a build says of a tick, though more ticks are pending in it
pub told_of : (b now : Plan) (p : Pos) → now ≡ record b { pending = now.pending } → (is_ticking (block_at now p) && not (is_pending now.pending p)) ≡ (is_ticking (block_at b p) && not (is_pending now.pending p))
told_of b now p h = ap (λ block. is_ticking block && not (is_pending now.pending p)) (block-pending b now p h)

pub made_more : (b now new : Plan) (tick : Pending) → now ≡ record b { pending = now.pending } → new ≡ with_pending now tick → (new ≡ record b { pending = new.pending }) × (new.pending ≡ now.pending ++ tick ∷ [])
unfolding with_pending
made_more b now new tick h e =
    let ticks : new.pending ≡ now.pending ++ tick ∷ [] = ap (λ (c : Plan). c.pending) e in
    let whole : new ≡ record b { pending = now.pending ++ tick ∷ [] } = e ∙ ap (λ (c : Plan). with_pending c tick) h in
    (whole ∙ ap (λ (ts : List Pending). record b { pending = ts }) (sym ticks), ticks)
