-- The levels and the pending ticks of a file.
use Rattle.std.proofs.Common.{◌≡◌, ℕ, ◌+◌, ℤ, List, [], ◌∷◌, Option, Some, None, Result, Ok, Err, IfOk, IfErr, refl, inl, inr}
use Rattle.std.specs.Prelude.{replicate}
use Rattle.std.proofs.lemmas.Bool.{cases_Bool}
use Rattle.nbt.specs.Plain.{PlainFields}
use Rattle.build.specs.declared.Pending.{Pending}
use Rattle.build.specs.Plan.{Plan, volume, entry, in_box}
use Rattle.schematic.specs.Entities.{Entity, with_all}
use Rattle.schematic.specs.PendingTicks.{tick_of, comes_after, with_tick, fault_after, fives, pending_fault}
use Rattle.schematic.specs.File.{bare}

pub ok_then : {T E : Type 0} (r : Result T E) (P Q : T → Type 0) → ((x : T) → P x → Q x) → IfOk r P → IfOk r Q
ok_then (Ok x) P Q f p = f x p
ok_then (Err e) P Q f p = tt

pub err_then : {T E : Type 0} (r : Result T E) (P Q : E → Type 0) → ((e : E) → P e → Q e) → IfErr r P → IfErr r Q
err_then (Ok x) P Q f p = tt
err_then (Err e) P Q f p = f e p

pub bare-levels : (R : PlainFields) → (bare R).levels ≡ replicate (volume (bare R)) 0
unfolding bare
bare-levels R = refl

pub bare-pending : (R : PlainFields) → (bare R).pending ≡ []
unfolding bare
bare-pending R = refl

comes-levels : (b : Plan) (es : List Entity) (before : List Pending) (o : Option Pending) → comes_after (with_all b es) before o ≡ comes_after b before o
unfolding entry in_box
comes-levels b es before None = refl
comes-levels b es before (Some tick) = refl

fault-levels : (b : Plan) (es : List Entity) (n : ℕ) (before : List Pending) (groups : List (List ℤ)) → fault_after (with_all b es) n before groups ≡ fault_after b n before groups
fault-levels b es n before [] = refl
fault-levels b es n before (g ∷ groups) = elim (cases_Bool (comes_after b before (tick_of g))) [
  | inl h ↦ rw (comes-levels b es before (tick_of g), h) (fault-levels b es (n + 1) (with_tick before (tick_of g)) groups)
  | inr h ↦ rw (comes-levels b es before (tick_of g), h) refl
]

-- levels don't matter to pending ticks
pub pending-levels : (b : Plan) (es : List Entity) (numbers : List ℤ) → pending_fault (with_all b es) numbers ≡ pending_fault b numbers
unfolding pending_fault
pending-levels b es numbers = fault-levels b es 0 [] (fives numbers)
