-- What is said of a replay's things, said of what it is seen as.
use Rattle.std.proofs.Common.{◌≡◌, ℕ, ◌+◌, ◌≤◌, cond, List, Ok, Err, Result, sym, subst, ◌∙◌, inl, inr, slice_index}
use Rattle.std.specs.Prelude.{◌↔◌, ◌⊎◌, OnOk, OnErr}
use Rattle.circuit.specs.declared.Pos.{Pos}
use Rattle.circuit.specs.declared.Cell.{Cell}
use Rattle.circuit.specs.Circuit.{State}
use Rattle.build.specs.Place.{same_place}
use Rattle.replay_engine.specs.declared.events.Unlawful.{Unlawful}
use Rattle.replay_engine.specs.Things.{Numbered, IsNumbered, held, state_by}
use Rattle.replay_engine.specs.Running.{circuit_of, state_in, seen_as, HasFired, IsUnlawful}
use Rattle.replay_engine.proofs.Held.{state-seen, entry-seen}
use Rattle.replay_engine.proofs.Firing.{fired_or, never_late}

pub on_ok_then : {T E : Type 0} (r : Result T E) (P Q : Type 0) → (P → Q) → OnOk r P → OnOk r Q
on_ok_then (Ok x) P Q f p = f p
on_ok_then (Err e) P Q f p = tt

pub on_err_both : {T E : Type 0} (r : Result T E) (P R Q : Type 0) → (P → R → Q) → OnErr r P → OnErr r R → OnErr r Q
on_err_both (Ok x) P R Q f p q = tt
on_err_both (Err e) P R Q f p q = f p q

-- which places have fired after one more did
pub fired_seen : (m : Numbered) (time now : ℕ) (cells after : List Cell) (latest next : List ℕ) (p : Pos) → now ≡ time → ((q : Pos) → held m next 0 q ≡ cond (same_place q p) time (held m latest 0 q)) →
    (q : Pos) → HasFired (seen_as m now after next) q ↔ (HasFired (seen_as m time cells latest) q ⊎ (q ≡ p))
fired_seen m time now cells after latest next p same is q =
    let r = fired_or (held m latest 0) (held m next 0) time p is q in (
      λ h. elim (r.0 (sym (entry-seen m next 0 q) ∙ h ∙ same)) [ inl was ↦ inl (entry-seen m latest 0 q ∙ was) | inr e ↦ inr e ],
      λ h. entry-seen m next 0 q ∙ r.1 (elim h [ inl was ↦ inl (sym (entry-seen m latest 0 q) ∙ was) | inr e ↦ inr e ]) ∙ sym same,
    )

-- nothing has fired when a tick begins
pub fresh_seen : (m : Numbered) → IsNumbered m → (time now : ℕ) (cells : List Cell) (latest : List ℕ) → now ≡ time + 1 → ((n : ℕ) → slice_index latest n ≤ time) →
    (p : Pos) → HasFired (seen_as m now cells latest) p → ⊥
fresh_seen m w time now cells latest later past p fired = never_late m w latest time past p (sym (entry-seen m latest 0 p) ∙ fired ∙ later)

pub unlawful_seen : (m : Numbered) (time : ℕ) (cells : List Cell) (latest : List ℕ) (p : Pos) (why : Unlawful) → IsUnlawful (circuit_of m) (state_by m time cells) (held m latest 0 p ≡ time) p why →
    IsUnlawful (circuit_of m) (state_in (seen_as m time cells latest)) (HasFired (seen_as m time cells latest) p) p why
unlawful_seen m time cells latest p why h =
    let one = subst (λ (s : State Pos). IsUnlawful (circuit_of m) s (held m latest 0 p ≡ time) p why) (sym (state-seen m time cells latest)) h in
    subst (λ (x : ℕ). IsUnlawful (circuit_of m) (state_in (seen_as m time cells latest)) (x ≡ time) p why) (sym (entry-seen m latest 0 p)) one
