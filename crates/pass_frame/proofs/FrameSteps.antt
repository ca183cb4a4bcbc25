-- Runs of passes, one after another.
use Rattle.std.proofs.Common.{◌≡◌, ◌<◌, ◌≤◌, Bool, true, false, ◌||◌, Ok, Err, Result, sym, ◌∙◌, subst, arith, ◌⊎◌, inl, inr}
use Rattle.std.specs.Prelude.{OnOk}
use Rattle.std.specs.Result.{IsErr}
use Rattle.rp_text.specs.declared.NoMemory.{NoMemory}
use Rattle.graph.specs.Graph.{Nodes}
use Rattle.graph.specs.Sound.{IsSound}
use Rattle.graph.specs.Refines.{Refines}
use Rattle.graph.specs.Measure.{measure}
use Rattle.graph.proofs.RefineSteps.{refines_refl, refines_then}
use Rattle.pass_frame.specs.Frame.{Reaches, Stays, Goes, Ran, IsDone}
use Rattle.pass_frame.specs.Rounds.{Exhausts}

abbrev pub Either : (P Q : Nodes → Nodes → Type 0) → Nodes → Nodes → Type 0
Either P Q old new = P old new ⊎ Q old new

abbrev pub KeepsSound : (Nodes → Nodes → Type 0) → Type 0
KeepsSound P = (old new : Nodes) → IsSound old → P old new → IsSound new

abbrev pub Refining : (Nodes → Nodes → Type 0) → Type 0
Refining P = (old new : Nodes) → IsSound old → P old new → Refines old new

abbrev pub Falls : (Nodes → Nodes → Type 0) → Type 0
Falls P = (old new : Nodes) → IsSound old → P old new → measure new < measure old

reaches_in_first : (P Q : Nodes → Nodes → Type 0) {a b : Nodes} → Reaches P a b → Reaches (Either P Q) a b
reaches_in_first P Q Stays = Stays
reaches_in_first P Q (Goes h r) = Goes (inl h) (reaches_in_first P Q r)

reaches_in_second : (P Q : Nodes → Nodes → Type 0) {a b : Nodes} → Reaches Q a b → Reaches (Either P Q) a b
reaches_in_second P Q Stays = Stays
reaches_in_second P Q (Goes h r) = Goes (inr h) (reaches_in_second P Q r)

pub reaches_append : (P : Nodes → Nodes → Type 0) {a b c : Nodes} → Reaches P a b → Reaches P b c → Reaches P a c
reaches_append P Stays s = s
reaches_append P (Goes h r) s = Goes h (reaches_append P r s)

pub reaches_sound : (P : Nodes → Nodes → Type 0) → KeepsSound P → {a b : Nodes} → IsSound a → Reaches P a b → IsSound b
reaches_sound P k s Stays = s
reaches_sound P k {a} s (Goes {mid = m} h r) = reaches_sound P k (k a m s h) r

reaches_refines : (P : Nodes → Nodes → Type 0) → KeepsSound P → Refining P → {a b : Nodes} → IsSound a → Reaches P a b → Refines a b
reaches_refines P k f {a} s Stays = refines_refl a
reaches_refines P k f {a} {b} s (Goes {mid = m} h r) = refines_then a m b (f a m s h) (reaches_refines P k f (k a m s h) r)

reaches_falls : (P : Nodes → Nodes → Type 0) → KeepsSound P → Falls P → {a b : Nodes} → IsSound a → Reaches P a b → measure b ≤ measure a
reaches_falls P k f s Stays = omega arith
reaches_falls P k f {a} s (Goes {mid = m} h r) = omega (arith, f a m s h, reaches_falls P k f (k a m s h) r)

-- what was reached, whatever was answered
pub ran_reaches : (P : Nodes → Nodes → Type 0) (old new : Nodes) (r : Result Bool NoMemory) → Ran P old r new → Reaches P old new
ran_reaches P old new (Ok false) h = subst (Reaches P old) (sym h.1) Stays
ran_reaches P old new (Ok true) h = Goes h.1 h.2
ran_reaches P old new (Err e) h = h

pub ran_sound : (P : Nodes → Nodes → Type 0) → KeepsSound P → (old new : Nodes) (r : Result Bool NoMemory) → IsSound old → Ran P old r new → IsSound new
ran_sound P k old new r s h = reaches_sound P k s (ran_reaches P old new r h)

pub ran_refines : (P : Nodes → Nodes → Type 0) → KeepsSound P → Refining P → (old new : Nodes) (r : Result Bool NoMemory) → IsSound old → Ran P old r new → Refines old new
ran_refines P k f old new r s h = reaches_refines P k f s (ran_reaches P old new r h)

pub ran_falls : (P : Nodes → Nodes → Type 0) → KeepsSound P → Falls P → (old new : Nodes) → IsSound old → Ran P old (Ok true) new → measure new < measure old
ran_falls P k f old new s r = omega (arith, f old r.0 s r.1, reaches_falls P k f (k old r.0 s r.1) r.2)

-- a run of the one and then a run of the other are a run of both
pub first_reaches : (P Q : Nodes → Nodes → Type 0) (old new : Nodes) (r : Result Bool NoMemory) → Ran P old r new → Reaches (Either P Q) old new
first_reaches P Q old new r h = reaches_in_first P Q (ran_reaches P old new r h)

pub then_reaches : (P Q : Nodes → Nodes → Type 0) (old mid new : Nodes) (r q : Result Bool NoMemory) → Ran P old r mid → Ran Q mid q new → Reaches (Either P Q) old new
then_reaches P Q old mid new r q a b = reaches_append (Either P Q) (first_reaches P Q old mid r a) (reaches_in_second P Q (ran_reaches Q mid new q b))

pub then_ran : (P Q : Nodes → Nodes → Type 0) (old mid new : Nodes) (a b : Bool) → Ran P old (Ok a) mid → Ran Q mid (Ok b) new → Ran (Either P Q) old (Ok (a || b)) new
then_ran P Q old mid new false false x y =
    ((λ g h. elim h [ inl p ↦ x.0 g p | inr q ↦ y.0 g (subst (λ m. Q m g) (sym x.1) q) ]), y.1 ∙ x.1)
then_ran P Q old mid new false true x y = (y.0, inr (subst (λ m. Q m y.0) x.1 y.1), reaches_in_second P Q y.2)
then_ran P Q old mid new true b x y =
    (x.0, inl x.1, reaches_append (Either P Q) (reaches_in_first P Q x.2) (reaches_in_second P Q (ran_reaches Q mid new (Ok b) y)))

-- Where runs of a pass have come that have taken a step or none so far.
abbrev pub Went : (Nodes → Nodes → Type 0) → Nodes → Bool → Nodes → Type 0
Went P old false new = new ≡ old
Went P old true new = (mid : Nodes) × P old mid × Reaches P mid new

pub went_on : (P : Nodes → Nodes → Type 0) (old mid new : Nodes) (took : Bool) → Went P old took mid → Ran P mid (Ok true) new → Went P old true new
went_on P old mid new false w r = (r.0, subst (λ m. P m r.0) w r.1, r.2)
went_on P old mid new true w r = (w.0, w.1, reaches_append P w.2 (Goes r.1 r.2))

pub went_reaches : (P : Nodes → Nodes → Type 0) (old mid new : Nodes) (took : Bool) → Went P old took mid → Reaches P mid new → Reaches P old new
went_reaches P old mid new false w r = subst (λ m. Reaches P m new) w r
went_reaches P old mid new true w r = Goes w.1 (reaches_append P w.2 r)

pub went_done : (P : Nodes → Nodes → Type 0) (old mid new : Nodes) (took : Bool) → Went P old took mid → Ran P mid (Ok false) new → Ran P old (Ok took) new
went_done P old mid new false w r = (subst (IsDone P) w r.0, r.1 ∙ w)
went_done P old mid new true w r = (w.0, w.1, subst (Reaches P w.0) (sym r.1) w.2)

-- after want of memory all that counts is what was reached
pub ran_err : (P : Nodes → Nodes → Type 0) (old new : Nodes) (r : Result Bool NoMemory) → IsErr r → Reaches P old new → Ran P old r new
ran_err P old new (Ok false) e h = absurd (cc)
ran_err P old new (Ok true) e h = absurd (cc)
ran_err P old new (Err no_memory) e h = h

-- where a flag is on, a run of the pass takes steps that the flag allows
abbrev pub WhenOn : Bool → (Nodes → Nodes → Type 0) → Nodes → Nodes → Type 0
WhenOn on P old new = (on ≡ true) × P old new

reaches_when : (on : Bool) (P : Nodes → Nodes → Type 0) → on ≡ true → {a b : Nodes} → Reaches P a b → Reaches (WhenOn on P) a b
reaches_when on P e Stays = Stays
reaches_when on P e (Goes h r) = Goes (e, h) (reaches_when on P e r)

pub when_ran : (on : Bool) (P : Nodes → Nodes → Type 0) (old new : Nodes) (r : Result Bool NoMemory) → on ≡ true → Ran P old r new → Ran (WhenOn on P) old r new
when_ran on P old new (Ok false) e h = (λ g step. h.0 g step.1, h.1)
when_ran on P old new (Ok true) e h = (h.0, (e, h.1), reaches_when on P e h.2)
when_ran on P old new (Err no_memory) e h = reaches_when on P e h

-- a run that left no step
pub ran_exhausts : (P : Nodes → Nodes → Type 0) (old new : Nodes) (r : Result Bool NoMemory) → Ran P old r new → OnOk r (IsDone P new) → OnOk r (Exhausts P old new)
ran_exhausts P old new (Ok took) h done = record { reaches = ran_reaches P old new (Ok took) h; rests = done }
ran_exhausts P old new (Err e) h done = tt
