-- A build's file, or the first cause for which it is none: never both.
use Rattle.std.proofs.Common.{◌≡◌, ℕ, List, [], ◌∷◌, Option, Some, None, Result, Ok, Err, IfOk, Bool, true, false, refl, sym, ap, ◌∙◌, subst, inl, inr}
use Rattle.std.specs.Option.{option_map}
use Rattle.nbt.specs.Plain.{PlainFields, PlainRoot}
use Rattle.std.specs.Prelude.{◌⊎◌}
use Rattle.std.proofs.lemmas.Bool.{cases_eq}
use Rattle.nbt.specs.Spelling.{Spells, AreBytes}
use Rattle.nbt.proofs.Unique.{one-root}
use Rattle.nbt.proofs.Excludes.{fault-excludes}
use Rattle.nbt.proofs.OneFault.{one-fault}
use Rattle.nbt.proofs.OneOfTwo.{one-of-two}
use Rattle.build.specs.Plan.{Plan}
use Rattle.schematic.specs.declared.BuildRefusal.{BuildRefusal}
use Rattle.schematic.specs.Fields.{has_right_version, is_too_large, volume_of, cells_in, pending_in}
use Rattle.schematic.specs.Presence.{missing, wrong_kind}
use Rattle.schematic.specs.Palette.{clash, unknown_text, block_numbered}
use Rattle.schematic.specs.Cells.{cells_fault}
use Rattle.schematic.specs.Entities.{counting, signal_fault}
use Rattle.schematic.specs.PendingTicks.{pending_fault}
use Rattle.schematic.specs.File.{Refusal, compressed, nbt, missing_field, wrong_field, wrong_version, too_large, palette_clash, wrong_cells, unknown_block, wrong_signal, wrong_pending, only, bare, entries_in, first_some, refusal_in, build_of, file, IsCompressed, IsFirstRefusal, Refuses, IsCause, is_own}
use Rattle.std.specs.Prelude.{not}

abbrev IsOwn : Option Refusal → Type 0
IsOwn None = Unit {0}
IsOwn (Some r) = is_own r ≡ true

own_map : {A : Type 0} (f : A → Refusal) → ((x : A) → is_own (f x) ≡ true) → (o : Option A) → IsOwn (option_map f o)
own_map f h None = tt
own_map f h (Some x) = h x

own_only : (b : Bool) (r : Refusal) → is_own r ≡ true → IsOwn (only b r)
own_only true r h = h
own_only false r h = tt

own_first : (o : Option Refusal) (os : List (Option Refusal)) → IsOwn o → IsOwn (first_some os) → IsOwn (first_some (o ∷ os))
own_first None os h k = k
own_first (Some r) os h k = h

own_cause : (R : PlainFields) → IsOwn (refusal_in R)
unfolding refusal_in
own_cause R =
    own_first (option_map missing_field (missing R)) _ (own_map missing_field (λ x. refl) (missing R))
    (own_first (option_map wrong_field (wrong_kind R)) _ (own_map wrong_field (λ x. refl) (wrong_kind R))
    (own_first (only (not (has_right_version R)) wrong_version) _ (own_only (not (has_right_version R)) wrong_version refl)
    (own_first (only (is_too_large R) too_large) _ (own_only (is_too_large R) too_large refl)
    (own_first (only (clash (entries_in R)) palette_clash) _ (own_only (clash (entries_in R)) palette_clash refl)
    (own_first (option_map wrong_cells (cells_fault (block_numbered (entries_in R)) (volume_of R) (cells_in R))) _ (own_map wrong_cells (λ x. refl) (cells_fault (block_numbered (entries_in R)) (volume_of R) (cells_in R)))
    (own_first (option_map unknown_block (unknown_text (entries_in R))) _ (own_map unknown_block (λ x. refl) (unknown_text (entries_in R)))
    (own_first (option_map wrong_signal (signal_fault (bare R) (counting R))) _ (own_map wrong_signal (λ x. refl) (signal_fault (bare R) (counting R)))
    (own_first (option_map wrong_pending (pending_fault (bare R) (pending_in R))) [] (own_map wrong_pending (λ x. refl) (pending_fault (bare R) (pending_in R))) tt))))))))

-- a cause among the fields of the root that is spelled
by_root : (file : List ℕ) (root : PlainRoot) (r : Refusal) → Spells file root → refusal_in root.fields ≡ Some r → is_own r ≡ true → IsFirstRefusal file r
by_root file root compressed h e k = absurd (cc)
by_root file root (nbt place kind) h e k = absurd (cc)
by_root file root (missing_field name) h e k = (root, h, e)
by_root file root (wrong_field name) h e k = (root, h, e)
by_root file root wrong_version h e k = (root, h, e)
by_root file root too_large h e k = (root, h, e)
by_root file root palette_clash h e k = (root, h, e)
by_root file root (wrong_cells place) h e k = (root, h, e)
by_root file root (unknown_block name) h e k = (root, h, e)
by_root file root (wrong_signal place) h e k = (root, h, e)
by_root file root (wrong_pending group) h e k = (root, h, e)

pub refuses_by : (file : List ℕ) (root : PlainRoot) (told : Option Refusal) → Spells file root → IsCause told (refusal_in root.fields) → Refuses file told
refuses_by file root None h k = tt
refuses_by file root (Some r) h k = by_root file root r h k (subst IsOwn k (own_cause root.fields))

-- what is read of a root that is spelled is the file's build
pub file_by : (bytes : List ℕ) (root : PlainRoot) (r : Result Plan BuildRefusal) → Spells bytes root → IfOk r (λ b. b ≡ build_of root.fields) → IfOk r (λ b. refusal_in root.fields ≡ None) → IfOk r (λ b. file bytes b)
file_by bytes root (Ok b) h made sound = record { root = root; spells = h; accepted = sound; means = made }
file_by bytes root (Err e) h made sound = tt

pub same_build : (bytes : List ℕ) (a b : Plan) → file bytes a → file bytes b → a ≡ b
same_build bytes a b f g = f.means ∙ ap (λ (s : PlainRoot). build_of s.fields) (one-root bytes f.root g.root f.spells g.spells) ∙ sym g.means

refused_root : (bytes : List ℕ) (build : Plan) (r : Refusal) (root : PlainRoot) → file bytes build → Spells bytes root → refusal_in root.fields ≡ Some r → ⊥
refused_root bytes build r root f h e =
    let none : refusal_in root.fields ≡ None = ap (λ (s : PlainRoot). refusal_in s.fields) (one-root bytes root f.root h f.spells) ∙ f.accepted in
    let clash : Some r ≡ None = sym e ∙ none in
    cc

pub not_both : (bytes : List ℕ) (build : Plan) (r : Refusal) → file bytes build → IsFirstRefusal bytes r → ⊥
not_both bytes build compressed f h = let clash = sym h.1 ∙ f.spells.1 in cc
not_both bytes build (nbt place kind) f h = fault-excludes bytes place kind f.root h.1 f.spells.0 f.spells.1
not_both bytes build (missing_field name) f h = refused_root bytes build _ h.0 f h.1 h.2
not_both bytes build (wrong_field name) f h = refused_root bytes build _ h.0 f h.1 h.2
not_both bytes build wrong_version f h = refused_root bytes build _ h.0 f h.1 h.2
not_both bytes build too_large f h = refused_root bytes build _ h.0 f h.1 h.2
not_both bytes build palette_clash f h = refused_root bytes build _ h.0 f h.1 h.2
not_both bytes build (wrong_cells place) f h = refused_root bytes build _ h.0 f h.1 h.2
not_both bytes build (unknown_block name) f h = refused_root bytes build _ h.0 f h.1 h.2
not_both bytes build (wrong_signal place) f h = refused_root bytes build _ h.0 f h.1 h.2
not_both bytes build (wrong_pending group) f h = refused_root bytes build _ h.0 f h.1 h.2

pub root_of : (bytes : List ℕ) (r : Refusal) → is_own r ≡ true → IsFirstRefusal bytes r → (root : PlainRoot) × Spells bytes root × (refusal_in root.fields ≡ Some r)
root_of bytes compressed e h = absurd (cc)
root_of bytes (nbt place kind) e h = absurd (cc)
root_of bytes (missing_field name) e h = h
root_of bytes (wrong_field name) e h = h
root_of bytes wrong_version e h = h
root_of bytes too_large e h = h
root_of bytes palette_clash e h = h
root_of bytes (wrong_cells place) e h = h
root_of bytes (unknown_block name) e h = h
root_of bytes (wrong_signal place) e h = h
root_of bytes (wrong_pending group) e h = h

same_root : (bytes : List ℕ) (r s : Refusal) → is_own r ≡ true → is_own s ≡ true → IsFirstRefusal bytes r → IsFirstRefusal bytes s → s ≡ r
same_root bytes r s e f h k =
    let one = root_of bytes r e h in
    let two = root_of bytes s f k in
    let is : Some s ≡ Some r = sym two.2 ∙ ap (λ (t : PlainRoot). refusal_in t.fields) (one-root bytes two.0 one.0 two.1 one.1) ∙ one.2 in
    cc

-- of a root that is spelled there is one first cause
pub one_cause : (bytes : List ℕ) (r s : Refusal) → is_own r ≡ true → IsFirstRefusal bytes r → IsFirstRefusal bytes s → s ≡ r
one_cause bytes r compressed e h k = let one = root_of bytes r e h in let clash = sym k.1 ∙ one.1.1 in absurd (cc)
one_cause bytes r (nbt place kind) e h k = let one = root_of bytes r e h in absurd (fault-excludes bytes place kind one.0 k.1 one.1.0 one.1.1)
one_cause bytes r (missing_field name) e h k = same_root bytes r _ e refl h k
one_cause bytes r (wrong_field name) e h k = same_root bytes r _ e refl h k
one_cause bytes r wrong_version e h k = same_root bytes r _ e refl h k
one_cause bytes r too_large e h k = same_root bytes r _ e refl h k
one_cause bytes r palette_clash e h k = same_root bytes r _ e refl h k
one_cause bytes r (wrong_cells place) e h k = same_root bytes r _ e refl h k
one_cause bytes r (unknown_block name) e h k = same_root bytes r _ e refl h k
one_cause bytes r (wrong_signal place) e h k = same_root bytes r _ e refl h k
one_cause bytes r (wrong_pending group) e h k = same_root bytes r _ e refl h k

-- ---- exactly one of the two

-- Two first causes are one.
pub one_refusal : (bytes : List ℕ) (r s : Refusal) → IsFirstRefusal bytes r → IsFirstRefusal bytes s → s ≡ r
one_refusal bytes compressed compressed h k = refl
one_refusal bytes compressed (nbt place kind) h k = absurd (k.0 h)
one_refusal bytes compressed (missing_field name) h k = sym (one_cause bytes (missing_field name) compressed refl k h)
one_refusal bytes compressed (wrong_field name) h k = sym (one_cause bytes (wrong_field name) compressed refl k h)
one_refusal bytes compressed wrong_version h k = sym (one_cause bytes wrong_version compressed refl k h)
one_refusal bytes compressed too_large h k = sym (one_cause bytes too_large compressed refl k h)
one_refusal bytes compressed palette_clash h k = sym (one_cause bytes palette_clash compressed refl k h)
one_refusal bytes compressed (wrong_cells place) h k = sym (one_cause bytes (wrong_cells place) compressed refl k h)
one_refusal bytes compressed (unknown_block name) h k = sym (one_cause bytes (unknown_block name) compressed refl k h)
one_refusal bytes compressed (wrong_signal place) h k = sym (one_cause bytes (wrong_signal place) compressed refl k h)
one_refusal bytes compressed (wrong_pending group) h k = sym (one_cause bytes (wrong_pending group) compressed refl k h)
one_refusal bytes (nbt place kind) compressed h k = absurd (h.0 k)
one_refusal bytes (nbt place kind) (nbt other also) h k =
    let same = one-fault bytes other place also kind k.1 h.1 in
    ap (λ (n : ℕ). nbt n also) same.0 ∙ ap (nbt place) same.1
one_refusal bytes (nbt place kind) (missing_field name) h k = sym (one_cause bytes (missing_field name) (nbt place kind) refl k h)
one_refusal bytes (nbt place kind) (wrong_field name) h k = sym (one_cause bytes (wrong_field name) (nbt place kind) refl k h)
one_refusal bytes (nbt place kind) wrong_version h k = sym (one_cause bytes wrong_version (nbt place kind) refl k h)
one_refusal bytes (nbt place kind) too_large h k = sym (one_cause bytes too_large (nbt place kind) refl k h)
one_refusal bytes (nbt place kind) palette_clash h k = sym (one_cause bytes palette_clash (nbt place kind) refl k h)
one_refusal bytes (nbt place kind) (wrong_cells at) h k = sym (one_cause bytes (wrong_cells at) (nbt place kind) refl k h)
one_refusal bytes (nbt place kind) (unknown_block name) h k = sym (one_cause bytes (unknown_block name) (nbt place kind) refl k h)
one_refusal bytes (nbt place kind) (wrong_signal at) h k = sym (one_cause bytes (wrong_signal at) (nbt place kind) refl k h)
one_refusal bytes (nbt place kind) (wrong_pending group) h k = sym (one_cause bytes (wrong_pending group) (nbt place kind) refl k h)
one_refusal bytes (missing_field name) s h k = one_cause bytes (missing_field name) s refl h k
one_refusal bytes (wrong_field name) s h k = one_cause bytes (wrong_field name) s refl h k
one_refusal bytes wrong_version s h k = one_cause bytes wrong_version s refl h k
one_refusal bytes too_large s h k = one_cause bytes too_large s refl h k
one_refusal bytes palette_clash s h k = one_cause bytes palette_clash s refl h k
one_refusal bytes (wrong_cells place) s h k = one_cause bytes (wrong_cells place) s refl h k
one_refusal bytes (unknown_block name) s h k = one_cause bytes (unknown_block name) s refl h k
one_refusal bytes (wrong_signal place) s h k = one_cause bytes (wrong_signal place) s refl h k
one_refusal bytes (wrong_pending group) s h k = one_cause bytes (wrong_pending group) s refl h k

compressed-or : (bytes : List ℕ) → IsCompressed bytes ⊎ (IsCompressed bytes → ⊥)
compressed-or [] = inr (λ h. absurd (let clash = h.1 in cc))
compressed-or (a ∷ []) = inr (λ h. absurd (let clash = h.1 in cc))
compressed-or (a ∷ b ∷ bytes) = elim (cases_eq a 31) [
  | inl first ↦ elim (cases_eq b 139) [
    | inl second ↦ inl (bytes, ap (λ (x : ℕ). x ∷ b ∷ bytes) first ∙ ap (λ (x : ℕ). 31 ∷ x ∷ bytes) second)
    | inr other ↦ inr (λ h. other (let same = h.1 in cc))
  ]
  | inr other ↦ inr (λ h. other (let same = h.1 in cc))
]

abbrev pub OneOfTwo : List ℕ → Type 0
OneOfTwo bytes = ((build : Plan) × file bytes build) ⊎ ((refusal : Refusal) × IsFirstRefusal bytes refusal)

root-verdict : (bytes : List ℕ) (root : PlainRoot) (found : Option Refusal) → Spells bytes root → refusal_in root.fields ≡ found → OneOfTwo bytes
root-verdict bytes root None h e = inl (build_of root.fields, record { root = root; spells = h; accepted = e; means = refl })
root-verdict bytes root (Some r) h e = inr (r, by_root bytes root r h e (subst IsOwn e (own_cause root.fields)))

-- A build or a refusal.
pub verdict : (bytes : List ℕ) → AreBytes bytes → OneOfTwo bytes
verdict bytes all = elim (one-of-two bytes all) [
  | inl root ↦ root-verdict bytes root.0 (refusal_in root.0.fields) root.1 refl
  | inr fault ↦ elim (compressed-or bytes) [
    | inl zip ↦ inr (compressed, zip)
    | inr plain ↦ inr (nbt fault.0 fault.1, (plain, fault.2))
  ]
]
