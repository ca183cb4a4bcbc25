-- Where a place may fire, and where it may not.
use Rattle.std.proofs.Common.{◌≡◌, ◌≢◌, ℕ, ◌+◌, ◌<◌, ◌≤◌, Bool, true, false, cond, List, length, Option, Some, None, Err, Result, refl, sym, ap, subst, ◌∙◌, inl, inr, arith}
use Rattle.std.specs.Prelude.{◌↔◌, ◌⊎◌, slice_index, slice_set}
use Rattle.std.proofs.lemmas.Bool.{cases_eq, false≢true}
use Rattle.std.proofs.lemmas.List.{get_or-set_same, get_or-set_other}
use Rattle.circuit.specs.declared.Pos.{Pos}
use Rattle.circuit.specs.declared.Cell.{Cell}
use Rattle.circuit.specs.declared.Component.{Component}
use Rattle.circuit.specs.Circuit.{IsDue}
use Rattle.build.specs.Place.{same_place}
use Rattle.build.specs.SamePlace.{place_itself, place_one}
use Rattle.build.specs.Roles.{role_at}
use Rattle.replay_engine.specs.declared.events.Unlawful.{Unlawful}
use Rattle.replay_engine.specs.declared.events.Unlawful.TheVariants.{Twice, NotDue, Priority}
use Rattle.cell_counts.specs.Held.{Holding, cell_of, IsNow}
use Rattle.replay_engine.specs.Things.{Numbered, IsNumbered, number_at, held, nothing}
use Rattle.replay_engine.specs.Numbers.{held-there, held-none, number_cases}
use Rattle.replay_engine.specs.Running.{circuit_of, state_of, spot, AreIdle, IsUnlawful}
use Rattle.replay_engine.proofs.Held.{held-set, held-spot, number_role, spot-there}

-- a due thing is a due place
pub due_place : (m : Numbered) → IsNumbered m → (h : Holding) → AreIdle m h.cells → (n : ℕ) → n < length m.spots → IsNow h.time (cell_of h.cells n) → IsDue (circuit_of m) (state_of m h) (spot m n)
due_place m w h idle n below now = by_role (role_at m.plan m.marks (spot m n)) refl
  where
    its : held m h.cells nothing (spot m n) ≡ cell_of h.cells n
    its = held-spot m w h.cells nothing n below

    by_role : (role : Option Component) → role_at m.plan m.marks (spot m n) ≡ role → IsDue (circuit_of m) (state_of m h) (spot m n)
    by_role None e = absurd (now.waits (ap (λ (c : Cell). c.due) (sym its) ∙ idle (spot m n) e))
    by_role (Some c) e = record { component = c; there = e; waits = λ z. now.waits (ap (λ (x : Cell). x.due) (sym its) ∙ z); now = ap (λ (x : Cell). x.due) its ∙ now.now }

pub due_there : (m : Numbered) → IsNumbered m → (h : Holding) → AreIdle m h.cells → (p : Pos) (n : ℕ) → number_at m p ≡ Some n → IsNow h.time (cell_of h.cells n) → IsDue (circuit_of m) (state_of m h) p
due_there m w h idle p n e now = let t = spot-there m w p n e in subst (IsDue (circuit_of m) (state_of m h)) t.1 (due_place m w h idle n t.0 now)

abbrev pub the_err : {T : Type 0} → Unlawful → Result T Unlawful
the_err is = Err is

-- what is told is the one reason
pub told : {T : Type 0} (P : Unlawful → Type 0) (is : Unlawful) → P is → (why : Unlawful) → the_err {T = T} is ≡ Err why → P why
told P is here why e = let same : is ≡ why = cc in subst P same here

abbrev pub Why : Numbered → Holding → List ℕ → Pos → Unlawful → Type 0
Why m h latest p why = IsUnlawful (circuit_of m) (state_of m h) (held m latest 0 p ≡ h.time) p why

pub nothing_there : (m : Numbered) → IsNumbered m → (h : Holding) (latest : List ℕ) (p : Pos) → 0 < h.time → number_at m p ≡ None → Why m h latest p NotDue
nothing_there m w h latest p late none = (
  λ fired. (let is : held m latest 0 p ≡ 0 = held-none m latest 0 p none in omega arith),
  λ due. (let n = number_role m w p due.component due.there in let clash : None ≡ Some n.0 = sym none ∙ n.1 in absurd (cc)),
)

pub fired_there : (m : Numbered) (h : Holding) (latest : List ℕ) (p : Pos) (n : ℕ) → number_at m p ≡ Some n → slice_index latest n ≡ h.time → Why m h latest p Twice
fired_there m h latest p n e is = held-there m latest 0 p n e ∙ is

pub not_fired : (m : Numbered) (h : Holding) (latest : List ℕ) (p : Pos) (n : ℕ) → number_at m p ≡ Some n → slice_index latest n ≢ h.time → held m latest 0 p ≡ h.time → ⊥
not_fired m h latest p n e apart fired = apart (sym (held-there m latest 0 p n e) ∙ fired)

pub not_due_there : (m : Numbered) (h : Holding) (latest : List ℕ) (p : Pos) (n : ℕ) → number_at m p ≡ Some n → slice_index latest n ≢ h.time → (cell_of h.cells n).due ≢ h.time → Why m h latest p NotDue
not_due_there m h latest p n e apart other = (
  not_fired m h latest p n e apart,
  λ due. other (sym (ap (λ (c : Cell). c.due) (held-there m h.cells nothing p n e)) ∙ due.now),
)

pub comes_later : (m : Numbered) → IsNumbered m → (h : Holding) (latest : List ℕ) (p : Pos) (n : ℕ) → AreIdle m h.cells → length h.cells ≡ length m.spots → 0 < h.time → number_at m p ≡ Some n → slice_index latest n ≢ h.time →
    (cell_of h.cells n).due ≡ h.time → (o : ℕ) × (o < length h.cells) × IsNow h.time (cell_of h.cells o) × ((cell_of h.cells o).priority < (cell_of h.cells n).priority) → Why m h latest p Priority
comes_later m w h latest p n idle whole late e apart due other = (
  not_fired m h latest p n e apart,
  due_there m w h idle p n e (record { waits = λ z. omega (arith, late, due, z); now = due }),
  (
    spot m other.0,
    due_place m w h idle other.0 inside other.2,
    rw (held-spot m w h.cells nothing other.0 inside, held-there m h.cells nothing p n e) other.3,
  ),
)
  where
    inside : other.0 < length m.spots
    inside = omega (arith, other.1, whole)

-- the thing of a place has fired last at this time
pub latest-set : (m : Numbered) → IsNumbered m → (latest : List ℕ) (time : ℕ) (p : Pos) (n : ℕ) → length latest ≡ length m.spots → number_at m p ≡ Some n →
    (q : Pos) → held m (slice_set latest n time) 0 q ≡ cond (same_place q p) time (held m latest 0 q)
latest-set m w latest time p n whole e q = held-set m w latest 0 time p q n whole e

pub past-set : (latest : List ℕ) (n time : ℕ) → n < length latest → ((k : ℕ) → slice_index latest k ≤ time) → (k : ℕ) → slice_index (slice_set latest n time) k ≤ time
past-set latest n time inside past k = elim (cases_eq k n) [
  | inl e ↦ (let is : slice_index (slice_set latest n time) k ≡ time = ap (slice_index (slice_set latest n time)) e ∙ get_or-set_same latest n time 0 inside in omega arith)
  | inr apart ↦ (let is : slice_index (slice_set latest n time) k ≡ slice_index latest k = get_or-set_other latest n k time 0 apart in let l : slice_index latest k ≤ time = past k in omega arith)
]

-- which places have fired after one more did
pub fired_or : (old new : Pos → ℕ) (time : ℕ) (p : Pos) → ((q : Pos) → new q ≡ cond (same_place q p) time (old q)) → (q : Pos) → (new q ≡ time) ↔ ((old q ≡ time) ⊎ (q ≡ p))
fired_or old new time p is q = (forth (same_place q p) refl, back (same_place q p) refl)
  where
    forth : (t : Bool) → same_place q p ≡ t → new q ≡ time → (old q ≡ time) ⊎ (q ≡ p)
    forth true s e = inr (place_one q p s)
    forth false s e = inl (sym (is q ∙ ap (λ (b : Bool). cond b time (old q)) s) ∙ e)

    back : (t : Bool) → same_place q p ≡ t → (old q ≡ time) ⊎ (q ≡ p) → new q ≡ time
    back true s e = is q ∙ ap (λ (b : Bool). cond b time (old q)) s
    back false s e = elim e [
      | inl was ↦ is q ∙ ap (λ (b : Bool). cond b time (old q)) s ∙ was
      | inr same ↦ absurd (false≢true (sym s ∙ ap (λ (r : Pos). same_place r p) same ∙ place_itself p))
    ]

-- what fired last at a time has not fired later
pub never_late : (m : Numbered) → IsNumbered m → (latest : List ℕ) (time : ℕ) → ((n : ℕ) → slice_index latest n ≤ time) → (p : Pos) → held m latest 0 p ≡ time + 1 → ⊥
never_late m w latest time past p fired = elim (number_cases m p) [
  | inl none ↦ (let is : held m latest 0 p ≡ 0 = held-none m latest 0 p none in omega arith)
  | inr n ↦ (let is : held m latest 0 p ≡ slice_index latest n.0 = held-there m latest 0 p n.0 n.1 in let l : slice_index latest n.0 ≤ time = past n.0 in omega arith)
]
