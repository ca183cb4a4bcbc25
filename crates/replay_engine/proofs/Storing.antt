-- The things store their pending ticks, one tick after another.
use Rattle.std.proofs.Common.{◌≡◌, ◌≢◌, ℕ, ◌+◌, ◌-◌, ◌<◌, ◌≤◌, Bool, true, false, cond, List, ◌∷◌, length, get_or, set, drop, Option, Some, None, refl, sym, ◌∙◌, ap, subst, inl, inr, arith}
use Rattle.std.proofs.lemmas.Bool.{cases_Bool, cases_eq}
use Rattle.std.proofs.lemmas.List.{drop_more, get_or-set_same, get_or-set_other}
use Rattle.circuit.specs.declared.Pos.{Pos}
use Rattle.circuit.specs.declared.Component.{Component}
use Rattle.circuit.specs.declared.Cell.{Cell}
use Rattle.build.specs.declared.Pending.{Pending}
use Rattle.build.specs.Place.{same_place}
use Rattle.build.specs.SamePlace.{place_itself, place_one}
use Rattle.build.specs.Plan.{block_at, entry}
use Rattle.build.specs.Roles.{role_at, stored, stored_of, stored_value, waiting_at, cell_with}
use Rattle.replay_engine.specs.Things.{Numbered, IsNumbered, number_at, nothing}
use Rattle.replay_engine.specs.Stores.{AreStored, stored_with}
use Rattle.replay_engine.specs.Running.{spot}
use Rattle.replay_engine.proofs.Held.{spot_number, spot-there}

some-none : {A : Type 0} (x : A) → ◌≡◌ {A = Option A} None (Some x) → ⊥
some-none x e = cc

stored_other : (m : Numbered) (tick : Pending) (rest : List Pending) (p : Pos) → same_place tick.pos p ≡ false → stored_with m (tick ∷ rest) p ≡ stored_with m rest p
unfolding stored_with
stored_other m tick rest p e = ap (λ (b : Bool). stored_of (role_at m.plan m.marks p) (stored_value (block_at m.plan p) (entry m.plan m.plan.levels 0 p)) (cond b (Some tick) (waiting_at rest p))) e

none_stored : (role : Option Component) (value : ℕ) (a b : Option Pending) → role ≡ None → stored_of role value a ≡ stored_of role value b
none_stored None value a b e = refl
none_stored (Some c) value a b e = absurd (cc)

stored_none : (m : Numbered) (a b : List Pending) (p : Pos) → role_at m.plan m.marks p ≡ None → stored_with m a p ≡ stored_with m b p
unfolding stored_with
stored_none m a b p e = none_stored (role_at m.plan m.marks p) (stored_value (block_at m.plan p) (entry m.plan m.plan.levels 0 p)) (waiting_at a p) (waiting_at b p) e

value_with : (value : ℕ) (tick : Option Pending) → (cell_with value tick).value ≡ value
value_with value None = refl
value_with value (Some tick) = refl

some_stored : (role : Option Component) (component : Component) (value : ℕ) (tick : Pending) (before : Option Pending) → role ≡ Some component →
    record { value = (stored_of role value before).value; due = tick.due; priority = tick.priority } ≡ stored_of role value (Some tick)
some_stored None component value tick before e = absurd (cc)
some_stored (Some c) component value tick before e = λ i. record { value = value_with value before i; due = tick.due; priority = tick.priority }

stored_here : (m : Numbered) (tick : Pending) (rest : List Pending) (p : Pos) (component : Component) → same_place tick.pos p ≡ true → role_at m.plan m.marks p ≡ Some component →
    record { value = (stored_with m rest p).value; due = tick.due; priority = tick.priority } ≡ stored_with m (tick ∷ rest) p
unfolding stored_with
stored_here m tick rest p component same there =
    some_stored (role_at m.plan m.marks p) component (stored_value (block_at m.plan p) (entry m.plan m.plan.levels 0 p)) tick (waiting_at rest p) there
    ∙ sym (ap (λ (b : Bool). stored_of (role_at m.plan m.marks p) (stored_value (block_at m.plan p) (entry m.plan m.plan.levels 0 p)) (cond b (Some tick) (waiting_at rest p))) same)

-- no component stands where the tick is pending
pub tick_nowhere : (m : Numbered) (tick : Pending) (cells : List Cell) → role_at m.plan m.marks tick.pos ≡ None → (rest : List Pending) → AreStored m rest cells → AreStored m (tick ∷ rest) cells
tick_nowhere m tick cells none rest before n h = before n h ∙ elim (cases_Bool (same_place tick.pos (spot m n))) [
  | inl s ↦ stored_none m rest (tick ∷ rest) (spot m n) (ap (role_at m.plan m.marks) (sym (place_one tick.pos (spot m n) s)) ∙ none)
  | inr s ↦ sym (stored_other m tick rest (spot m n) s)
]

-- nor a thing
pub tick_outside : (m : Numbered) → IsNumbered m → (tick : Pending) (cells : List Cell) → number_at m tick.pos ≡ None → (rest : List Pending) → AreStored m rest cells → AreStored m (tick ∷ rest) cells
tick_outside m w tick cells none rest before n h = before n h ∙ elim (cases_Bool (same_place tick.pos (spot m n))) [
  | inl s ↦ absurd (some-none n (sym none ∙ ap (number_at m) (place_one tick.pos (spot m n) s) ∙ spot_number m w n h))
  | inr s ↦ sym (stored_other m tick rest (spot m n) s)
]

pub tick_there : (m : Numbered) → IsNumbered m → (tick : Pending) (cells : List Cell) (k : ℕ) (component : Component) (value : ℕ) → length cells ≡ length m.spots → number_at m tick.pos ≡ Some k → role_at m.plan m.marks tick.pos ≡ Some component →
    value ≡ (get_or cells k nothing).value → (rest : List Pending) → AreStored m rest cells → AreStored m (tick ∷ rest) (set cells k (record { value = value; due = tick.due; priority = tick.priority }))
tick_there m w tick cells k component value long at there is rest before n h = elim (cases_eq n k) [
  | inl e ↦ rw e here
  | inr other ↦ get_or-set_other cells k n cell nothing other ∙ before n h ∙ sym (stored_other m tick rest (spot m n) (apart other))
]
  where
    cell : Cell
    cell = record { value = value; due = tick.due; priority = tick.priority }

    t : (k < length m.spots) × (spot m k ≡ tick.pos)
    t = spot-there m w tick.pos k at

    here : get_or (set cells k cell) k nothing ≡ stored_with m (tick ∷ rest) (spot m k)
    here =
        get_or-set_same cells k cell nothing (omega (arith, long, t.0))
        ∙ ap (λ (v : ℕ). record { value = v; due = tick.due; priority = tick.priority }) (is ∙ ap (λ (c : Cell). c.value) (before k t.0))
        ∙ stored_here m tick rest (spot m k) component (ap (same_place tick.pos) t.1 ∙ place_itself tick.pos) (ap (role_at m.plan m.marks) t.1 ∙ there)

    apart : n ≢ k → same_place tick.pos (spot m n) ≡ false
    apart other = elim (cases_Bool (same_place tick.pos (spot m n))) [
      | inl s ↦ (let both : Some n ≡ Some k = sym (spot_number m w n h) ∙ ap (number_at m) (sym (place_one tick.pos (spot m n) s)) ∙ at in let same : n ≡ k = cc in absurd (other same))
      | inr s ↦ s
    ]

-- going back through the ticks
pub ticks_more : (m : Numbered) (pending : List Pending) (index : ℕ) (d : Pending) (old new : List Cell) → 0 < index → index ≤ length pending →
    ((rest : List Pending) → AreStored m rest old → AreStored m (get_or pending (index - 1) d ∷ rest) new) → AreStored m (drop index pending) old → AreStored m (drop (index - 1) pending) new
ticks_more m pending index d old new low high step before =
    let inside : index - 1 < length pending = omega arith in
    let next : index - 1 + 1 ≡ index = omega arith in
    let is : drop (index - 1) pending ≡ get_or pending (index - 1) d ∷ drop index pending =
    drop_more pending (index - 1) d inside ∙ ap (λ (i : ℕ). get_or pending (index - 1) d ∷ drop i pending) next in
    let P : List Pending → Type 0 = λ ticks. AreStored m ticks new in
    subst P (sym is) (step (drop index pending) before)

-- with all pending ticks the things hold what the build stores
pub stored_all : (m : Numbered) (cells : List Cell) → AreStored m m.plan.pending cells → (n : ℕ) → n < length m.spots → get_or cells n nothing ≡ stored m.plan m.marks (spot m n)
unfolding stored stored_with
stored_all m cells all n h = all n h
