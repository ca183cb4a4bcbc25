-- A tick, one firing after another: each leaves fewer to fire, and in the end they are a firing list.
use Rattle.std.proofs.Common.{◌≡◌, ◌≢◌, ℕ, zero, suc, ◌+◌, ◌<◌, ◌≤◌, Bool, true, false, cond, List, [], ◌∷◌, refl, sym, ap, subst, ◌∙◌, arith, Some, length, inl, inr}
use Rattle.std.proofs.lemmas.Bool.{cases_Bool, cases_lt}
use Rattle.circuit.specs.declared.Pos.{Pos}
use Rattle.circuit.specs.declared.Cell.{Cell}
use Rattle.circuit.specs.Circuit.{Circuit, State, IsDue, fire_all}
use Rattle.circuit.specs.Firing.{Fires, NoneDue, FiresNext, due_at}
use Rattle.circuit.proofs.FiringLaw.{fire_makes_none_due, fires_is_firing_list}
use Rattle.circuit.proofs.Runs.{due_at-true, due_at_from}
use Rattle.build.specs.Roles.{role_at}
use Rattle.cell_queue.specs.Held.{Holding, cell_of}
use Rattle.wiring.specs.Things.{Numbered, IsNumbered, number_at, held, nothing}
use Rattle.wiring.specs.Numbers.{held-there, held-spot, spot-there, spot_number}
use Rattle.world_engine.specs.Running.{circuit_of, state_of, spot, FiresOne, FiresNone, FiresAll}
use Rattle.world_engine.proofs.Held.{test_of_places, number_role}

-- the component of a thing has a tick that is due
abbrev pub due_in : Numbered → Holding → ℕ → Bool
due_in m h n = due_at (role_at m.plan m.marks (spot m n)) (cell_of h.cells n) h.time

-- a due thing is a due place
due_place : (m : Numbered) → IsNumbered m → (h : Holding) (i : ℕ) → i < length m.spots → due_in m h i ≡ true → IsDue (circuit_of m) (state_of m h) (spot m i)
due_place m w h i below due =
    let d = due_at-true (role_at m.plan m.marks (spot m i)) (cell_of h.cells i) h.time due in
    let e : held m h.cells nothing (spot m i) ≡ cell_of h.cells i = held-spot m w h.cells nothing i below in
    record { component = d.0; there = d.1; waits = λ z. d.2 (ap (λ (c : Cell). c.due) (sym e) ∙ z); now = ap (λ (c : Cell). c.due) e ∙ d.3 }

-- and a due place a due thing
due_thing : (m : Numbered) → IsNumbered m → (h : Holding) (p : Pos) → IsDue (circuit_of m) (state_of m h) p → (n : ℕ) × (n < length m.spots) × (spot m n ≡ p) × (due_in m h n ≡ true)
due_thing m w h p d =
    let n = number_role m w p d.component d.there in
    let t = spot-there m w p n.0 n.1 in
    let here : cell_of h.cells n.0 ≡ held m h.cells nothing p = sym (held-there m h.cells nothing p n.0 n.1) in
    (n.0, t.0, t.1, rw (t.1, here, d.there) (due_at_from d.component (held m h.cells nothing p) h.time d.waits d.now))

-- two things at one spot are one
same_spot : (m : Numbered) → IsNumbered m → (i j : ℕ) → i < length m.spots → j < length m.spots → spot m i ≡ spot m j → i ≡ j
same_spot m w i j a b e = let both : Some i ≡ Some j = sym (spot_number m w i a) ∙ ap (number_at m) e ∙ spot_number m w j b in cc

-- ---- the firings of a tick

-- Whatever fires from here on, all of it fires from the old state.
abbrev pub FiresFrom : Numbered → State Pos → State Pos → Type 0
FiresFrom m old now = (keys : List Pos) → Fires (circuit_of m) now keys → (all : List Pos) × Fires (circuit_of m) old all × (fire_all (circuit_of m) old all ≡ fire_all (circuit_of m) now keys)

pub fires_start : (m : Numbered) (s : State Pos) → FiresFrom m s s
fires_start m s keys fires = (keys, fires, refl)

pub fires_next : (m : Numbered) (old now next : State Pos) (key : Pos) → FiresFrom m old now → FiresOne (circuit_of m) now next key → FiresFrom m old next
fires_next m old now next key from one keys fires =
    let C : Circuit Pos = circuit_of m in
    let more = FiresNext key one.due one.least (subst (λ (t : State Pos). Fires C t keys) one.after fires) in
    let all = from (key ∷ keys) more in
    (all.0, all.1, all.2 ∙ ap (λ (t : State Pos). fire_all C t keys) (sym one.after))

pub fires_end : (m : Numbered) (old now new : State Pos) → FiresFrom m old now → FiresNone (circuit_of m) now new → FiresAll (circuit_of m) old new
fires_end m old now new from none =
    let all = from [] (NoneDue none.none) in
    record { keys = all.0; order = fires_is_firing_list (circuit_of m) test_of_places old all.0 all.1; after = none.same ∙ sym all.2 }

-- ---- each firing leaves fewer to fire

abbrev pub count_below : (ℕ → Bool) → ℕ → ℕ
count_below test zero = 0
count_below test (suc n) = (cond (test n) 1 0) + count_below test n

count_less : (p q : ℕ → Bool) (n : ℕ) → ((k : ℕ) → k < n → q k ≡ true → p k ≡ true) → count_below q n ≤ count_below p n
count_less p q zero h = omega arith
count_less p q (suc n) h =
    let rest : count_below q n ≤ count_below p n = count_less p q n (λ k l. h k (omega arith)) in
    elim (cases_Bool (q n)) [
      | inl e ↦ rw (e, h n (omega arith) e) (omega arith)
      | inr e ↦ rw e (omega arith)
    ]

count_falls : (p q : ℕ → Bool) (n j : ℕ) → j < n → p j ≡ true → q j ≡ false → ((k : ℕ) → k < n → q k ≡ true → p k ≡ true) → count_below q n < count_below p n
count_falls p q zero j l a z h = absurd (omega arith)
count_falls p q (suc n) j l a z h = elim (cases_lt j n) [
  | inl below ↦
      (let rest : count_below q n < count_below p n = count_falls p q n j below a z (λ k m. h k (omega arith)) in
      elim (cases_Bool (q n)) [
        | inl e ↦ rw (e, h n (omega arith) e) (omega arith)
        | inr e ↦ rw e (omega arith)
      ])
  | inr past ↦
      (let same : j ≡ n = omega arith in
      let rest : count_below q n ≤ count_below p n = count_less p q n (λ k m. h k (omega arith)) in
      rw (ap p (sym same) ∙ a, ap q (sym same) ∙ z) (omega arith))
]

abbrev pub due_count : Numbered → Holding → ℕ
due_count m h = count_below (due_in m h) (length m.spots)

pub firing_lowers : (m : Numbered) → IsNumbered m → (h next : Holding) (i : ℕ) → 0 < h.time → i < length m.spots → FiresOne (circuit_of m) (state_of m h) (state_of m next) (spot m i) → due_count m next < due_count m h
firing_lowers m w h next i late inside one = count_falls (due_in m h) (due_in m next) (length m.spots) i inside was_due quiet before
  where
    C : Circuit Pos
    C = circuit_of m

    s : State Pos
    s = state_of m h

    was : (k : ℕ) → k < length m.spots → due_in m next k ≡ true → (spot m k ≢ spot m i) × IsDue C s (spot m k)
    was k l d = fire_makes_none_due C test_of_places s (spot m i) late (spot m k) (subst (λ (t : State Pos). IsDue C t (spot m k)) one.after (due_place m w next k l d))

    was_due : due_in m h i ≡ true
    was_due = let c = due_thing m w h (spot m i) one.due in subst (λ (n : ℕ). due_in m h n ≡ true) (same_spot m w c.0 i c.1 inside c.2) c.3

    before : (k : ℕ) → k < length m.spots → due_in m next k ≡ true → due_in m h k ≡ true
    before k l d = let c = due_thing m w h (spot m k) (was k l d).1 in subst (λ (n : ℕ). due_in m h n ≡ true) (same_spot m w c.0 k c.1 l c.2) c.3

    quiet : due_in m next i ≡ false
    quiet = elim (cases_Bool (due_in m next i)) [ inl e ↦ absurd ((was i inside e).0 refl) | inr e ↦ e ]
