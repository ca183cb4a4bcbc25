-- What stands near one place after another attends.
use Rattle.std.proofs.Common.{◌≡◌, ℕ, ◌+◌, ◌<◌, ◌≤◌, List, [], length, get_or, slice_index, sym, ◌∙◌, ap, subst, inl, inr, ◌⊎◌, arith}
use Rattle.std.proofs.lemmas.Bool.{cases_lt}
use Rattle.std.proofs.lemmas.List.{get_or_default}
use Rattle.std.proofs.Math.ListN.{get_or-eq_default}
use Rattle.circuit.specs.declared.Pos.{Pos}
use Rattle.circuit.specs.declared.Cell.{Cell}
use Rattle.wire_net.specs.Listed.{list_at}
use Rattle.wire_net.specs.WaveSteps.{Has}
use Rattle.wire_net.specs.Noted.{Waved, IsNoted}
use Rattle.replay_engine.specs.Near.{IsNearby, nearby, origin}
use Rattle.replay_engine.specs.Things.{Numbered}
use Rattle.replay_engine.specs.Running.{Attends, IsNearOne, spot}
use Rattle.replay_engine.proofs.Attending.{attends-fewer}
use Rattle.replay_engine.proofs.Nearness.{near_listed, length-nearby}
use Rattle.replay_engine.proofs.Steps.{attends-with, attends-empty}

-- what holds of some number below i + 1 holds of one below i or of i
pub split_last : (P : ℕ → Type 0) (i : ℕ) → (k : ℕ) × (k < i + 1) × P k → ((k : ℕ) × (k < i) × P k) ⊎ P i
split_last P i h = elim (cases_lt h.0 i) [
  | inl low ↦ inl (h.0, low, h.2)
  | inr high ↦ (let same : h.0 ≡ i = omega (arith, h.1) in inr (subst P same h.2))
]

none_below : (P : ℕ → Type 0) → (k : ℕ) × (k < 0) × P k → ⊥
none_below P h = let low : h.0 < 0 = h.1 in absurd (omega arith)

-- the same at an equal time
pub at_time : (m : Numbered) (t time : ℕ) (powers : List ℕ) (a b : List Cell) (D : Pos → Type 0) → t ≡ time → Attends m t powers a b D → Attends m time powers a b D
at_time m t time powers a b D e f = subst (λ (s : ℕ). Attends m s powers a b D) e f

module _ (m : Numbered) (time : ℕ) (powers : List ℕ) where
  -- those of a list of places, one by one
  abbrev pub Among : List Pos → ℕ → Pos → Type 0
  Among places i p = (k : ℕ) × (k < i) × (p ≡ get_or places k origin)

  pub among_start : (cells : List Cell) (places : List Pos) → Attends m time powers cells cells (Among places 0)
  among_start cells places = attends-empty m time powers cells (Among places 0) (λ p h. none_below (λ k. p ≡ get_or places k origin) h)

  pub among_next : (a b c : List Cell) (places : List Pos) (i : ℕ) (here : Pos) → here ≡ get_or places i origin → Attends m time powers a b (Among places i) → Attends m time powers b c (λ p. p ≡ here) →
      Attends m time powers a c (Among places (i + 1))
  among_next a b c places i here at f g = attends-with m time powers a b c (Among places i) (λ p. p ≡ here) (Among places (i + 1)) split f g
    where
      split : (p : Pos) → Among places (i + 1) p → Among places i p ⊎ (p ≡ here)
      split p h = elim (split_last (λ k. p ≡ get_or places k origin) i h) [ inl low ↦ inl low | inr last ↦ inr (last ∙ sym at) ]

  pub among_near : (a b : List Cell) (places : List Pos) (i : ℕ) (there : Pos) → places ≡ nearby there → 25 ≤ i → Attends m time powers a b (Among places i) → Attends m time powers a b (IsNearby there)
  among_near a b places i there are all f = attends-fewer m time powers a b (Among places i) (IsNearby there) here f
    where
      here : (p : Pos) → IsNearby there p → Among places i p
      here p near =
          let at = near_listed there p near in
          (at.0, omega (arith, at.1, all), sym (ap (λ (ps : List Pos). get_or ps at.0 origin) are ∙ get_or_default (nearby there) at.0 origin p (rw (length-nearby there) at.1) ∙ at.2))

  -- those near the things of a list, one by one
  abbrev pub NearFirst : List ℕ → ℕ → Pos → Type 0
  NearFirst numbers i p = (k : ℕ) × (k < i) × IsNearby (spot m (slice_index numbers k)) p

  pub first_start : (cells : List Cell) (numbers : List ℕ) → Attends m time powers cells cells (NearFirst numbers 0)
  first_start cells numbers = attends-empty m time powers cells (NearFirst numbers 0) (λ p h. none_below (λ k. IsNearby (spot m (slice_index numbers k)) p) h)

  pub first_next : (a b c : List Cell) (numbers : List ℕ) (i : ℕ) → Attends m time powers a b (NearFirst numbers i) → Attends m time powers b c (IsNearby (spot m (slice_index numbers i))) →
      Attends m time powers a c (NearFirst numbers (i + 1))
  first_next a b c numbers i f g = attends-with m time powers a b c (NearFirst numbers i) (IsNearby (spot m (slice_index numbers i))) (NearFirst numbers (i + 1))
      (λ p h. split_last (λ k. IsNearby (spot m (slice_index numbers k)) p) i h) f g

  pub first_all : (a b : List Cell) (numbers : List ℕ) (i : ℕ) → length numbers ≤ i → Attends m time powers a b (NearFirst numbers i) → Attends m time powers a b (IsNearOne m (Has numbers))
  first_all a b numbers i all f = attends-fewer m time powers a b (NearFirst numbers i) (IsNearOne m (Has numbers)) here f
    where
      here : (p : Pos) → IsNearOne m (Has numbers) p → NearFirst numbers i p
      here p h = (h.1.0, omega (arith, h.1.2, all), subst (λ (n : ℕ). IsNearby (spot m n) p) (sym h.1.3) h.2)

  -- those near the things of some lists, list by list
  abbrev pub InFirst : List (List ℕ) → ℕ → ℕ → Type 0
  InFirst lists i n = (k : ℕ) × (k < i) × Has (list_at lists k) n

  pub lists_start : (cells : List Cell) (lists : List (List ℕ)) → Attends m time powers cells cells (IsNearOne m (InFirst lists 0))
  lists_start cells lists = attends-empty m time powers cells (IsNearOne m (InFirst lists 0)) (λ p h. none_below (λ k. Has (list_at lists k) h.0) h.1)

  pub lists_next : (a b c : List Cell) (lists : List (List ℕ)) (i : ℕ) → Attends m time powers a b (IsNearOne m (InFirst lists i)) → Attends m time powers b c (IsNearOne m (Has (list_at lists i))) →
      Attends m time powers a c (IsNearOne m (InFirst lists (i + 1)))
  lists_next a b c lists i f g = attends-with m time powers a b c (IsNearOne m (InFirst lists i)) (IsNearOne m (Has (list_at lists i))) (IsNearOne m (InFirst lists (i + 1))) split f g
    where
      split : (p : Pos) → IsNearOne m (InFirst lists (i + 1)) p → IsNearOne m (InFirst lists i) p ⊎ IsNearOne m (Has (list_at lists i)) p
      split p h = elim (split_last (λ k. Has (list_at lists k) h.0) i h.1) [ inl low ↦ inl (h.0, low, h.2) | inr last ↦ inr (h.0, last, h.2) ]

  -- all that the waves listed
  pub noted_all : (a b c : List Cell) (waves : Waved) (i : ℕ) → length waves.levels ≡ 16 → 16 ≤ i → Attends m time powers a b (IsNearOne m (Has waves.fallen)) → Attends m time powers b c (IsNearOne m (InFirst waves.levels i)) →
      Attends m time powers a c (IsNearOne m (IsNoted waves))
  noted_all a b c waves i long all f g = attends-with m time powers a b c (IsNearOne m (Has waves.fallen)) (IsNearOne m (InFirst waves.levels i)) (IsNearOne m (IsNoted waves)) split f g
    where
      within : (level n : ℕ) → Has (list_at waves.levels level) n → level < i
      within level n has = elim (cases_lt level 16) [
        | inl low ↦ omega (arith, low, all)
        | inr high ↦
            let none : list_at waves.levels level ≡ [] = get_or-eq_default waves.levels [] {n = level} (omega (arith, long, high)) in
            let short : has.0 < length (list_at waves.levels level) = has.2 in
            let empty : length (list_at waves.levels level) ≡ 0 = ap (λ (xs : List ℕ). length xs) none in
            absurd (omega arith)
      ]

      split : (p : Pos) → IsNearOne m (IsNoted waves) p → IsNearOne m (Has waves.fallen) p ⊎ IsNearOne m (InFirst waves.levels i) p
      split p h = elim h.1 [
        | inl fell ↦ inl (h.0, fell, h.2)
        | inr rose ↦ inr (h.0, (rose.0, within rose.0 h.0 rose.1, rose.1), h.2)
      ]
