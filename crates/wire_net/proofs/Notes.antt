-- Each step of a wave lists the cell whose power it changes.
use Rattle.std.specs.Prelude.{◌≡◌, ℕ, ◌<◌, ◌≤◌, ◌⊎◌, List, length, slice_index, set, refl}
use Rattle.std.proofs.Common.{◌∙◌, arith, inl, inr}
use Rattle.std.proofs.lemmas.List.{get_or-set_other}
use Rattle.wire_net.specs.Net.{Cell, cell_at, power_under, IsBounded}
use Rattle.wire_net.specs.Laws.{nat_same}
use Rattle.wire_net.specs.WaveSteps.{Has, Fell, Rose}
use Rattle.wire_net.specs.Noted.{InSome, Notes}
use Rattle.wire_net.proofs.Lists.{later-more, later-last, has-grown, has-new}
use Rattle.wire_net.proofs.Counts.{power-low}

pub notes_none : (p : List ℕ) (L : ℕ → Type 0) → Notes p L p L
notes_none p L = record { each = λ e. inl refl; kept = λ e h. h }

pub notes_then : (p q r : List ℕ) (L M N : ℕ → Type 0) → Notes p L q M → Notes q M r N → Notes p L r N
notes_then p q r L M N a b = record {
  each = λ e. elim (b.each e) [
    | inr h ↦ inr h
    | inl s ↦ elim (a.each e) [ inl t ↦ inl (s ∙ t) | inr h ↦ inr (b.kept e h) ]
  ];
  kept = λ e h. b.kept e (a.kept e h);
}

away : (p : List ℕ) (d x e : ℕ) → (slice_index (set p d x) e ≡ slice_index p e) ⊎ (e ≡ d)
away p d x e = elim (nat_same e d) [ inl s ↦ inr s | inr n ↦ inl (get_or-set_other p d e x 0 n) ]

pub notes_fell : (net : List Cell) (p fallen : List ℕ) (d : ℕ) (p1 fallen1 : List ℕ) → Fell net p fallen d p1 fallen1 → Notes p (Has fallen) p1 (Has fallen1)
notes_fell net p fallen d p1 fallen1 f = elim f [
  | inl s ↦ rw (s.1, s.2) (notes_none p (Has fallen))
  | inr s ↦ rw (s.1, s.2) (record {
    each = λ e. elim (away p d 0 e) [ inl h ↦ inl h | inr h ↦ inr (rw h (later-last fallen d 0 (omega arith))) ];
    kept = λ e h. later-more fallen d 0 e h;
  })
]

pub notes_rose : (net : List Cell) (p : List ℕ) (ls : List (List ℕ)) (d : ℕ) (p1 : List ℕ) (ls1 : List (List ℕ)) → IsBounded net → ((e : ℕ) → slice_index p e ≤ 15) → length ls ≡ 16
    → Rose net p ls d p1 ls1 → Notes p (InSome ls) p1 (InSome ls1)
notes_rose net p ls d p1 ls1 bounded low count f = elim f [
  | inl s ↦ rw (s.1, s.2) (notes_none p (InSome ls))
  | inr s ↦
      let within : power_under p (cell_at net d) < length ls = omega (arith, count, power-low net p bounded low d) in
      rw (s.1, s.2) (record {
        each = λ e. elim (away p d (power_under p (cell_at net d)) e) [
          | inl h ↦ inl h
          | inr h ↦ inr (rw h (power_under p (cell_at net d), has-new ls (power_under p (cell_at net d)) d within))
        ];
        kept = λ e h. (h.0, has-grown ls (power_under p (cell_at net d)) d within h.0 e h.1);
      })
]
