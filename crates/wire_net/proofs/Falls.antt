-- The steps of the falling wave.
use Rattle.std.specs.Prelude.{◌≡◌, ℕ, ◌+◌, ◌-◌, ◌<◌, ◌≤◌, ◌⊎◌, List, [], ◌∷◌, ◌++◌, length, map, slice_index, set}
use Rattle.std.proofs.Common.{◌≢◌, sym, ◌∙◌, ap, arith, inl, inr}
use Rattle.std.proofs.lemmas.List.{length-set, get_or-set_same, get_or-set_other, length-map}
use Rattle.wire_net.specs.Net.{Cell, cell_at, greatest, power_under, feeders_of, WasRight}
use Rattle.wire_net.specs.Laws.{nat_same, power_under-cap, right-at, right_bounded}
use Rattle.wire_net.specs.Listed.{list_at}
use Rattle.wire_net.specs.WaveSteps.{Has, IsTurned, Fell, Falling}
use Rattle.wire_net.proofs.Lists.{length-more, later-more, later-last, later-next, below-more, feeders-at, has-of}
use Rattle.wire_net.proofs.Counts.{count-set, greatest-change, count-most}

pub length-right : (net : List Cell) (p changed : List ℕ) → WasRight net p changed → length p ≡ length net
length-right net p changed w =
    ap (λ (xs : List ℕ). length xs) w.right ∙ length-map w.before (power_under p)
    ∙ sym (length-map w.before (λ (c : Cell). c.feeders)) ∙ ap (λ (xs : List (List ℕ)). length xs) w.feeders ∙ length-map net (λ (c : Cell). c.feeders)

-- a cell that is not a changed one has its power before
same_feeders : (net : List Cell) (p changed : List ℕ) (w : WasRight net p changed) (e : ℕ) → (cell_at w.before e).feeders ≡ (cell_at net e).feeders
same_feeders net p changed w e = sym (feeders-at w.before e) ∙ ap (λ (xs : List (List ℕ)). list_at xs e) w.feeders ∙ feeders-at net e

was-right : (net : List Cell) (p changed : List ℕ) → WasRight net p changed → (e : ℕ) → (slice_index p e ≡ power_under p (cell_at net e)) ⊎ Has changed e
was-right net p changed w e = elim (w.bases e) [
  | inr c ↦ inr (has-of changed e c)
  | inl b ↦
      let f : greatest (map (λ f. slice_index p f - 1) (cell_at w.before e).feeders) ≡ greatest (map (λ f. slice_index p f - 1) (cell_at net e).feeders)
      = ap (λ (xs : List ℕ). greatest (map (λ f. slice_index p f - 1) xs)) (same_feeders net p changed w e) in
      inl (omega (arith, right-at w.before p w.right e, b, f))
]

pub fall_start : (net : List Cell) (changed p fallen : List ℕ) → WasRight net p changed → fallen ≡ [] → Falling net changed p fallen 0 changed 0
fall_start net changed p fallen w none = rw none (record {
  long = length-right net p changed w;
  low = right_bounded w.before p w.bounded w.right;
  held = λ e. elim (was-right net p changed w e) [ inl s ↦ inl (omega (arith, s)) | inr c ↦ inr (inl c) ];
  full = λ e. elim (was-right net p changed w e) [ inl s ↦ inl (omega (arith, s)) | inr c ↦ inr (inl c) ];
  inside = λ k h. absurd (omega arith);
  room = omega (arith, count-most 1 p, length-right net p changed w);
})

module _ (net : List Cell) (changed p fallen : List ℕ) (next : ℕ) (todo : List ℕ) (i d : ℕ) (w : Falling net changed p fallen next todo i)
    (at : d ≡ slice_index todo i) (inside : d < length net) (short : next ≤ length fallen) where
  stays : slice_index p d ≤ power_under p (cell_at net d) → Falling net changed p fallen next todo (i + 1)
  stays ok = record {
    long = w.long;
    low = w.low;
    held = λ e. elim (w.held e) [
      | inl h ↦ inl h
      | inr t ↦ elim t [
        | inl l ↦ elim (later-next todo i e l) [
          | inl s ↦ let same : e ≡ d = s ∙ sym at in inl (rw same ok)
          | inr m ↦ inr (inl m)
        ]
        | inr f ↦ inr (inr f)
      ]
    ];
    full = w.full;
    inside = w.inside;
    room = w.room;
  }

  here : slice_index (set p d 0) d ≡ 0
  here = get_or-set_same p d 0 0 (omega (arith, w.long))

  away : (e : ℕ) → e ≢ d → slice_index (set p d 0) e ≡ slice_index p e
  away e n = get_or-set_other p d e 0 0 n

  lower : (e : ℕ) → slice_index (set p d 0) e ≤ slice_index p e
  lower e = elim (nat_same e d) [ inl s ↦ rw s (omega (arith, here)) | inr n ↦ omega (arith, away e n) ]

  under : (e : ℕ) → power_under (set p d 0) (cell_at net e) ≤ power_under p (cell_at net e)
  under e = omega (arith, power_under-cap (set p d 0) p 0 (λ j. omega (arith, lower j)) (cell_at net e))

  falls : 0 < slice_index p d → Falling net changed (set p d 0) (fallen ++ d ∷ []) next todo (i + 1)
  falls some = record {
    long = length-set p d 0 ∙ w.long;
    low = λ e. omega (arith, lower e, w.low e);
    held = λ e. elim (nat_same e d) [
      | inl s ↦ inl (rw s (omega (arith, here)))
      | inr n ↦ elim (w.held e) [
        | inl h ↦ elim (greatest-change (λ f. slice_index (set p d 0) f - 1) (λ f. slice_index p f - 1) d (λ x m. ap (λ (a : ℕ). a - 1) (away x m)) (cell_at net e).feeders) [
          | inl r ↦ inl (omega (arith, h, r, away e n))
          | inr has ↦ inr (inr (d, later-last fallen d next short, has))
        ]
        | inr t ↦ elim t [
          | inl l ↦ elim (later-next todo i e l) [ inl s ↦ absurd (n (s ∙ sym at)) | inr m ↦ inr (inl m) ]
          | inr f ↦ inr (inr (f.0, later-more fallen d next f.0 f.1, f.2))
        ]
      ]
    ];
    full = λ e. elim (nat_same e d) [
      | inl s ↦ inr (inr (rw s (later-last fallen d 0 (omega arith))))
      | inr n ↦ elim (w.full e) [
        | inl h ↦ inl (omega (arith, h, under e, away e n))
        | inr t ↦ elim t [ inl c ↦ inr (inl c) | inr f ↦ inr (inr (later-more fallen d 0 e f)) ]
      ]
    ];
    inside = below-more (length net) fallen d w.inside inside;
    room = omega (arith, w.room, length-more fallen d, count-set 1 p d 0 (omega (arith, w.long)));
  }

  pub fall_step : (p1 fallen1 : List ℕ) → Fell net p fallen d p1 fallen1 → Falling net changed p1 fallen1 next todo (i + 1)
  fall_step p1 fallen1 f = elim f [
    | inl s ↦ rw (s.1, s.2) (stays s.0)
    | inr s ↦ rw (s.1, s.2) (falls s.0)
  ]

-- the turn of the next cell that fell: those that it feeds are to be looked at
pub fall_next : (net : List Cell) (changed p fallen : List ℕ) (next : ℕ) (todo : List ℕ) (i : ℕ) (feeders fed : List (List ℕ))
    → Falling net changed p fallen next todo i → length todo ≤ i → feeders ≡ feeders_of net → IsTurned feeders fed
    → Falling net changed p fallen (next + 1) (list_at fed (slice_index fallen next)) 0
fall_next net changed p fallen next todo i feeders fed w past lists t = record {
  long = w.long;
  low = w.low;
  held = λ e. elim (w.held e) [
    | inl h ↦ inl h
    | inr r ↦ elim r [
      | inl l ↦ let low : i ≤ l.0 = l.1 in let high : l.0 < length todo = l.2 in absurd (omega arith)
      | inr f ↦ elim (later-next fallen next f.0 f.1) [
        | inl s ↦
            let feeds : Has (list_at feeders e) (slice_index fallen next) = rw (lists, feeders-at net e, ← s) f.2 in
            inr (inl (t.each e (slice_index fallen next) feeds))
        | inr m ↦ inr (inr (f.0, m, f.2))
      ]
    ]
  ];
  full = w.full;
  inside = w.inside;
  room = w.room;
}

-- what is left where no cell is to be looked at
pub fall_done : (net : List Cell) (changed p fallen : List ℕ) (next : ℕ) (todo : List ℕ) (i : ℕ)
    → Falling net changed p fallen next todo i → length todo ≤ i → Falling net changed p fallen next [] 0
fall_done net changed p fallen next todo i w past = record {
  long = w.long;
  low = w.low;
  held = λ e. elim (w.held e) [
    | inl h ↦ inl h
    | inr r ↦ elim r [
      | inl l ↦ let low : i ≤ l.0 = l.1 in let high : l.0 < length todo = l.2 in absurd (omega arith)
      | inr f ↦ inr (inr f)
    ]
  ];
  full = w.full;
  inside = w.inside;
  room = w.room;
}

pub fell-longer : (net : List Cell) (p fallen : List ℕ) (d : ℕ) (p1 fallen1 : List ℕ) → Fell net p fallen d p1 fallen1 → length fallen ≤ length fallen1
fell-longer net p fallen d p1 fallen1 f = elim f [
  | inl s ↦ rw (s.2) (omega arith)
  | inr s ↦ rw (s.2) (omega (arith, length-more fallen d))
]
