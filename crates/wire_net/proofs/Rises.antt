-- The steps of the rising wave.
use Rattle.std.specs.Prelude.{◌≡◌, ℕ, ◌+◌, ◌-◌, ◌<◌, ◌≤◌, ◌⊎◌, max, List, [], ◌∷◌, ◌++◌, length, slice_index, set, refl}
use Rattle.std.proofs.Common.{◌≢◌, sym, ◌∙◌, ap, arith, inl, inr}
use Rattle.std.proofs.lemmas.List.{length-set, get_or-set_same, get_or-set_other}
use Rattle.wire_net.specs.Net.{Cell, cell_at, power_under, feeders_of, IsBounded, IsRight}
use Rattle.wire_net.specs.Laws.{nat_same, power_under-cap, right_where}
use Rattle.wire_net.specs.Listed.{list_at}
use Rattle.wire_net.specs.WaveSteps.{Later, Has, IsTurned, Rose, Falling, IsWaiting, Rising, Nothing}
use Rattle.wire_net.proofs.Lists.{length-more, later-next, below-more, feeders-at, has-grown, has-new}
use Rattle.wire_net.proofs.Counts.{count-set, count-most, power-low, greatest_each, has-gives}

-- the changed and the fallen cells are to be looked at, from these indices on
abbrev pub IsTodo : List ℕ → ℕ → List ℕ → ℕ → ℕ → Type 0
IsTodo changed i fallen j e = Later changed i e ⊎ Later fallen j e

pub rise_start : (net : List Cell) (changed p fallen : List ℕ) (ls : List (List ℕ)) → IsBounded net → Falling net changed p fallen (length fallen) [] 0
    → length ls ≡ 16 → ((l : ℕ) → list_at ls l ≡ []) → Rising net p ls 16 0 (IsTodo changed 0 fallen 0)
rise_start net changed p fallen ls b w count empty = record {
  long = w.long;
  low = w.low;
  held = λ e. elim (w.held e) [
    | inl h ↦ h
    | inr r ↦ elim r [
      | inl l ↦ let h : l.0 < 0 = l.2 in absurd (omega arith)
      | inr f ↦ let low : length fallen ≤ f.1.0 = f.1.1 in let high : f.1.0 < length fallen = f.1.2 in absurd (omega arith)
    ]
  ];
  based = λ e. elim (w.full e) [ inl h ↦ inl (omega (arith, h)) | inr t ↦ inr t ];
  fed = λ e f has. elim (w.full e) [ inl h ↦ inl (omega (arith, h, has-gives p (cell_at net e) f has)) | inr t ↦ inr (inl t) ];
  cap = λ e. omega (arith, power-low net p b w.low e);
  count = count;
  inside = λ l. rw (empty l) (λ k h. absurd (omega arith));
  room = λ l. rw (empty l) (omega arith);
}

module _ (net : List Cell) (p : List ℕ) (ls : List (List ℕ)) (level i : ℕ) (Todo Todo1 : ℕ → Type 0) (d : ℕ)
    (w : Rising net p ls level i Todo) (todo : (e : ℕ) → Todo e → (e ≡ d) ⊎ Todo1 e) (inside : d < length net) (bounded : IsBounded net) where
  stays : power_under p (cell_at net d) ≤ slice_index p d → Rising net p ls level i Todo1
  stays ok = record {
    long = w.long;
    low = w.low;
    held = w.held;
    based = λ e. elim (w.based e) [
      | inl h ↦ inl h
      | inr t ↦ elim (todo e t) [
        | inl s ↦ let base : (cell_at net d).base ≤ slice_index p d = omega (arith, ok) in inl (rw s base)
        | inr m ↦ inr m
      ]
    ];
    fed = λ e f has. elim (w.fed e f has) [
      | inl h ↦ inl h
      | inr r ↦ elim r [
        | inl t ↦ elim (todo e t) [
          | inl s ↦
              let has2 : Has (cell_at net d).feeders f = rw s at has in
              let near : slice_index p f ≤ slice_index p d + 1 = omega (arith, ok, has-gives p (cell_at net d) f has2) in
              inl (rw s near)
          | inr m ↦ inr (inl m)
        ]
        | inr v ↦ inr (inr v)
      ]
    ];
    cap = w.cap;
    count = w.count;
    inside = w.inside;
    room = w.room;
  }

  module _ (r : ℕ) (is : r ≡ power_under p (cell_at net d)) (less : slice_index p d < r) where
    top : r < 16
    top = omega (arith, is, power-low net p bounded w.low d)

    within : r < length ls
    within = omega (arith, top, w.count)

    below : r < level
    below = omega (arith, is, w.cap d)

    here : slice_index (set p d r) d ≡ r
    here = get_or-set_same p d r 0 (omega (arith, w.long))

    away : (e : ℕ) → e ≢ d → slice_index (set p d r) e ≡ slice_index p e
    away e n = get_or-set_other p d e r 0 n

    higher : (e : ℕ) → slice_index p e ≤ slice_index (set p d r) e
    higher e = elim (nat_same e d) [ inl s ↦ rw s (omega (arith, here)) | inr n ↦ omega (arith, away e n) ]

    most : (e : ℕ) → slice_index (set p d r) e ≤ max (slice_index p e) r
    most e = elim (nat_same e d) [ inl s ↦ rw s (omega (arith, here)) | inr n ↦ omega (arith, away e n) ]

    under : (e : ℕ) → power_under p (cell_at net e) ≤ power_under (set p d r) (cell_at net e)
    under e = omega (arith, power_under-cap p (set p d r) 0 (λ j. omega (arith, higher j)) (cell_at net e))

    listed : (l : ℕ) → l ≢ r → list_at (set ls r (list_at ls r ++ d ∷ [])) l ≡ list_at ls l
    listed l n = get_or-set_other ls r l (list_at ls r ++ d ∷ []) [] n

    listed-here : list_at (set ls r (list_at ls r ++ d ∷ [])) r ≡ list_at ls r ++ d ∷ []
    listed-here = get_or-set_same ls r (list_at ls r ++ d ∷ []) [] within

    waits-new : IsWaiting (set p d r) (set ls r (list_at ls r ++ d ∷ [])) level i d
    waits-new = inl (rw here below, rw here (has-new ls r d within))

    waits : (f : ℕ) → IsWaiting p ls level i f → IsWaiting (set p d r) (set ls r (list_at ls r ++ d ∷ [])) level i f
    waits f v = elim (nat_same f d) [
      | inl s ↦ rw s waits-new
      | inr n ↦ elim v [
        | inl a ↦ inl (rw (away f n) a.0, rw (away f n) (has-grown ls r d within (slice_index p f) f a.1))
        | inr a ↦ inr (rw (away f n) a.0, rw (listed level (omega (arith, below))) a.1)
      ]
    ]

    rises : Rising net (set p d r) (set ls r (list_at ls r ++ d ∷ [])) level i Todo1
    rises = record {
      long = length-set p d r ∙ w.long;
      low = λ e. omega (arith, most e, w.low e, top);
      held = λ e. elim (nat_same e d) [
        | inl s ↦ rw s (omega (arith, here, is, under d))
        | inr n ↦ omega (arith, away e n, w.held e, under e)
      ];
      based = λ e. elim (nat_same e d) [
        | inl s ↦ let base : (cell_at net d).base ≤ slice_index (set p d r) d = omega (arith, here, is) in inl (rw s base)
        | inr n ↦ elim (w.based e) [
          | inl h ↦ inl (omega (arith, h, away e n))
          | inr t ↦ elim (todo e t) [ inl s ↦ absurd (n s) | inr m ↦ inr m ]
        ]
      ];
      fed = λ e f has. elim (nat_same e d) [
        | inl s ↦
            let has2 : Has (cell_at net d).feeders f = rw s at has in
            let near : slice_index (set p d r) f ≤ slice_index (set p d r) d + 1 = omega (arith, here, is, most f, has-gives p (cell_at net d) f has2) in
            inl (rw s near)
        | inr n ↦ elim (w.fed e f has) [
          | inl h ↦ elim (nat_same f d) [
            | inl s ↦ inr (inr (rw s waits-new))
            | inr m ↦ inl (omega (arith, h, away e n, away f m))
          ]
          | inr v ↦ elim v [
            | inl t ↦ elim (todo e t) [ inl s ↦ absurd (n s) | inr m ↦ inr (inl m) ]
            | inr a ↦ inr (inr (waits f a))
          ]
        ]
      ];
      cap = λ e. omega (arith, below, w.cap e, higher e, power_under-cap (set p d r) p r most (cell_at net e));
      count = length-set ls r (list_at ls r ++ d ∷ []) ∙ w.count;
      inside = λ l. elim (nat_same l r) [
        | inl s ↦ rw (s, listed-here) (below-more (length net) (list_at ls r) d (w.inside r) inside)
        | inr n ↦ rw (listed l n) (w.inside l)
      ];
      room = λ l. elim (nat_same l r) [
        | inl s ↦ rw (s, listed-here) (omega (arith, length-more (list_at ls r) d, w.room r, count-set r p d r (omega (arith, w.long))))
        | inr n ↦ rw (listed l n) (omega (arith, w.room l, count-set l p d r (omega (arith, w.long))))
      ];
    }

  pub rise_step : (p1 : List ℕ) (ls1 : List (List ℕ)) → Rose net p ls d p1 ls1 → Rising net p1 ls1 level i Todo1
  rise_step p1 ls1 f = elim f [
    | inl s ↦ rw (s.1, s.2) (stays s.0)
    | inr s ↦ rw (s.1, s.2) (rises (power_under p (cell_at net d)) refl s.0)
  ]

pub rise_todo : (net : List Cell) (p : List ℕ) (ls : List (List ℕ)) (level i : ℕ) (Todo Todo1 : ℕ → Type 0)
    → Rising net p ls level i Todo → ((e : ℕ) → Todo e → Todo1 e) → Rising net p ls level i Todo1
rise_todo net p ls level i Todo Todo1 w todo = record {
  long = w.long;
  low = w.low;
  held = w.held;
  based = λ e. elim (w.based e) [ inl h ↦ inl h | inr t ↦ inr (todo e t) ];
  fed = λ e f has. elim (w.fed e f has) [ inl h ↦ inl h | inr r ↦ elim r [ inl t ↦ inr (inl (todo e t)) | inr v ↦ inr (inr v) ] ];
  cap = w.cap;
  count = w.count;
  inside = w.inside;
  room = w.room;
}

-- a level is done
pub rise_level : (net : List Cell) (p : List ℕ) (ls : List (List ℕ)) (level i : ℕ)
    → Rising net p ls level i Nothing → length (list_at ls level) ≤ i → Rising net p ls (level - 1) 0 Nothing
rise_level net p ls level i w past =
    let waits : (f : ℕ) → IsWaiting p ls level i f → IsWaiting p ls (level - 1) 0 f =
    λ f v. elim v [
      | inl a ↦ elim (nat_same (slice_index p f) (level - 1)) [
        | inl s ↦ inr (s, rw s at a.1)
        | inr n ↦ let h : slice_index p f < level = a.0 in inl (omega arith, a.1)
      ]
      | inr a ↦ let low : i ≤ a.1.0 = a.1.1 in let high : a.1.0 < length (list_at ls level) = a.1.2 in absurd (omega arith)
    ] in
    let fed : (e f : ℕ) → Has (cell_at net e).feeders f → (slice_index p f ≤ slice_index p e + 1) ⊎ (Nothing e ⊎ IsWaiting p ls (level - 1) 0 f) =
    λ e f has. elim (w.fed e f has) [ inl h ↦ inl h | inr r ↦ elim r [ inl t ↦ absurd t | inr v ↦ inr (inr (waits f v)) ] ] in
    record {
      long = w.long;
      low = w.low;
      held = w.held;
      based = w.based;
      fed = fed;
      cap = λ e.
          let each : (f : ℕ) → Has (cell_at net e).feeders f → slice_index p f - 1 ≤ max (slice_index p e) (level - 1 - 1) =
          λ f has. elim (fed e f has) [
            | inl h ↦ omega arith
            | inr r ↦ elim r [
              | inl t ↦ absurd t
              | inr v ↦ elim v [
                | inl a ↦ let h : slice_index p f < level - 1 = a.0 in omega arith
                | inr a ↦ let h : slice_index p f ≡ level - 1 = a.0 in omega arith
              ]
            ]
          ] in
          let base : (cell_at net e).base ≤ slice_index p e = elim (w.based e) [ inl h ↦ h | inr t ↦ absurd t ] in
          omega (arith, base, greatest_each (λ f. slice_index p f - 1) (max (slice_index p e) (level - 1 - 1)) (cell_at net e).feeders each);
      count = w.count;
      inside = w.inside;
      room = w.room;
    }

-- the turn of the next cell of a level: if it still has that power, those that it feeds are to be looked at
pub rise_next : (net : List Cell) (p : List ℕ) (ls : List (List ℕ)) (level i : ℕ) (feeders fed : List (List ℕ))
    → Rising net p ls level i Nothing → feeders ≡ feeders_of net → IsTurned feeders fed
    → Rising net p ls level (i + 1) (λ e. Later (list_at fed (slice_index (list_at ls level) i)) 0 e)
rise_next net p ls level i feeders fed w lists t = record {
  long = w.long;
  low = w.low;
  held = w.held;
  based = λ e. elim (w.based e) [ inl h ↦ inl h | inr n ↦ absurd n ];
  fed = λ e f has. elim (w.fed e f has) [
    | inl h ↦ inl h
    | inr r ↦ elim r [
      | inl n ↦ absurd n
      | inr v ↦ elim v [
        | inl a ↦ inr (inr (inl a))
        | inr a ↦ elim (later-next (list_at ls level) i f a.1) [
          | inl s ↦
              let feeds : Has (list_at feeders e) (slice_index (list_at ls level) i) = rw (lists, feeders-at net e, ← s) has in
              inr (inl (t.each e (slice_index (list_at ls level) i) feeds))
          | inr m ↦ inr (inr (inr (a.0, m)))
        ]
      ]
    ]
  ];
  cap = w.cap;
  count = w.count;
  inside = w.inside;
  room = w.room;
}

pub rise_skip : (net : List Cell) (p : List ℕ) (ls : List (List ℕ)) (level i : ℕ)
    → Rising net p ls level i Nothing → slice_index p (slice_index (list_at ls level) i) ≢ level → Rising net p ls level (i + 1) Nothing
rise_skip net p ls level i w other = record {
  long = w.long;
  low = w.low;
  held = w.held;
  based = w.based;
  fed = λ e f has. elim (w.fed e f has) [
    | inl h ↦ inl h
    | inr r ↦ elim r [
      | inl n ↦ absurd n
      | inr v ↦ elim v [
        | inl a ↦ inr (inr (inl a))
        | inr a ↦ elim (later-next (list_at ls level) i f a.1) [
          | inl s ↦ absurd (other (ap (λ (j : ℕ). slice_index p j) (sym s) ∙ a.0))
          | inr m ↦ inr (inr (inr (a.0, m)))
        ]
      ]
    ]
  ];
  cap = w.cap;
  count = w.count;
  inside = w.inside;
  room = w.room;
}

pub rise_end : (net : List Cell) (p : List ℕ) (ls : List (List ℕ)) → Rising net p ls 0 0 Nothing → IsRight net p
rise_end net p ls w = right_where net p w.long (λ j h. omega (arith, w.held j, w.cap j))

-- a cell that is listed at a level has its index below the number of cells
pub rise_short : (net : List Cell) (p : List ℕ) (ls : List (List ℕ)) (level i : ℕ) (Todo : ℕ → Type 0) (k : ℕ) → Rising net p ls level i Todo → k < length (list_at ls level) → k < length net
rise_short net p ls level i Todo k w h = omega (arith, w.room level, count-most level p, w.long)
