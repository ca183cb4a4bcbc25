-- Outputs that are kept right while things attend and levels change.
use Rattle.std.proofs.Common.{◌≡◌, ◌≢◌, ℕ, ◌+◌, ◌<◌, ◌≤◌, List, [], length, map, set, slice_index, Option, Some, None, refl, sym, ◌∙◌, ap, subst, inl, inr, ◌⊎◌, arith}
use Rattle.std.proofs.lemmas.List.{get_or-map, get_or_past, get_or-set_same, get_or-set_other, length-map}
use Rattle.std.proofs.lemmas.Bool.{cases_lt}
use Rattle.circuit.specs.declared.Cell.{Cell}
use Rattle.cell_queue.specs.Held.{Holding, TakesFirst, cell_of, nothing, rested}
use Rattle.wire_net.specs.Laws.{nat_same}
use Rattle.wire_net.specs.Listed.{list_at}
use Rattle.wire_net.specs.Noted.{Waved, IsNoted}
use Rattle.wire_net.specs.WaveSteps.{Has}
use Rattle.wire_net.proofs.Lists.{has-empty}
use Rattle.world_engine.specs.Outlets.{Outlet, Blank, Level, Value}
use Rattle.world_engine.specs.Screens.{Screened, screen_of, number_in, face, nth_outlet, ArePlaced, AreFaced, Refaced, AmongFirst, InFirst, NoThing}

-- ---- one output anew

module _ (levels : List ℕ) (cells : List Cell) (outlets : List Outlet) (places shown : List ℕ) (number : ℕ) (w : ArePlaced outlets places) (long : length shown ≡ length outlets) where
  pub refaced_put : (place value : ℕ) → place ≡ slice_index places number → place < length shown → value ≡ face levels cells (nth_outlet outlets place) →
      Refaced levels cells cells (screen_of outlets places shown) (screen_of outlets places (set shown place value)) (λ n. n ≡ number)
  refaced_put place value there inside is = record {
    count = refl;
    outlets = refl;
    each = λ i. elim (nat_same i place) [
      | inl e ↦ inl (at i e)
      | inr n ↦ inr (get_or-set_other shown place i value 0 n, refl)
    ];
    done = λ i n has e. at i (sym (w.each i n has).1 ∙ ap (slice_index places) e ∙ sym there);
  }
    where
      at : (i : ℕ) → i ≡ place → slice_index (set shown place value) i ≡ face levels cells (nth_outlet outlets i)
      at i e = subst (λ (k : ℕ). slice_index (set shown place value) k ≡ face levels cells (nth_outlet outlets k)) (sym e) (get_or-set_same shown place value 0 inside ∙ is)

  pub refaced_past : (place : ℕ) → place ≡ slice_index places number → length shown ≤ place →
      Refaced levels cells cells (screen_of outlets places shown) (screen_of outlets places shown) (λ n. n ≡ number)
  refaced_past place there past = record {
    count = refl;
    outlets = refl;
    each = λ i. inr (refl, refl);
    done = λ i n has e. absurd (none i n has (sym (w.each i n has).1 ∙ ap (slice_index places) e ∙ sym there));
  }
    where
      none : (i n : ℕ) → number_in (nth_outlet outlets i) ≡ Some n → i ≡ place → ⊥
      none i n has e =
          let blank : nth_outlet outlets i ≡ Blank = get_or_past outlets i Blank (omega arith) in
          let clash : None ≡ Some n = sym (ap number_in blank) ∙ has in
          absurd (cc)

-- what an output must show where one thing holds another cell
differs : (levels : List ℕ) (a b : List Cell) (number : ℕ) → ((k : ℕ) → k ≢ number → cell_of b k ≡ cell_of a k) → (o : Outlet) →
    (face levels b o ≡ face levels a o) ⊎ (number_in o ≡ Some number)
differs levels a b number others Blank = inl refl
differs levels a b number others (Level n) = inl refl
differs levels a b number others (Value n) = elim (nat_same n number) [
  | inl e ↦ inr (ap Some e)
  | inr d ↦ inl (ap (λ (cell : Cell). cell.value) (others n d))
]

-- one thing held another cell, and then its output was made anew
pub refaced_held : (levels : List ℕ) (a b : List Cell) (s t : Screened) (number : ℕ) → ((k : ℕ) → k ≢ number → cell_of b k ≡ cell_of a k) →
    Refaced levels b b s t (λ n. n ≡ number) → Refaced levels a b s t (λ n. n ≡ number)
refaced_held levels a b s t number others r = record {
  count = r.count;
  outlets = r.outlets;
  each = λ i. elim (r.each i) [
    | inl h ↦ inl h
    | inr k ↦ elim (differs levels a b number others (nth_outlet s.outlets i)) [
      | inl f ↦ inr (k.0, f)
      | inr has ↦ inl (r.done i number has refl)
    ]
  ];
  done = r.done;
}

-- ---- one after another

pub refaced_none : (levels : List ℕ) (cells : List Cell) (s : Screened) (D : ℕ → Type 0) → ((n : ℕ) → D n → ⊥) → Refaced levels cells cells s s D
refaced_none levels cells s D none = record {
  count = refl;
  outlets = refl;
  each = λ i. inr (refl, refl);
  done = λ i n has d. absurd (none n d);
}

pub refaced_then : (levels : List ℕ) (a b c : List Cell) (s t u : Screened) (D E F : ℕ → Type 0) → ((n : ℕ) → F n → D n ⊎ E n) →
    Refaced levels a b s t D → Refaced levels b c t u E → Refaced levels a c s u F
refaced_then levels a b c s t u D E F split f g = record {
  count = g.count ∙ f.count;
  outlets = g.outlets ∙ f.outlets;
  each = λ i. elim (there i) [
    | inl h ↦ inl h
    | inr k ↦ elim (f.each i) [
      | inl h ↦ inl (k.0 ∙ h ∙ sym k.1)
      | inr l ↦ inr (k.0 ∙ l.0, k.1 ∙ l.1)
    ]
  ];
  done = λ i n has d. elim (split n d) [
    | inl x ↦ elim (there i) [
      | inl h ↦ h
      | inr k ↦ k.0 ∙ f.done i n has x ∙ sym k.1
    ]
    | inr y ↦ last i n has y
  ];
}
  where
    there : (i : ℕ) → (slice_index u.shown i ≡ face levels c (nth_outlet s.outlets i))
        ⊎ ((slice_index u.shown i ≡ slice_index t.shown i) × (face levels c (nth_outlet s.outlets i) ≡ face levels b (nth_outlet s.outlets i)))
    there i = subst (λ (os : List Outlet). (slice_index u.shown i ≡ face levels c (nth_outlet os i)) ⊎ ((slice_index u.shown i ≡ slice_index t.shown i) × (face levels c (nth_outlet os i) ≡ face levels b (nth_outlet os i)))) f.outlets (g.each i)

    last : (i n : ℕ) → number_in (nth_outlet s.outlets i) ≡ Some n → E n → slice_index u.shown i ≡ face levels c (nth_outlet s.outlets i)
    last i n has y = subst (λ (os : List Outlet). slice_index u.shown i ≡ face levels c (nth_outlet os i)) f.outlets
        (g.done i n (subst (λ (os : List Outlet). number_in (nth_outlet os i) ≡ Some n) (sym f.outlets) has) y)

pub refaced_fewer : (levels : List ℕ) (a b : List Cell) (s t : Screened) (D E : ℕ → Type 0) → ((n : ℕ) → E n → D n) → Refaced levels a b s t D → Refaced levels a b s t E
refaced_fewer levels a b s t D E h f = record {
  count = f.count;
  outlets = f.outlets;
  each = f.each;
  done = λ i n has e. f.done i n has (h n e);
}

-- ---- along a list

-- what a list has at an index, and then its readers, after the first ones
pub refaced_next : (levels taps : List ℕ) (i : ℕ) (a b c : List Cell) (s t u v : Screened) → Refaced levels a b s t (AmongFirst taps i) → Refaced levels b b t u (λ n. n ≡ slice_index taps i) → Refaced levels b c u v NoThing →
    Refaced levels a c s v (AmongFirst taps (i + 1))
refaced_next levels taps i a b c s t u v f g h =
    refaced_then levels a b c s u v (AmongFirst taps (i + 1)) NoThing (AmongFirst taps (i + 1)) (λ n x. inl x) (refaced_then levels a b b s t u (AmongFirst taps i) (λ n. n ≡ slice_index taps i) (AmongFirst taps (i + 1)) split f g) h
  where
    split : (n : ℕ) → AmongFirst taps (i + 1) n → AmongFirst taps i n ⊎ (n ≡ slice_index taps i)
    split n (k, low, short, there) = elim (nat_same k i) [
      | inl e ↦ inr (sym there ∙ ap (slice_index taps) e)
      | inr apart ↦ inl (k, omega arith, short, there)
    ]

pub refaced_taps : (levels taps : List ℕ) (i : ℕ) (a b : List Cell) (s t : Screened) → length taps ≤ i → Refaced levels a b s t (AmongFirst taps i) → Refaced levels a b s t (Has taps)
refaced_taps levels taps i a b s t past f = refaced_fewer levels a b s t (AmongFirst taps i) (Has taps) found f
  where
    found : (n : ℕ) → Has taps n → AmongFirst taps i n
    found n (k, low, short, there) = (k, omega arith, short, there)

pub refaced_begin : (levels : List ℕ) (lists : List (List ℕ)) (number : ℕ) (fallen : List ℕ) (a b c : List Cell) (s t u : Screened) → Refaced levels a b s t (λ n. n ≡ number) → Refaced levels b c t u (Has fallen) →
    Refaced levels a c s u (λ n. ((n ≡ number) ⊎ Has fallen n) ⊎ InFirst lists 0 n)
refaced_begin levels lists number fallen a b c s t u f g = refaced_then levels a b c s t u (λ n. n ≡ number) (Has fallen) (λ n. ((n ≡ number) ⊎ Has fallen n) ⊎ InFirst lists 0 n) split f g
  where
    split : (n : ℕ) → ((n ≡ number) ⊎ Has fallen n) ⊎ InFirst lists 0 n → (n ≡ number) ⊎ Has fallen n
    split n (inl h) = h
    split n (inr (power, low, h)) = absurd (none power low)
      where
        none : (k : ℕ) → k < 0 → ⊥
        none k l = omega arith

pub refaced_power : (levels : List ℕ) (lists : List (List ℕ)) (i : ℕ) (D : ℕ → Type 0) (a b c : List Cell) (s t u : Screened) → Refaced levels a b s t (λ n. D n ⊎ InFirst lists i n) → Refaced levels b c t u (Has (list_at lists i)) →
    Refaced levels a c s u (λ n. D n ⊎ InFirst lists (i + 1) n)
refaced_power levels lists i D a b c s t u f g = refaced_then levels a b c s t u (λ n. D n ⊎ InFirst lists i n) (Has (list_at lists i)) (λ n. D n ⊎ InFirst lists (i + 1) n) split f g
  where
    split : (n : ℕ) → D n ⊎ InFirst lists (i + 1) n → (D n ⊎ InFirst lists i n) ⊎ Has (list_at lists i) n
    split n (inl d) = inl (inl d)
    split n (inr (power, low, h)) = elim (nat_same power i) [
      | inl e ↦ inr (subst (λ (k : ℕ). Has (list_at lists k) n) e h)
      | inr apart ↦ inl (inr (power, omega arith, h))
    ]

pub refaced_told : (levels : List ℕ) (waves : Waved) (i number : ℕ) (a b : List Cell) (s t : Screened) → length waves.levels ≤ i → Refaced levels a b s t (λ n. ((n ≡ number) ⊎ Has waves.fallen n) ⊎ InFirst waves.levels i n) →
    Refaced levels a b s t (λ n. (n ≡ number) ⊎ IsNoted waves n)
refaced_told levels waves i number a b s t past f =
    refaced_fewer levels a b s t (λ n. ((n ≡ number) ⊎ Has waves.fallen n) ⊎ InFirst waves.levels i n) (λ n. (n ≡ number) ⊎ IsNoted waves n) found f
  where
    low : (n power : ℕ) → Has (list_at waves.levels power) n → power < i
    low n power h = elim (cases_lt power i) [
      | inl l ↦ l
      | inr high ↦ has-empty (list_at waves.levels power) n (get_or_past waves.levels power [] (omega arith)) h
    ]

    found : (n : ℕ) → (n ≡ number) ⊎ IsNoted waves n → ((n ≡ number) ⊎ Has waves.fallen n) ⊎ InFirst waves.levels i n
    found n (inl e) = inl (inl e)
    found n (inr (inl h)) = inl (inr h)
    found n (inr (inr (power, h))) = inr (power, low n power h, h)

-- ---- all outputs

-- One thing held another cell and the levels settled; then what may show something else was made anew.
pub faced_anew : (before after : List ℕ) (cells held new : List Cell) (s t : Screened) (number : ℕ) (Noted : ℕ → Type 0) → AreFaced before cells s →
    ((k : ℕ) → k ≢ number → cell_of held k ≡ cell_of cells k) → ((k : ℕ) → (slice_index after k ≡ slice_index before k) ⊎ Noted k) →
    Refaced after held new s t (λ n. (n ≡ number) ⊎ Noted n) → AreFaced after new t
faced_anew before after cells held new s t number Noted faced others noted r = record { each = λ i. subst (λ (os : List Outlet). slice_index t.shown i ≡ face after new (nth_outlet os i)) (sym r.outlets) (there i) }
  where
    stays : (o : Outlet) → (face after held o ≡ face before cells o) ⊎ ((n : ℕ) × (number_in o ≡ Some n) × ((n ≡ number) ⊎ Noted n))
    stays Blank = inl refl
    stays (Level n) = elim (noted n) [
      | inl e ↦ inl e
      | inr h ↦ inr (n, refl, inr h)
    ]
    stays (Value n) = elim (nat_same n number) [
      | inl e ↦ inr (n, refl, inl e)
      | inr d ↦ inl (ap (λ (cell : Cell). cell.value) (others n d))
    ]

    there : (i : ℕ) → slice_index t.shown i ≡ face after new (nth_outlet s.outlets i)
    there i = elim (r.each i) [
      | inl h ↦ h
      | inr k ↦ elim (stays (nth_outlet s.outlets i)) [
        | inl e ↦ k.0 ∙ faced.each i ∙ sym e ∙ sym k.1
        | inr h ↦ r.done i h.0 h.1 h.2
      ]
    ]

-- one cell is another one
pub others_stay : (old new : Holding) (key : ℕ) (cell : Cell) → new ≡ record { time = old.time; cells = set old.cells key cell } → (k : ℕ) → k ≢ key → cell_of new.cells k ≡ cell_of old.cells k
others_stay old new key cell is k apart = ap (λ (h : Holding). cell_of h.cells k) is ∙ get_or-set_other old.cells key k cell nothing apart

-- a tick that is taken changes no value
faced_values : (levels : List ℕ) (a b : List Cell) → ((k : ℕ) → (cell_of b k).value ≡ (cell_of a k).value) → (o : Outlet) → face levels b o ≡ face levels a o
faced_values levels a b same Blank = refl
faced_values levels a b same (Level n) = refl
faced_values levels a b same (Value n) = same n

value-rested : (cells : List Cell) (key k : ℕ) → key < length cells → (cell_of (set cells key (rested (cell_of cells key))) k).value ≡ (cell_of cells k).value
value-rested cells key k inside = elim (nat_same k key) [
  | inl e ↦ ap (λ (n : ℕ). (cell_of (set cells key (rested (cell_of cells key))) n).value) e
      ∙ ap (λ (cell : Cell). cell.value) (get_or-set_same cells key (rested (cell_of cells key)) nothing inside)
      ∙ ap (λ (n : ℕ). (cell_of cells n).value) (sym e)
  | inr n ↦ ap (λ (cell : Cell). cell.value) (get_or-set_other cells key k (rested (cell_of cells key)) nothing n)
]

pub faced_taken : (levels : List ℕ) (old new : Holding) (taken : Option ℕ) (s : Screened) → TakesFirst old taken new → AreFaced levels old.cells s → AreFaced levels new.cells s
faced_taken levels old new None s t f = subst (λ (h : Holding). AreFaced levels h.cells s) (sym t.0) f
faced_taken levels old new (Some key) s t f =
    subst (λ (h : Holding). AreFaced levels h.cells s) (sym t.1)
    (record { each = λ i. f.each i ∙ sym (faced_values levels old.cells (set old.cells key (rested (cell_of old.cells key))) (λ k. value-rested old.cells key k t.0.inside) (nth_outlet s.outlets i)) })

pub faced_map : (levels : List ℕ) (cells : List Cell) (s : Screened) → s.shown ≡ map (face levels cells) s.outlets → AreFaced levels cells s
faced_map levels cells s is = record { each = λ i. ap (λ (xs : List ℕ). slice_index xs i) is ∙ one i }
  where
    one : (i : ℕ) → slice_index (map (face levels cells) s.outlets) i ≡ face levels cells (nth_outlet s.outlets i)
    one i = elim (cases_lt i (length s.outlets)) [
      | inl l ↦ get_or-map (face levels cells) s.outlets i Blank 0 l
      | inr past ↦ get_or_past (map (face levels cells) s.outlets) i 0 (rw (length-map s.outlets (face levels cells)) past)
          ∙ sym (ap (face levels cells) (get_or_past s.outlets i Blank past))
    ]
