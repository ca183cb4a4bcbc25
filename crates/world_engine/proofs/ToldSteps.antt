-- Readers attend, one after another.
use Rattle.std.proofs.Common.{◌≡◌, ℕ, ◌+◌, ◌<◌, ◌≤◌, Bool, true, false, List, [], Option, Some, None, length, set, slice_index, refl, sym, ◌∙◌, ap, subst, inl, inr, ◌⊎◌, arith}
use Rattle.std.proofs.lemmas.Bool.{cases_lt, false≢true}
use Rattle.std.proofs.lemmas.List.{length-set, get_or-map, get_or_past}
use Rattle.circuit.specs.declared.Pos.{Pos}
use Rattle.circuit.specs.declared.Cell.{Cell}
use Rattle.circuit.specs.declared.Component.{Component}
use Rattle.circuit.specs.declared.Readings.{Readings}
use Rattle.circuit.specs.Component.{attended}
use Rattle.circuit.specs.Circuit.{attended_at}
use Rattle.build.specs.Plan.{Plan, block_at}
use Rattle.wire_shape.specs.Shape.{is_wire, wire_at}
use Rattle.power_rules.specs.Readings.{readings_of, readings_at}
use Rattle.block_table.specs.declared.Block.{Block}
use Rattle.block_table.specs.declared.Block.TheVariants.{Wire, Torch, WallTorch, Repeater, Comparator, Lever, Button, Plate, Lamp, Trapdoor, Weighted, Note}
use Rattle.circuit.specs.declared.Component.TheVariants.{Wire as WirePart}
use Rattle.build.specs.Marks.{is_marked}
use Rattle.build.specs.Roles.{role_of, role_at, first_at}
use Rattle.wire_net.specs.Laws.{nat_same}
use Rattle.wire_net.specs.Listed.{list_at}
use Rattle.wire_net.specs.Noted.{Waved, IsNoted}
use Rattle.wire_net.specs.WaveSteps.{Has}
use Rattle.wire_net.proofs.Lists.{has-empty}
use Rattle.cell_queue.specs.Held.{Holding, CanFollow, cell_of}
use Rattle.wiring.specs.Things.{Numbered, IsNumbered, number_at, held, nothing, spot, origin}
use Rattle.wiring.specs.Numbers.{held-there, held-spot, number_cases, spot-there}
use Rattle.wiring.specs.Reads.{IsPlain, back_with}
use Rattle.wiring.specs.Wired.{Wired, IsWired, back_row, side_row, row_level}
use Rattle.wiring.proofs.LevelLaws.{reads-rows}
use Rattle.world_engine.specs.Running.{IsHolding}
use Rattle.world_engine.specs.Levels.{reads_by, after_reading, HaveAttended, IsReader, IsReaderOf, IsTold}
use Rattle.world_engine.proofs.Follow.{delays_small, attended_follows}
use Rattle.world_engine.proofs.Attending.{still_none}
use Rattle.world_engine.proofs.LevelSteps.{attended_then, attended_empty, within-attended}

pub by_time : (m : Numbered) (t time : ℕ) (xs : List ℕ) (a b : List Cell) (D : Pos → Type 0) → t ≡ time → HaveAttended m t xs a b D → HaveAttended m time xs a b D
by_time m t time xs a b D e f = subst (λ (s : ℕ). HaveAttended m s xs a b D) e f

-- ---- along a list

-- one of the first i of a list
abbrev pub FirstOf : (ℕ → Pos → Type 0) → List ℕ → ℕ → Pos → Type 0
FirstOf P row i p = (k : ℕ) × (k < i) × (k < length row) × P (slice_index row k) p

module _ (m : Numbered) (time : ℕ) (xs : List ℕ) where
  pub first_start : (P : ℕ → Pos → Type 0) (row : List ℕ) (cells : List Cell) → HaveAttended m time xs cells cells (FirstOf P row 0)
  first_start P row cells = attended_empty m time xs cells (FirstOf P row 0) (λ p h. none h.0 h.1)
    where
      none : (k : ℕ) → k < 0 → ⊥
      none k h = omega arith

  pub first_next : (P : ℕ → Pos → Type 0) (row : List ℕ) (i : ℕ) (a b c : List Cell) → HaveAttended m time xs a b (FirstOf P row i) → HaveAttended m time xs b c (P (slice_index row i)) → HaveAttended m time xs a c (FirstOf P row (i + 1))
  first_next P row i a b c f g = attended_then m time xs a b c (FirstOf P row i) (P (slice_index row i)) (FirstOf P row (i + 1)) split f g
    where
      split : (p : Pos) → FirstOf P row (i + 1) p → FirstOf P row i p ⊎ P (slice_index row i) p
      split p h = elim (nat_same h.0 i) [
        | inl e ↦ inr (subst (λ (k : ℕ). P (slice_index row k) p) e h.3)
        | inr n ↦ inl (h.0, omega (arith, h.1), h.2, h.3)
      ]

  pub fewer : (a b : List Cell) (D E : Pos → Type 0) → ((p : Pos) → E p → D p) → HaveAttended m time xs a b D → HaveAttended m time xs a b E
  fewer a b D E h f = record { each = f.each; done = λ p e. f.done p (h p e) }

  pub readers_all : (t : Wired) (tap : ℕ) (row : List ℕ) (i : ℕ) (a b : List Cell) → row ≡ list_at t.readers tap → length row ≤ i → HaveAttended m time xs a b (FirstOf (λ x p. p ≡ spot m x) row i) → HaveAttended m time xs a b (IsReader m t tap)
  readers_all t tap row i a b is past = fewer a b (FirstOf (λ x p. p ≡ spot m x) row i) (IsReader m t tap) (λ p h. found p h.0 (subst (λ (ns : List ℕ). Has ns h.0) (sym is) h.1) h.2)
    where
      found : (p : Pos) (x : ℕ) → Has row x → p ≡ spot m x → FirstOf (λ y q. q ≡ spot m y) row i p
      found p x (k, low, short, there) e = (k, omega arith, short, e ∙ ap (spot m) (sym there))

  pub taps_all : (t : Wired) (taps : List ℕ) (i : ℕ) (a b : List Cell) → length taps ≤ i → HaveAttended m time xs a b (FirstOf (IsReader m t) taps i) → HaveAttended m time xs a b (IsReaderOf m t (Has taps))
  taps_all t taps i a b past = fewer a b (FirstOf (IsReader m t) taps i) (IsReaderOf m t (Has taps)) (λ p h. found p h.0 h.1 h.2)
    where
      found : (p : Pos) (x : ℕ) → Has taps x → IsReader m t x p → FirstOf (IsReader m t) taps i p
      found p x (k, low, short, there) r = (k, omega arith, short, subst (λ (y : ℕ). IsReader m t y p) (sym there) r)

  -- readers of what is in one of the first lists
  abbrev pub RisenBelow : Wired → List (List ℕ) → ℕ → Pos → Type 0
  RisenBelow t lists i p = (power : ℕ) × (power < i) × IsReaderOf m t (Has (list_at lists power)) p

  pub risen_start : (t : Wired) (lists : List (List ℕ)) (a b c : List Cell) (n : ℕ) (fallen : List ℕ) → HaveAttended m time xs a b (λ p. p ≡ spot m n) → HaveAttended m time xs b c (IsReaderOf m t (Has fallen)) →
      HaveAttended m time xs a c (λ p. ((p ≡ spot m n) ⊎ IsReaderOf m t (Has fallen) p) ⊎ RisenBelow t lists 0 p)
  risen_start t lists a b c n fallen f g = attended_then m time xs a b c (λ p. p ≡ spot m n) (IsReaderOf m t (Has fallen)) (λ p. ((p ≡ spot m n) ⊎ IsReaderOf m t (Has fallen) p) ⊎ RisenBelow t lists 0 p) split f g
    where
      split : (p : Pos) → ((p ≡ spot m n) ⊎ IsReaderOf m t (Has fallen) p) ⊎ RisenBelow t lists 0 p → (p ≡ spot m n) ⊎ IsReaderOf m t (Has fallen) p
      split p (inl h) = h
      split p (inr (power, low, h)) = absurd (none power low)
        where
          none : (k : ℕ) → k < 0 → ⊥
          none k l = omega arith

  pub risen_next : (t : Wired) (lists : List (List ℕ)) (i : ℕ) (a b c : List Cell) (D : Pos → Type 0) → HaveAttended m time xs a b (λ p. D p ⊎ RisenBelow t lists i p) → HaveAttended m time xs b c (IsReaderOf m t (Has (list_at lists i))) →
      HaveAttended m time xs a c (λ p. D p ⊎ RisenBelow t lists (i + 1) p)
  risen_next t lists i a b c D f g = attended_then m time xs a b c (λ p. D p ⊎ RisenBelow t lists i p) (IsReaderOf m t (Has (list_at lists i))) (λ p. D p ⊎ RisenBelow t lists (i + 1) p) split f g
    where
      split : (p : Pos) → D p ⊎ RisenBelow t lists (i + 1) p → (D p ⊎ RisenBelow t lists i p) ⊎ IsReaderOf m t (Has (list_at lists i)) p
      split p (inl d) = inl (inl d)
      split p (inr h) = elim (nat_same h.0 i) [
        | inl e ↦ inr (subst (λ (k : ℕ). IsReaderOf m t (Has (list_at lists k)) p) e h.2)
        | inr n ↦ inl (inr (h.0, omega (arith, h.1), h.2))
      ]

  pub told_all : (t : Wired) (waves : Waved) (i n : ℕ) (a b : List Cell) → length waves.levels ≤ i → HaveAttended m time xs a b (λ p. ((p ≡ spot m n) ⊎ IsReaderOf m t (Has waves.fallen) p) ⊎ RisenBelow t waves.levels i p) →
      HaveAttended m time xs a b (IsTold m t n waves)
  told_all t waves i n a b past = fewer a b (λ p. ((p ≡ spot m n) ⊎ IsReaderOf m t (Has waves.fallen) p) ⊎ RisenBelow t waves.levels i p) (IsTold m t n waves) found
    where
      low : (tap power : ℕ) → Has (list_at waves.levels power) tap → power < i
      low tap power h = elim (cases_lt power i) [
        | inl l ↦ l
        | inr high ↦ has-empty (list_at waves.levels power) tap (get_or_past waves.levels power [] (omega arith)) h
      ]

      noted : (p : Pos) (tap : ℕ) → IsNoted waves tap → IsReader m t tap p → ((p ≡ spot m n) ⊎ IsReaderOf m t (Has waves.fallen) p) ⊎ RisenBelow t waves.levels i p
      noted p tap (inl h) r = inl (inr (tap, h, r))
      noted p tap (inr (power, h)) r = inr (power, low tap power h, (tap, h, r))

      found : (p : Pos) → IsTold m t n waves p → ((p ≡ spot m n) ⊎ IsReaderOf m t (Has waves.fallen) p) ⊎ RisenBelow t waves.levels i p
      found p (inl e) = inl (inl e)
      found p (inr h) = noted p h.0 h.1 h.2

-- ---- one thing

part_attends : (time : ℕ) (role : Option Component) (first : Bool) (reads : Pos → Readings) (p : Pos) (component : Component) (cell : Cell) → role ≡ Some component → attended time component first (reads p) cell ≡ attended_at time role first reads p cell
part_attends time None first reads p component cell e = absurd (cc)
part_attends time (Some c) first reads p component cell e = let same : c ≡ component = cc in ap (λ (x : Component). attended time x first (reads p) cell) (sym same)

pub reading_there : (m : Numbered) (h : Holding) (xs : List ℕ) (p : Pos) (n : ℕ) (component : Component) (cell : Cell) → number_at m p ≡ Some n → role_at m.plan m.marks p ≡ Some component →
    cell ≡ attended h.time component (first_at m.plan p) (reads_by m xs p) (cell_of h.cells n) → cell ≡ after_reading m h.time xs p (held m h.cells nothing p)
reading_there m h xs p n component cell there role is =
    is
    ∙ part_attends h.time (role_at m.plan m.marks p) (first_at m.plan p) (reads_by m xs) p component (cell_of h.cells n) role
    ∙ ap (λ (c : Cell). after_reading m h.time xs p c) (sym (held-there m h.cells nothing p n there))

pub reading_follows : (m : Numbered) → IsNumbered m → (h : Holding) (xs : List ℕ) (p : Pos) (n : ℕ) (cell : Cell) → number_at m p ≡ Some n → cell ≡ after_reading m h.time xs p (held m h.cells nothing p) →
    CanFollow h.time (cell_of h.cells n) cell
reading_follows m w h xs p n cell there is =
    subst (λ (c : Cell). CanFollow h.time c cell) (held-there m h.cells nothing p n there)
    (subst (CanFollow h.time (held m h.cells nothing p)) (sym is)
    (attended_follows h.time (role_at m.plan m.marks p) (first_at m.plan p) (reads_by m xs) p (held m h.cells nothing p) (delays_small m w p)))

pub reading_holds : (m : Numbered) (h : Holding) (xs : List ℕ) (n : ℕ) (cell : Cell) (D : Pos → Type 0) → IsHolding m h → HaveAttended m h.time xs h.cells (set h.cells n cell) D →
    IsHolding m (record { time = h.time; cells = set h.cells n cell })
reading_holds m h xs n cell D holding a = record {
  whole = length-set h.cells n cell ∙ holding.whole;
  within = within-attended m h.time xs h.cells (set h.cells n cell) D a holding.within;
  early = holding.early;
}

-- ---- what one thing reads

pub read_is : (m : Numbered) → IsNumbered m → (t : Wired) → IsWired m t → (xs : List ℕ) → IsPlain m.plan (held m xs 0) → (n : ℕ) → n < length m.spots → wire_at m.plan (spot m n) ≡ false →
    (backs sides : List ℕ) (power back side : ℕ) → backs ≡ list_at t.back n → sides ≡ list_at t.side n → power ≡ row_level xs backs → back ≡ back_with m.plan (spot m n) (block_at m.plan (spot m n)) power → side ≡ row_level xs sides →
    record { back = back; side = side } ≡ reads_by m xs (spot m n)
read_is m w t wired xs plain n inside dry backs sides power back side from aside is strong beside =
    (λ i. record { back = whole i; side = lateral i }) ∙ sym (reads-rows m w xs plain (spot m n) dry)
  where
    back_is : backs ≡ back_row m (spot m n)
    back_is = from ∙ ap (λ (rows : List (List ℕ)). list_at rows n) wired.back ∙ get_or-map (back_row m) m.spots n origin [] inside

    side_is : sides ≡ side_row m (spot m n)
    side_is = aside ∙ ap (λ (rows : List (List ℕ)). list_at rows n) wired.side ∙ get_or-map (side_row m) m.spots n origin [] inside

    whole : back ≡ back_with m.plan (spot m n) (block_at m.plan (spot m n)) (row_level xs (back_row m (spot m n)))
    whole = strong ∙ ap (back_with m.plan (spot m n) (block_at m.plan (spot m n))) (is ∙ ap (row_level xs) back_is)

    lateral : side ≡ row_level xs (side_row m (spot m n))
    lateral = beside ∙ ap (row_level xs) side_is

-- ---- a wire reads itself

wire_reads_of : (b : Plan) (level : Pos → ℕ) (p : Pos) (k : Block) → is_wire k ≡ true → readings_of b level p k ≡ record { back = level p; side = 0 }
wire_reads_of b level p (Wire n e s w power) h = refl
wire_reads_of b level p _ h = absurd (false≢true h)

pub wire_reads : (m : Numbered) → IsNumbered m → (xs : List ℕ) (n : ℕ) → n < length m.spots → wire_at m.plan (spot m n) ≡ true → record { back = slice_index xs n; side = 0 } ≡ reads_by m xs (spot m n)
unfolding readings_at
wire_reads m w xs n inside wire =
    (λ i. record { back = sym (held-spot m w xs 0 n inside) i; side = 0 }) ∙ sym (wire_reads_of m.plan (held m xs 0) (spot m n) (block_at m.plan (spot m n)) wire)

-- ---- all things attend

abbrev pub ThingsBelow : Numbered → ℕ → Pos → Type 0
ThingsBelow m i p = (n : ℕ) × (n < i) × (p ≡ spot m n)

module _ (m : Numbered) (time : ℕ) (xs : List ℕ) where
  pub things_start : (cells : List Cell) → HaveAttended m time xs cells cells (ThingsBelow m 0)
  things_start cells = attended_empty m time xs cells (ThingsBelow m 0) (λ p h. none h.0 h.1)
    where
      none : (k : ℕ) → k < 0 → ⊥
      none k h = omega arith

  pub things_next : (i : ℕ) (a b c : List Cell) → HaveAttended m time xs a b (ThingsBelow m i) → HaveAttended m time xs b c (λ p. p ≡ spot m i) → HaveAttended m time xs a c (ThingsBelow m (i + 1))
  things_next i a b c f g = attended_then m time xs a b c (ThingsBelow m i) (λ p. p ≡ spot m i) (ThingsBelow m (i + 1)) split f g
    where
      split : (p : Pos) → ThingsBelow m (i + 1) p → ThingsBelow m i p ⊎ (p ≡ spot m i)
      split p h = elim (nat_same h.0 i) [
        | inl e ↦ inr (h.2 ∙ ap (spot m) e)
        | inr n ↦ inl (h.0, omega (arith, h.1), h.2)
      ]

  pub thing_or_none : IsNumbered m → (i : ℕ) → length m.spots ≤ i → (cells : List Cell) (p : Pos) → ThingsBelow m i p ⊎ (after_reading m time xs p (held m cells nothing p) ≡ held m cells nothing p)
  thing_or_none w i past cells p = elim (number_cases m p) [
    | inl none ↦ inr (still_none m w time (reads_by m xs) p (held m cells nothing p) none)
    | inr n ↦ (let s = spot-there m w p n.0 n.1 in inl (n.0, omega (arith, s.0), sym s.1))
  ]

-- ---- what a wire shows

wire_role : (marked : Bool) (k : Block) → role_of marked k ≡ Some WirePart → is_wire k ≡ true
wire_role marked (Wire n e s w power) h = refl
wire_role marked (Lever face facing powered) h = absurd (cc)
wire_role marked (Button name face facing powered) h = absurd (cc)
wire_role marked (Plate name powered) h = absurd (cc)
wire_role marked (Weighted name power) h = absurd (cc)
wire_role marked (Torch lit) h = absurd (cc)
wire_role marked (WallTorch facing lit) h = absurd (cc)
wire_role marked (Repeater delay facing powered) h = absurd (cc)
wire_role marked (Comparator facing subtract) h = absurd (cc)
wire_role marked (Lamp lit) h = absurd (cc)
wire_role marked (Trapdoor facing top powered) h = absurd (cc)
wire_role marked (Note powered) h = absurd (cc)
wire_role marked _ h = absurd (cc)

pub wire_back : (m : Numbered) (xs : List ℕ) (p : Pos) → role_at m.plan m.marks p ≡ Some WirePart → held m xs 0 p ≡ (reads_by m xs p).back
unfolding readings_at role_at
wire_back m xs p h = sym (ap (λ (r : Readings). r.back) (wire_reads_of m.plan (held m xs 0) p (block_at m.plan p) (wire_role (is_marked m.marks p) (block_at m.plan p) h)))
