-- One thing holds another cell, and what may read something else attends: so have all.
use Rattle.std.specs.Prelude.{◌==◌, ◌&&◌}
use Rattle.std.proofs.Common.{◌≡◌, ◌≢◌, ℕ, zero, suc, ◌+◌, ◌<◌, ◌≤◌, ◌*◌, Bool, true, false, cond, List, length, set, slice_index, Option, Some, None, refl, sym, ◌∙◌, ap, subst, inl, inr, ◌⊎◌, arith}
use Rattle.std.proofs.Math.Path.{fun_ext}
use Rattle.std.proofs.lemmas.Bool.{cases_Bool, false≢true}
use Rattle.std.proofs.lemmas.List.{length-set, length-map}
use Rattle.block_table.specs.declared.Block.{Block}
use Rattle.block_table.specs.declared.Block.TheVariants.{Wire, Torch, WallTorch, Repeater, Comparator, Lever, Button, Plate, RedstoneBlock, Weighted}
use Rattle.circuit.specs.declared.Pos.{Pos}
use Rattle.circuit.specs.declared.Component.{Component}
use Rattle.circuit.specs.declared.Component.TheVariants.{Wire as WirePart}
use Rattle.circuit.specs.declared.Readings.{Readings}
use Rattle.circuit.specs.declared.Cell.{Cell}
use Rattle.circuit.specs.Bounds.{BoundedAt}
use Rattle.circuit.specs.Component.{top, attended}
use Rattle.circuit.specs.Circuit.{State, out_at, put, attend, attended_at}
use Rattle.build.specs.Place.{same_place}
use Rattle.build.specs.SamePlace.{place_itself, place_one}
use Rattle.build.specs.Plan.{Plan, block_at}
use Rattle.build.specs.Marks.{is_marked}
use Rattle.build.specs.Roles.{role_of, role_at, first_at, base_of, base_at}
use Rattle.wire_net.specs.Noted.{Waved, IsNoted}
use Rattle.wire_net.specs.Net.{IsRight, power_under}
use Rattle.wire_shape.specs.Shape.{is_wire, wire_at}
use Rattle.power_rules.specs.Power.{full}
use Rattle.power_rules.specs.Readings.{readings_at}
use Rattle.power_rules.specs.RightWires.{levels, wire_powers}
use Rattle.cell_queue.specs.Held.{Holding}
use Rattle.wiring.specs.Reads.{given_of, is_source, IsPlain}
use Rattle.wiring.specs.Things.{Numbered, IsNumbered, is_thing, number_at, held, nothing, state_by, spot}
use Rattle.wiring.specs.Numbers.{number_cases, number_thing, spot_number, spot-there}
use Rattle.wiring.specs.Wired.{Wired, IsWired, IsGiven, level_cell, level_cells, bases_of}
use Rattle.wiring.proofs.LevelLaws.{levels_world, levels_plain}
use Rattle.wiring.proofs.Reached.{reads_or}
use Rattle.world_engine.specs.Running.{circuit_of, state_of, given_by, AreWithin, AreIdle, IsHolding, after_attending}
use Rattle.world_engine.specs.Given.{given-le}
use Rattle.world_engine.specs.Levels.{reads_by, AreLevels, after_reading, HaveAttended, AreQuiet, OthersQuiet, IsTold, IsPlaying}
use Rattle.world_engine.proofs.Held.{held-set, role_none, one-put}
use Rattle.world_engine.proofs.Attending.{out_at-after, attended_at-again, attended_at-reads, still_none, after-le}
use Rattle.world_engine.proofs.Within.{within_put}
use Rattle.world_engine.proofs.Playing.{idle_after}

-- ---- what is given

full-one : (value : ℕ) → value ≤ 1 → full (15 * value) ≡ 15 * value
full-one zero h = refl
full-one (suc zero) h = refl
full-one (suc (suc value)) h = absurd (omega arith)

plain_of : (marked : Bool) (k : Block) (cell : Cell) → is_source k ≡ true → ((component : Component) → role_of marked k ≡ Some component → cell.value ≤ top component) →
    given_of k (out_at (role_of marked k) (base_of k) cell) ≡ out_at (role_of marked k) (base_of k) cell
plain_of marked (Torch lit) cell s h = full-one cell.value (h _ refl)
plain_of marked (WallTorch facing lit) cell s h = full-one cell.value (h _ refl)
plain_of marked RedstoneBlock cell s h = refl
plain_of marked (Lever face facing powered) cell s h = full-one cell.value (h _ refl)
plain_of marked (Button name face facing powered) cell s h = full-one cell.value (h _ refl)
plain_of marked (Plate name powered) cell s h = full-one cell.value (h _ refl)
plain_of marked (Weighted name power) cell s h = refl
plain_of marked (Repeater delay facing powered) cell s h = full-one cell.value (h _ refl)
plain_of marked (Comparator facing subtract) cell s h = refl
plain_of marked _ cell s h = absurd (false≢true s)

pub given_plain : (m : Numbered) (cells : List Cell) → AreWithin m cells → IsPlain m.plan (given_by m cells)
unfolding role_at base_at
given_plain m cells within = record { each = λ p s. plain_of (is_marked m.marks p) (block_at m.plan p) (held m cells nothing p) s (within p) }

base-thing : (k : Block) → is_thing k ≡ false → base_of k ≡ 0
base-thing RedstoneBlock h = absurd (false≢true (sym h))
base-thing _ h = refl

base_there : (b : Plan) (p : Pos) → is_thing (block_at b p) ≡ false → base_at b p ≡ 0
unfolding base_at
base_there b p h = base-thing (block_at b p) h

out-none : (role : Option Component) (base : ℕ) (cell : Cell) → role ≡ None → base ≡ 0 → out_at role base cell ≡ 0
out-none None base cell e h = h
out-none (Some component) base cell e h = absurd (cc)

pub given_is : (m : Numbered) → IsNumbered m → (cells : List Cell) → AreWithin m cells → IsGiven m (given_by m cells)
given_is m w cells within = record { small = given-le m cells within; none = nothing_there }
  where
    base_none : (p : Pos) → number_at m p ≡ None → is_thing (block_at m.plan p) ≡ false
    base_none p none = elim (cases_Bool (is_thing (block_at m.plan p))) [
      | inl t ↦ (let n = number_thing m w p t in let clash : None ≡ Some n.0 = sym none ∙ n.1 in absurd (cc))
      | inr e ↦ e
    ]

    nothing_there : (p : Pos) → number_at m p ≡ None → given_by m cells p ≡ 0
    nothing_there p none = out-none (role_at m.plan m.marks p) (base_at m.plan p) (held m cells nothing p) (role_none m w p none) (base_there m.plan p (base_none p none))

-- what is read by right levels is what the world reads
pub reads-world : (m : Numbered) → IsNumbered m → (cells : List Cell) (xs : List ℕ) → AreWithin m cells → AreLevels m cells xs →
    reads_by m xs ≡ readings_at m.plan (levels m.plan (given_by m cells) (wire_powers m.plan (given_by m cells)))
reads-world m w cells xs within right = ap (λ (l : Pos → ℕ). readings_at m.plan l) (levels_world m w (given_by m cells) (given_is m w cells within) xs right)

pub levels_are_plain : (m : Numbered) → IsNumbered m → (cells : List Cell) (xs : List ℕ) → AreWithin m cells → AreLevels m cells xs → IsPlain m.plan (held m xs 0)
levels_are_plain m w cells xs within right = levels_plain m w (given_by m cells) (given_is m w cells within) xs right (given_plain m cells within)

pub levels_whole : (m : Numbered) (cells : List Cell) (xs : List ℕ) → AreLevels m cells xs → length xs ≡ length m.spots
levels_whole m cells xs right =
    ap (λ (ys : List ℕ). length ys) right ∙ length-map (level_cells m (given_by m cells)) (power_under xs) ∙ length-map m.spots (level_cell m (given_by m cells))

-- ---- attending one after another

module _ (m : Numbered) (time : ℕ) (xs : List ℕ) where
  abbrev after : Pos → Cell → Cell
  after p cell = after_reading m time xs p cell

  pub given-attended : (old new : List Cell) (D : Pos → Type 0) → HaveAttended m time xs old new D → given_by m new ≡ given_by m old
  given-attended old new D a = fun_ext (λ p. one p (a.each p))
    where
      one : (p : Pos) → (held m new nothing p ≡ held m old nothing p) ⊎ (held m new nothing p ≡ after p (held m old nothing p)) → given_by m new p ≡ given_by m old p
      one p (inl e) = ap (λ (c : Cell). out_at (role_at m.plan m.marks p) (base_at m.plan p) c) e
      one p (inr e) = ap (λ (c : Cell). out_at (role_at m.plan m.marks p) (base_at m.plan p) c) e
          ∙ out_at-after time (role_at m.plan m.marks p) (first_at m.plan p) (base_at m.plan p) (reads_by m xs) p (held m old nothing p)

  twice : (p : Pos) (cell : Cell) → after p (after p cell) ≡ after p cell
  twice p cell = attended_at-again time time (role_at m.plan m.marks p) (first_at m.plan p) (reads_by m xs) p cell

  -- some attend, and then some more: so do all of either
  pub attended_then : (a b c : List Cell) (D E F : Pos → Type 0) → ((p : Pos) → F p → D p ⊎ E p) → HaveAttended m time xs a b D → HaveAttended m time xs b c E → HaveAttended m time xs a c F
  attended_then a b c D E F either f g = record { each = λ p. both p (f.each p) (g.each p); done = λ p h. last p (either p h) }
    where
      from_first : (p : Pos) → (held m b nothing p ≡ held m a nothing p) ⊎ (held m b nothing p ≡ after p (held m a nothing p)) → held m c nothing p ≡ after p (held m b nothing p) → held m c nothing p ≡ after p (held m a nothing p)
      from_first p (inl e) h = h ∙ ap (after p) e
      from_first p (inr e) h = h ∙ ap (after p) e ∙ twice p (held m a nothing p)

      both : (p : Pos) → (held m b nothing p ≡ held m a nothing p) ⊎ (held m b nothing p ≡ after p (held m a nothing p)) → (held m c nothing p ≡ held m b nothing p) ⊎ (held m c nothing p ≡ after p (held m b nothing p)) →
          (held m c nothing p ≡ held m a nothing p) ⊎ (held m c nothing p ≡ after p (held m a nothing p))
      both p (inl e) (inl h) = inl (h ∙ e)
      both p (inr e) (inl h) = inr (h ∙ e)
      both p e (inr h) = inr (from_first p e h)

      kept : (p : Pos) → D p → (held m c nothing p ≡ held m b nothing p) ⊎ (held m c nothing p ≡ after p (held m b nothing p)) → held m c nothing p ≡ after p (held m a nothing p)
      kept p d (inl h) = h ∙ f.done p d
      kept p d (inr h) = from_first p (inr (f.done p d)) h

      last : (p : Pos) → D p ⊎ E p → held m c nothing p ≡ after p (held m a nothing p)
      last p (inl d) = kept p d (g.each p)
      last p (inr e) = from_first p (f.each p) (g.done p e)

  pub attended_empty : (cells : List Cell) (D : Pos → Type 0) → ((p : Pos) → D p → ⊥) → HaveAttended m time xs cells cells D
  attended_empty cells D none = record { each = λ p. inl refl; done = λ p h. absurd (none p h) }

  pub attended_idle : (cells : List Cell) (p : Pos) → ((cell : Cell) → after p cell ≡ cell) → HaveAttended m time xs cells cells (λ q. q ≡ p)
  attended_idle cells p idle = record { each = λ q. inl refl; done = λ q h. rw h (sym (idle (held m cells nothing p))) }

  pub attended_set : IsNumbered m → (cells : List Cell) (p : Pos) (n : ℕ) (cell : Cell) → length cells ≡ length m.spots → number_at m p ≡ Some n → cell ≡ after p (held m cells nothing p) →
      HaveAttended m time xs cells (set cells n cell) (λ q. q ≡ p)
  attended_set w cells p n cell l e is = record { each = λ q. one q (same_place q p) refl; done = λ q h. here q h }
    where
      here : (q : Pos) → q ≡ p → held m (set cells n cell) nothing q ≡ after q (held m cells nothing q)
      here q h = rw h (held-set m w cells nothing cell p p n l e ∙ ap (λ (t : Bool). cond t cell (held m cells nothing p)) (place_itself p) ∙ is)

      one : (q : Pos) (t : Bool) → same_place q p ≡ t → (held m (set cells n cell) nothing q ≡ held m cells nothing q) ⊎ (held m (set cells n cell) nothing q ≡ after q (held m cells nothing q))
      one q true s = inr (here q (place_one q p s))
      one q false s = inl (held-set m w cells nothing cell p q n l e ∙ ap (λ (t : Bool). cond t cell (held m cells nothing q)) s)

  -- where each place has attended or needn't, all have
  pub each-attended : (old new : List Cell) (D : Pos → Type 0) → HaveAttended m time xs old new D → ((p : Pos) → D p ⊎ (after p (held m old nothing p) ≡ held m old nothing p)) → (p : Pos) →
      held m new nothing p ≡ after p (held m old nothing p)
  each-attended old new D a rest p = mine (rest p)
    where
      still : (held m new nothing p ≡ held m old nothing p) ⊎ (held m new nothing p ≡ after p (held m old nothing p)) → after p (held m old nothing p) ≡ held m old nothing p → held m new nothing p ≡ after p (held m old nothing p)
      still (inl e) quiet = e ∙ sym quiet
      still (inr e) quiet = e

      mine : D p ⊎ (after p (held m old nothing p) ≡ held m old nothing p) → held m new nothing p ≡ after p (held m old nothing p)
      mine (inl d) = a.done p d
      mine (inr quiet) = still (a.each p) quiet

  pub all-attended : IsNumbered m → (old new : List Cell) (D : Pos → Type 0) → AreWithin m old → AreLevels m old xs → HaveAttended m time xs old new D →
      ((p : Pos) → D p ⊎ (after p (held m old nothing p) ≡ held m old nothing p)) → state_by m time new ≡ attend (circuit_of m) (state_by m time old)
  all-attended w old new D within right a rest = λ i. record { time = time; cells = λ p. cell p i }
    where
      cell : (p : Pos) → held m new nothing p ≡ after_attending m time (readings_at m.plan (levels m.plan (given_by m old) (wire_powers m.plan (given_by m old)))) p (held m old nothing p)
      cell p = each-attended old new D a rest p ∙ ap (λ (r : Pos → Readings). after_attending m time r p (held m old nothing p)) (reads-world m w old xs within right)

  pub quiet-attended : (old new : List Cell) (D : Pos → Type 0) → HaveAttended m time xs old new D → ((p : Pos) → D p ⊎ (after p (held m old nothing p) ≡ held m old nothing p)) → AreQuiet m new xs
  quiet-attended old new D a rest = record { each = λ p later. here p later }
    where
      here : (p : Pos) (later : ℕ) → after_reading m later xs p (held m new nothing p) ≡ held m new nothing p
      here p later =
          let all : held m new nothing p ≡ after p (held m old nothing p) = each-attended old new D a rest p in
          ap (λ (c : Cell). after_reading m later xs p c) all
          ∙ attended_at-again later time (role_at m.plan m.marks p) (first_at m.plan p) (reads_by m xs) p (held m old nothing p)
          ∙ sym all

  pub levels-attended : (old new : List Cell) (D : Pos → Type 0) → HaveAttended m time xs old new D → AreLevels m old xs → AreLevels m new xs
  levels-attended old new D a right = subst (λ (g : Pos → ℕ). IsRight (level_cells m g) xs) (sym (given-attended old new D a)) right

  pub bases-attended : (old new : List Cell) (D : Pos → Type 0) (bases : List ℕ) → HaveAttended m time xs old new D → bases ≡ bases_of m (given_by m old) → bases ≡ bases_of m (given_by m new)
  bases-attended old new D bases a e = e ∙ ap (bases_of m) (sym (given-attended old new D a))

  pub within-attended : (old new : List Cell) (D : Pos → Type 0) → HaveAttended m time xs old new D → AreWithin m old → AreWithin m new
  within-attended old new D a w p component there = one (a.each p)
    where
      one : (held m new nothing p ≡ held m old nothing p) ⊎ (held m new nothing p ≡ after p (held m old nothing p)) → (held m new nothing p).value ≤ top component
      one (inl e) = rw e (w p component there)
      one (inr e) = rw e (after-le time (role_at m.plan m.marks p) (first_at m.plan p) (reads_by m xs) p (held m old nothing p) (w p) component there)

-- ---- who has to attend

wire_part : (time : ℕ) (first : Bool) (r : Readings) (cell : Cell) → attended time WirePart first r cell ≡ cell
wire_part time first r cell = by_due (cell.due == 0)
  where
    by_due : (due : Bool) → record {
      value = cell.value;
      due = cond (due && (true && false)) (time + 1) cell.due;
      priority = cond (due && (true && false)) 3 cell.priority;
    } ≡ cell
    by_due true = refl
    by_due false = refl

wire_idle_of : (marked : Bool) (k : Block) (time : ℕ) (first : Bool) (reads : Pos → Readings) (p : Pos) (cell : Cell) → is_wire k ≡ true → attended_at time (role_of marked k) first reads p cell ≡ cell
wire_idle_of true (Wire n e s w power) time first reads p cell h = wire_part time first (reads p) cell
wire_idle_of false (Wire n e s w power) time first reads p cell h = refl
wire_idle_of marked _ time first reads p cell h = absurd (false≢true h)

-- a wire never has to
pub wire_idle : (m : Numbered) (time : ℕ) (reads : Pos → Readings) (p : Pos) (cell : Cell) → wire_at m.plan p ≡ true → after_attending m time reads p cell ≡ cell
unfolding role_at
wire_idle m time reads p cell h = wire_idle_of (is_marked m.marks p) (block_at m.plan p) time (first_at m.plan p) reads p cell h

module _ (m : Numbered) (w : IsNumbered m) (t : Wired) (wired : IsWired m t) (old : List Cell) (n : ℕ) (cell : Cell) (long : length old ≡ length m.spots) (inside : n < length m.spots) where
  held_other : (q : Pos) → same_place q (spot m n) ≡ false → held m (set old n cell) nothing q ≡ held m old nothing q
  held_other q e = held-set m w old nothing cell (spot m n) q n long (spot_number m w n inside) ∙ ap (λ (s : Bool). cond s cell (held m old nothing q)) e

  pub given_other : (q : Pos) → same_place q (spot m n) ≡ false → given_by m old q ≡ given_by m (set old n cell) q
  given_other q e = sym (ap (λ (c : Cell). out_at (role_at m.plan m.marks q) (base_at m.plan q) c) (held_other q e))

  -- each place is told, or attending changes nothing there
  pub told_or_quiet : (xs ys : List ℕ) (waves : Waved) → ((k : ℕ) → (slice_index ys k ≡ slice_index xs k) ⊎ IsNoted waves k) → OthersQuiet m old xs (spot m n) → (time : ℕ) (p : Pos) →
      IsTold m t n waves p ⊎ (after_reading m time ys p (held m (set old n cell) nothing p) ≡ held m (set old n cell) nothing p)
  told_or_quiet xs ys waves noted quiet time p = elim (cases_Bool (same_place p (spot m n))) [
    | inl s ↦ inl (inl (place_one p (spot m n) s))
    | inr apart ↦ elim (number_cases m p) [
      | inl none ↦ inr (still_none m w time (reads_by m ys) p (held m (set old n cell) nothing p) none)
      | inr k ↦ elim (cases_Bool (wire_at m.plan p)) [
        | inl wire ↦ inr (wire_idle m time (reads_by m ys) p (held m (set old n cell) nothing p) wire)
        | inr dry ↦ elim (reads_or m w t wired xs ys (IsNoted waves) noted p k.0 k.1 dry) [
          | inl same ↦ inr (stays apart same)
          | inr told ↦ inl (inr (told.0, told.1, (k.0, told.2, sym (spot-there m w p k.0 k.1).1)))
        ]
      ]
    ]
  ]
    where
      stays : same_place p (spot m n) ≡ false → reads_by m ys p ≡ reads_by m xs p → after_reading m time ys p (held m (set old n cell) nothing p) ≡ held m (set old n cell) nothing p
      stays apart same =
          let other : p ≢ spot m n = λ e. false≢true (sym apart ∙ ap (λ (q : Pos). same_place q (spot m n)) e ∙ place_itself (spot m n)) in
          attended_at-reads time (role_at m.plan m.marks p) (first_at m.plan p) (reads_by m ys) (reads_by m xs) p (held m (set old n cell) nothing p) same
          ∙ ap (λ (c : Cell). after_reading m time xs p c) (held_other p apart)
          ∙ quiet.each p other time
          ∙ sym (held_other p apart)

-- ---- the whole event

module _ (m : Numbered) (w : IsNumbered m) (t : Wired) (old : Holding) (bases xs : List ℕ) (feeders : List (List ℕ)) (n : ℕ) (cell : Cell) (playing : IsPlaying m t old bases xs feeders) (inside : n < length m.spots)
    (bounded : BoundedAt (role_at m.plan m.marks (spot m n)) cell) where
  abbrev pub putting : Holding
  putting = record { time = old.time; cells = set old.cells n cell }

  stored : state_of m putting ≡ put (circuit_of m) (state_of m old) (spot m n) cell
  stored = one-put m w old.time old.cells (spot m n) n cell playing.holding.whole (spot_number m w n inside)

  pub putting_holds : IsHolding m putting
  putting_holds = record {
    whole = length-set old.cells n cell ∙ playing.holding.whole;
    within = within_put m old.time old.cells (set old.cells n cell) (spot m n) cell playing.holding.within bounded stored;
    early = playing.holding.early;
  }

  module _ (ys : List ℕ) (waves : Waved) (new : List Cell) (quiet : OthersQuiet m old.cells xs (spot m n)) (right : AreLevels m (set old.cells n cell) ys)
      (noted : (k : ℕ) → (slice_index ys k ≡ slice_index xs k) ⊎ IsNoted waves k) (all : HaveAttended m old.time ys (set old.cells n cell) new (IsTold m t n waves)) where
    rest : (p : Pos) → IsTold m t n waves p ⊎ (after_reading m old.time ys p (held m (set old.cells n cell) nothing p) ≡ held m (set old.cells n cell) nothing p)
    rest = told_or_quiet m w t playing.wired old.cells n cell playing.holding.whole inside xs ys waves noted quiet old.time

    pub settled_state : state_by m old.time new ≡ attend (circuit_of m) (put (circuit_of m) (state_of m old) (spot m n) cell)
    settled_state = all-attended m old.time ys w (set old.cells n cell) new (IsTold m t n waves) putting_holds.within right all rest ∙ ap (λ (s : State Pos). attend (circuit_of m) s) stored

    pub settled_levels : AreLevels m new ys
    settled_levels = levels-attended m old.time ys (set old.cells n cell) new (IsTold m t n waves) all right

    pub settled_quiet : AreQuiet m new ys
    settled_quiet = quiet-attended m old.time ys (set old.cells n cell) new (IsTold m t n waves) all rest

    pub settled_idle : (role_at m.plan m.marks (spot m n) ≡ None → cell.due ≡ 0) → AreIdle m new
    settled_idle idle = idle_after m old (record { time = old.time; cells = new }) (spot m n) cell playing.idle idle settled_state
