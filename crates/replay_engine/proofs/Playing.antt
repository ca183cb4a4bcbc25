-- Where a world plays: what one event leaves.
use Rattle.std.proofs.Common.{◌≡◌, ◌≢◌, ℕ, ◌<◌, ◌≤◌, Bool, true, false, cond, List, length, set, Option, Some, None, refl, sym, ◌∙◌, ap, subst, inl, inr, arith}
use Rattle.std.proofs.Math.Path.{fun_ext}
use Rattle.std.proofs.Math.ListN.{get_or-eq_default}
use Rattle.std.proofs.lemmas.Bool.{cases_Bool, cases_lt}
use Rattle.std.proofs.lemmas.List.{length-set, get_or-set_same}
use Rattle.circuit.specs.declared.Pos.{Pos}
use Rattle.circuit.specs.declared.Component.{Component}
use Rattle.circuit.specs.declared.Readings.{Readings}
use Rattle.circuit.specs.declared.Cell.{Cell}
use Rattle.circuit.specs.Component.{out}
use Rattle.circuit.specs.Circuit.{Circuit, State, IsDue, outs, out_at, put, attend, attended_at, fired_at, fired_in, with_value}
use Rattle.build.specs.Place.{same_place}
use Rattle.build.specs.SamePlace.{place_itself, place_one}
use Rattle.build.specs.Roles.{role_at, first_at, base_at}
use Rattle.wire_net.specs.Net.{IsRight}
use Rattle.power_rules.specs.Readings.{readings_at}
use Rattle.power_rules.specs.RightWires.{level_with}
use Rattle.cell_counts.specs.Held.{Holding, CanFollow, IsNow, NoneNow, IsFirst, cell_of, rested}
use Rattle.replay_engine.specs.Things.{Numbered, IsNumbered, held, nothing}
use Rattle.replay_engine.specs.Numbers.{held-there}
use Rattle.replay_engine.specs.WireThings.{thing_cells}
use Rattle.replay_engine.specs.Running.{circuit_of, state_of, given_by, reads_of, after_attending, spot, AreIdle, AreStill, OthersStill, IsPlaying, FiresOne}
use Rattle.replay_engine.proofs.Held.{held-set, held-spot, number_role, spot_number}
use Rattle.replay_engine.proofs.Follow.{delays_small, fired_follows, fired_rested, attended_now}

-- ---- no tick where no component stands

idle_attended : (time : ℕ) (role : Option Component) (first : Bool) (reads : Pos → Readings) (p : Pos) (cell : Cell) → role ≡ None → (attended_at time role first reads p cell).due ≡ cell.due
idle_attended time None first reads p cell none = refl
idle_attended time (Some c) first reads p cell none = absurd (cc)

-- all attended after a cell was put that has no tick where no component stands
pub idle_after : (m : Numbered) (old new : Holding) (there : Pos) (cell : Cell) → AreIdle m old.cells → (role_at m.plan m.marks there ≡ None → cell.due ≡ 0) →
    state_of m new ≡ attend (circuit_of m) (put (circuit_of m) (state_of m old) there cell) → AreIdle m new.cells
idle_after m old new there cell idle quiet after p none =
    ap (λ (s : State Pos). (s.cells p).due) after
    ∙ idle_attended old.time (role_at m.plan m.marks p) (first_at m.plan p) ((circuit_of m).readings (outs (circuit_of m) mid)) p (mid.cells p) none
    ∙ before
  where
    mid : State Pos
    mid = put (circuit_of m) (state_of m old) there cell

    before : (mid.cells p).due ≡ 0
    before = elim (cases_Bool (same_place p there)) [
      | inl s ↦ rw s (quiet (ap (role_at m.plan m.marks) (sym (place_one p there s)) ∙ none))
      | inr s ↦ rw s (idle p none)
    ]

-- ---- a click makes nothing due

-- at the time 0 nothing is due
pub none_at_start : (h : Holding) → h.time ≡ 0 → NoneNow h
none_at_start h zero_time key now = now.waits (now.now ∙ zero_time)

past_end : (cells : List Cell) (key : ℕ) → length cells ≤ key → (cell_of cells key).due ≡ 0
past_end cells key h = ap (λ (c : Cell). c.due) (get_or-eq_default cells nothing {n = key} h)

pub none_after_click : (m : Numbered) → IsNumbered m → (old new : Holding) (n value : ℕ) → length new.cells ≡ length m.spots → n < length m.spots → NoneNow old →
    state_of m new ≡ attend (circuit_of m) (put (circuit_of m) (state_of m old) (spot m n) (with_value (held m old.cells nothing (spot m n)) value)) → NoneNow new
none_after_click m w old new n value long inside none after key now = elim (cases_lt key (length m.spots)) [
  | inl below ↦ none key (kept below)
  | inr past ↦ now.waits (past_end new.cells key (omega (arith, long, past)))
]
  where
    p : Pos
    p = spot m key

    mid : State Pos
    mid = put (circuit_of m) (state_of m old) (spot m n) (with_value (held m old.cells nothing (spot m n)) value)

    there : key < length m.spots → IsNow old.time ((attend (circuit_of m) mid).cells p)
    there below =
        let is : (attend (circuit_of m) mid).cells p ≡ cell_of new.cells key = sym (ap (λ (s : State Pos). s.cells p) after) ∙ held-spot m w new.cells nothing key below in
        record { waits = λ e. now.waits (ap (λ (c : Cell). c.due) (sym is) ∙ e); now = ap (λ (c : Cell). c.due) is ∙ now.now ∙ ap (λ (s : State Pos). s.time) after }

    was : key < length m.spots → IsNow old.time (mid.cells p)
    was below = attended_now old.time (role_at m.plan m.marks p) (first_at m.plan p) ((circuit_of m).readings (outs (circuit_of m) mid)) p (mid.cells p) (there below)

    held_then : (same : Bool) → same_place p (spot m n) ≡ same → IsNow old.time (mid.cells p) → IsNow old.time (held m old.cells nothing p)
    held_then true s now2 =
        let is : mid.cells p ≡ with_value (held m old.cells nothing (spot m n)) value = rw s refl in
        let at : held m old.cells nothing p ≡ held m old.cells nothing (spot m n) = ap (held m old.cells nothing) (place_one p (spot m n) s) in
        let here : (held m old.cells nothing p).due ≡ (mid.cells p).due = ap (λ (c : Cell). c.due) at ∙ sym (ap (λ (c : Cell). c.due) is) in
        record { waits = λ e. now2.waits (sym here ∙ e); now = here ∙ now2.now }
    held_then false s now2 =
        let is : mid.cells p ≡ held m old.cells nothing p = rw s refl in
        subst (IsNow old.time) is now2

    kept : key < length m.spots → IsNow old.time (cell_of old.cells key)
    kept below = subst (IsNow old.time) (held-spot m w old.cells nothing key below) (held_then (same_place p (spot m n)) refl (was below))

-- ---- what is due fires: first without its pending tick, then with what it fired to

out_by_value : (role : Option Component) (base : ℕ) (one two : Cell) → one.value ≡ two.value → out_at role base one ≡ out_at role base two
out_by_value None base one two same = refl
out_by_value (Some c) base one two same = ap (out c) same

module _ (m : Numbered) (w : IsNumbered m) (h : Holding) (powers : List ℕ) (feeders : List (List ℕ)) (n : ℕ) (playing : IsPlaying m h powers feeders) (first : IsFirst h n) where
  abbrev C : Circuit Pos
  C = circuit_of m

  abbrev pub resting : Holding
  resting = record { time = h.time; cells = set h.cells n (rested (cell_of h.cells n)) }

  pub inside : n < length m.spots
  inside = omega (arith, first.inside, playing.holding.whole)

  mine : held m h.cells nothing (spot m n) ≡ cell_of h.cells n
  mine = held-spot m w h.cells nothing n inside

  now_held : (q : Pos) → held m resting.cells nothing q ≡ cond (same_place q (spot m n)) (rested (cell_of h.cells n)) (held m h.cells nothing q)
  now_held q = held-set m w h.cells nothing (rested (cell_of h.cells n)) (spot m n) q n playing.holding.whole (spot_number m w n inside)

  other_held : (q : Pos) → same_place q (spot m n) ≡ false → held m resting.cells nothing q ≡ held m h.cells nothing q
  other_held q s = now_held q ∙ ap (λ (t : Bool). cond t (rested (cell_of h.cells n)) (held m h.cells nothing q)) s

  here_held : (q : Pos) → same_place q (spot m n) ≡ true → held m resting.cells nothing q ≡ rested (held m h.cells nothing q)
  here_held q s = now_held q ∙ ap (λ (t : Bool). cond t (rested (cell_of h.cells n)) (held m h.cells nothing q)) s
      ∙ ap rested (sym mine ∙ ap (held m h.cells nothing) (sym (place_one q (spot m n) s)))

  same_value : (q : Pos) → (held m resting.cells nothing q).value ≡ (held m h.cells nothing q).value
  same_value q = elim (cases_Bool (same_place q (spot m n))) [
    | inl s ↦ ap (λ (c : Cell). c.value) (here_held q s)
    | inr s ↦ ap (λ (c : Cell). c.value) (other_held q s)
  ]

  same_given : given_by m resting.cells ≡ given_by m h.cells
  same_given = fun_ext (λ q. out_by_value (role_at m.plan m.marks q) (base_at m.plan q) (held m resting.cells nothing q) (held m h.cells nothing q) (same_value q))

  pub resting_playing : IsPlaying m resting powers feeders
  resting_playing = record {
    holding = record {
      whole = length-set h.cells n (rested (cell_of h.cells n)) ∙ playing.holding.whole;
      within = λ q component there. rw (same_value q) (playing.holding.within q component there);
      early = playing.holding.early;
    };
    powers_whole = playing.powers_whole;
    solved = subst (λ (g : Pos → ℕ). IsRight (thing_cells m g) powers) (sym same_given) playing.solved;
    made = playing.made;
    idle = λ q none. elim (cases_Bool (same_place q (spot m n))) [
      | inl s ↦ ap (λ (c : Cell). c.due) (here_held q s)
      | inr s ↦ ap (λ (c : Cell). c.due) (other_held q s) ∙ playing.idle q none
    ];
  }

  pub resting_still : AreStill m h.cells powers → OthersStill m resting.cells powers (spot m n)
  resting_still still = record { each = λ q apart time. here q apart time }
    where
      here : (q : Pos) → q ≢ spot m n → (time : ℕ) → after_attending m time (reads_of m resting.cells powers) q (held m resting.cells nothing q) ≡ held m resting.cells nothing q
      here q apart time =
          let s : same_place q (spot m n) ≡ false = elim (cases_Bool (same_place q (spot m n))) [ inl t ↦ absurd (apart (place_one q (spot m n) t)) | inr t ↦ t ] in
          let same : reads_of m resting.cells powers ≡ reads_of m h.cells powers = ap (λ (g : Pos → ℕ). readings_at m.plan (level_with m.plan g (held m powers 0))) same_given in
          ap (λ (r : Pos → Readings). after_attending m time r q (held m resting.cells nothing q)) same
          ∙ ap (after_attending m time (reads_of m h.cells powers) q) (other_held q s)
          ∙ still.each q time ∙ sym (other_held q s)

  put_resting : (cell : Cell) → put C (state_of m resting) (spot m n) cell ≡ put C (state_of m h) (spot m n) cell
  put_resting cell = λ i. record { time = h.time; cells = λ q. each q i }
    where
      by_test : (q : Pos) (t : Bool) → same_place q (spot m n) ≡ t → cond t cell (held m resting.cells nothing q) ≡ cond t cell (held m h.cells nothing q)
      by_test q true s = refl
      by_test q false s = other_held q s

      each : (q : Pos) → cond (same_place q (spot m n)) cell (held m resting.cells nothing q) ≡ cond (same_place q (spot m n)) cell (held m h.cells nothing q)
      each q = by_test q (same_place q (spot m n)) refl

  -- a component stands there, since a tick is pending
  pub component : (c : Component) × (role_at m.plan m.marks (spot m n) ≡ Some c)
  component = by_role (role_at m.plan m.marks (spot m n)) refl
    where
      by_role : (role : Option Component) → role_at m.plan m.marks (spot m n) ≡ role → (c : Component) × (role_at m.plan m.marks (spot m n) ≡ Some c)
      by_role None e = absurd (first.due.waits (ap (λ (c : Cell). c.due) (sym mine) ∙ playing.idle (spot m n) e))
      by_role (Some c) e = (c, e)

  module _ (cell : Cell) (fired : cell ≡ fired_in C (state_of m resting) (spot m n)) where
    rest_there : (state_of m resting).cells (spot m n) ≡ rested (cell_of h.cells n)
    rest_there = here_held (spot m n) (place_itself (spot m n)) ∙ ap rested mine

    fires_to : cell ≡ fired_in C (state_of m h) (spot m n)
    fires_to = fired
        ∙ ap (λ (g : Pos → ℕ). fired_at h.time (role_at m.plan m.marks (spot m n)) (first_at m.plan (spot m n)) (C.readings g) (spot m n) (held m resting.cells nothing (spot m n))) same_given
        ∙ ap (λ (c : Cell). fired_at h.time (role_at m.plan m.marks (spot m n)) (first_at m.plan (spot m n)) (C.readings (given_by m h.cells)) (spot m n) c) (here_held (spot m n) (place_itself (spot m n)))
        ∙ fired_rested h.time (role_at m.plan m.marks (spot m n)) (first_at m.plan (spot m n)) (C.readings (given_by m h.cells)) (spot m n) (held m h.cells nothing (spot m n)) component.0 component.1

    pub fired_can_follow : CanFollow h.time (cell_of resting.cells n) cell
    fired_can_follow =
        subst (λ (c : Cell). CanFollow h.time c cell) (sym (get_or-set_same h.cells n (rested (cell_of h.cells n)) nothing first.inside))
        (subst (CanFollow h.time (rested (cell_of h.cells n))) (sym (fires_to ∙ ap (λ (c : Cell). fired_at h.time (role_at m.plan m.marks (spot m n)) (first_at m.plan (spot m n)) (C.readings (given_by m h.cells)) (spot m n) c) mine))
        (fired_follows h.time (role_at m.plan m.marks (spot m n)) (first_at m.plan (spot m n)) (C.readings (given_by m h.cells)) (spot m n) (cell_of h.cells n) component.0 component.1 (delays_small m w (spot m n))))

    pub fires_one : (new : State Pos) → new ≡ attend C (put C (state_of m resting) (spot m n) cell) → FiresOne C (state_of m h) new (spot m n)
    fires_one new after = record {
      due = record { component = component.0; there = component.1; waits = λ e. first.due.waits (ap (λ (c : Cell). c.due) (sym mine) ∙ e); now = ap (λ (c : Cell). c.due) mine ∙ first.due.now };
      least = least;
      after = after ∙ ap (attend C) (put_resting cell ∙ ap (put C (state_of m h) (spot m n)) fires_to);
    }
      where
        least : (other : Pos) → IsDue C (state_of m h) other → ((state_of m h).cells (spot m n)).priority ≤ ((state_of m h).cells other).priority
        least other d =
            let k = number_role m w other d.component d.there in
            let its : held m h.cells nothing other ≡ cell_of h.cells k.0 = held-there m h.cells nothing other k.0 k.1 in
            let low : (cell_of h.cells n).priority ≤ (cell_of h.cells k.0).priority = first.least k.0 (record { waits = λ e. d.waits (ap (λ (c : Cell). c.due) its ∙ e); now = ap (λ (c : Cell). c.due) (sym its) ∙ d.now }) in
            rw (mine, its) low

-- where no place is due, no cell is
pub none_due : (m : Numbered) → IsNumbered m → (h : Holding) → NoneNow h → (p : Pos) → IsDue (circuit_of m) (state_of m h) p → ⊥
none_due m w h none p d =
    let k = number_role m w p d.component d.there in
    let its : held m h.cells nothing p ≡ cell_of h.cells k.0 = held-there m h.cells nothing p k.0 k.1 in
    none k.0 (record { waits = λ e. d.waits (ap (λ (c : Cell). c.due) its ∙ e); now = ap (λ (c : Cell). c.due) (sym its) ∙ d.now })

pub none_now : (m : Numbered) → IsNumbered m → (h : Holding) → length h.cells ≡ length m.spots → AreIdle m h.cells → ((p : Pos) → IsDue (circuit_of m) (state_of m h) p → ⊥) → NoneNow h
none_now m w h long idle none key now = elim (cases_lt key (length m.spots)) [
  | inl below ↦ by_role below (role_at m.plan m.marks (spot m key)) refl
  | inr past ↦ now.waits (past_end h.cells key (omega (arith, long, past)))
]
  where
    by_role : key < length m.spots → (role : Option Component) → role_at m.plan m.marks (spot m key) ≡ role → ⊥
    by_role below None e = now.waits (ap (λ (c : Cell). c.due) (sym (held-spot m w h.cells nothing key below)) ∙ idle (spot m key) e)
    by_role below (Some c) e =
        let its : held m h.cells nothing (spot m key) ≡ cell_of h.cells key = held-spot m w h.cells nothing key below in
        none (spot m key) (record { component = c; there = e; waits = λ z. now.waits (ap (λ (x : Cell). x.due) (sym its) ∙ z); now = ap (λ (x : Cell). x.due) its ∙ now.now })
