-- What is stored at the start: it has no tick where no component stands, and each tick is soon.
use Rattle.std.proofs.Common.{◌≡◌, ℕ, ◌<◌, ◌≤◌, Bool, true, false, List, [], ◌∷◌, length, get_or, cond, Option, Some, None, refl, sym, ◌∙◌, ap, subst, arith}
use Rattle.std.specs.Prelude.{All, nat_lt, nat_le, ◌&&◌}
use Rattle.std.specs.List.{list_all}
use Rattle.std.proofs.lemmas.Bool.{and_parts, ltb-true, leb-true}
use Rattle.std.proofs.lemmas.List.{get_or_default}
use Rattle.circuit.specs.declared.Pos.{Pos}
use Rattle.circuit.specs.declared.Component.{Component}
use Rattle.circuit.specs.declared.Cell.{Cell}
use Rattle.circuit.specs.declared.Readings.{Readings}
use Rattle.circuit.specs.Circuit.{State, attend, attended_at, outs}
use Rattle.build.specs.declared.Pending.{Pending}
use Rattle.build.specs.Place.{same_place}
use Rattle.build.specs.Plan.{Plan, may_wait, is_timely, is_ticking, block_at, entry}
use Rattle.build.specs.Roles.{role_at, first_at, stored, stored_of, stored_value, waiting_at, cell_with}
use Rattle.cell_counts.specs.Held.{Holding, IsSoon}
use Rattle.replay_engine.specs.Things.{Numbered, IsNumbered, nothing, state_by}
use Rattle.replay_engine.specs.Running.{circuit_of, state_of, spot, AreIdle}
use Rattle.replay_engine.proofs.Follow.{soon_none}

pub stored_then : (m : Numbered) (h : Holding) → state_of m h ≡ record { time = 0; cells = stored m.plan m.marks } → state_by m 0 h.cells ≡ record { time = 0; cells = stored m.plan m.marks }
stored_then m h e = λ i. record { time = 0; cells = (e i).cells }

idle_stored : (role : Option Component) (value : ℕ) (tick : Option Pending) → role ≡ None → (stored_of role value tick).due ≡ 0
idle_stored None value tick none = refl
idle_stored (Some c) value tick none = absurd (cc)

attended_none : (time : ℕ) (role : Option Component) (first : Bool) (reads : Pos → Readings) (p : Pos) (cell : Cell) → role ≡ None → (attended_at time role first reads p cell).due ≡ cell.due
attended_none time None first reads p cell none = refl
attended_none time (Some c) first reads p cell none = absurd (cc)

-- all attended to what is stored
pub idle_start : (m : Numbered) (old new : Holding) → state_of m old ≡ record { time = 0; cells = stored m.plan m.marks } → state_of m new ≡ attend (circuit_of m) (state_of m old) → AreIdle m new.cells
unfolding stored
idle_start m old new begun after p none =
    ap (λ (s : State Pos). (s.cells p).due) after
    ∙ attended_none old.time (role_at m.plan m.marks p) (first_at m.plan p) ((circuit_of m).readings (outs (circuit_of m) (state_of m old))) p ((state_of m old).cells p) none
    ∙ ap (λ (s : State Pos). (s.cells p).due) begun
    ∙ idle_stored (role_at m.plan m.marks p) (stored_value (block_at m.plan p) (entry m.plan m.plan.levels 0 p)) (waiting_at m.plan.pending p) none

-- ---- each stored tick is soon

timely_soon : (value : ℕ) (tick : Pending) → is_timely tick ≡ true → IsSoon 0 (cell_with value (Some tick))
timely_soon value tick h =
    let parts = and_parts (nat_lt 0 tick.due && nat_le tick.due 15) (nat_le tick.priority 3) h in
    let more = and_parts (nat_lt 0 tick.due) (nat_le tick.due 15) parts.0 in
    let low : 0 < tick.due = ltb-true 0 tick.due more.0 in
    let high : tick.due ≤ 15 = leb-true tick.due 15 more.1 in
    let rank : tick.priority ≤ 3 = leb-true tick.priority 3 parts.1 in
    record { later = λ w. low; soon = omega arith; priority = λ w. rank }

by_test : (tick : Pending) (ticks : List Pending) (p : Pos) (value : ℕ) (t : Bool) → IsSoon 0 (cell_with value (Some tick)) → IsSoon 0 (cell_with value (waiting_at ticks p)) →
    IsSoon 0 (cell_with value (cond t (Some tick) (waiting_at ticks p)))
by_test tick ticks p value true here rest = here
by_test tick ticks p value false here rest = rest

found_timely : (b : Plan) (ticks : List Pending) (p : Pos) (value : ℕ) → list_all (may_wait b) ticks ≡ true → IsSoon 0 (cell_with value (waiting_at ticks p))
found_timely b [] p value h = soon_none 0 (cell_with value None) refl
found_timely b (tick ∷ ticks) p value h =
    let parts = and_parts (may_wait b tick) (list_all (may_wait b) ticks) h in
    let here = and_parts (is_ticking (block_at b tick.pos)) (is_timely tick) parts.0 in
    by_test tick ticks p value (same_place tick.pos p) (timely_soon value tick here.1) (found_timely b ticks p value parts.1)

soon_stored : (role : Option Component) (value : ℕ) (tick : Option Pending) → IsSoon 0 (cell_with value tick) → IsSoon 0 (stored_of role value tick)
soon_stored None value tick h = soon_none 0 (stored_of None value tick) refl
soon_stored (Some c) value tick h = h

pub stored_soon : (m : Numbered) → IsNumbered m → (p : Pos) → IsSoon 0 (stored m.plan m.marks p)
unfolding stored
stored_soon m w p = soon_stored (role_at m.plan m.marks p) (stored_value (block_at m.plan p) (entry m.plan m.plan.levels 0 p)) (waiting_at m.plan.pending p)
    (found_timely m.plan m.plan.pending p (stored_value (block_at m.plan p) (entry m.plan m.plan.levels 0 p)) w.whole.waiting)

pub cells_soon : (m : Numbered) → IsNumbered m → (cells : List Cell) → length cells ≡ length m.spots → ((k : ℕ) → k < length m.spots → get_or cells k nothing ≡ stored m.plan m.marks (spot m k)) → All (IsSoon 0) cells
cells_soon m w cells long each k d below =
    let inside : k < length m.spots = omega arith in
    subst (IsSoon 0) (sym (get_or_default cells k d nothing below ∙ each k inside)) (stored_soon m w (spot m k))
