-- What follows a cell: a pending tick stays, and a new one is due soon.
use Rattle.std.proofs.Common.{◌≡◌, ◌≢◌, ℕ, ◌+◌, ◌<◌, ◌≤◌, Bool, true, false, cond, Option, Some, None, refl, arith}
use Rattle.std.specs.Prelude.{◌==◌, ◌&&◌, nat_lt, IfSome}
use Rattle.std.proofs.lemmas.Bool.{ne_eqb, and_parts, ltb-true}
use Rattle.circuit.specs.declared.Pos.{Pos}
use Rattle.circuit.specs.declared.Component.{Component}
use Rattle.circuit.specs.declared.Component.TheVariants.{Repeater as RepeaterPart, Comparator as ComparatorPart, Button as ButtonPart}
use Rattle.circuit.specs.declared.Readings.{Readings}
use Rattle.circuit.specs.declared.Cell.{Cell}
use Rattle.circuit.specs.Component.{delay_of, priority_of, gets_tick, fires_again}
use Rattle.circuit.specs.Circuit.{attended_at, fired_at, with_value}
use Rattle.circuit.specs.Settled.{delay_above}
use Rattle.circuit.proofs.Bounded.{cond_le}
use Rattle.block_table.specs.declared.Block.{Block}
use Rattle.block_table.specs.declared.Block.TheVariants.{Wire, Torch, WallTorch, Repeater, Comparator, Lever, Button, Plate, Lamp, Trapdoor, Weighted, Note}
use Rattle.block_table.specs.WrittenText.{is_listed, is_horizontal}
use Rattle.build.specs.Plan.{block_at}
use Rattle.build.specs.Marks.{is_marked}
use Rattle.build.specs.Roles.{role_of, role_at, button_delay, first_wooden_button}
use Rattle.cell_counts.specs.Held.{IsSoon, CanFollow, IsNow, rested}
use Rattle.replay_engine.specs.Things.{Numbered, IsNumbered}

button_small : (name : ℕ) → delay_of (ButtonPart (button_delay name)) ≤ 15
button_small name = elim (nat_lt name first_wooden_button) as (λ b. delay_of (ButtonPart (cond b 10 15)) ≤ 15) [ true ↦ omega arith | false ↦ omega arith ]

delay_small : (marked : Bool) (block : Block) → is_listed block ≡ true → IfSome (role_of marked block) (λ c. delay_of c ≤ 15)
delay_small marked (Lever face facing powered) h = omega arith
delay_small marked (Button name face facing powered) h = button_small name
delay_small marked (Plate name powered) h = omega arith
delay_small marked (Weighted name power) h = omega arith
delay_small marked (Torch lit) h = omega arith
delay_small marked (WallTorch facing lit) h = omega arith
delay_small marked (Repeater delay facing powered) h =
    let parts = and_parts (nat_lt 0 delay && nat_lt delay 5) (is_horizontal facing) h in
    let more = and_parts (nat_lt 0 delay) (nat_lt delay 5) parts.0 in
    let low : delay < 5 = ltb-true delay 5 more.1 in
    omega arith
delay_small marked (Comparator facing subtract) h = omega arith
delay_small marked (Lamp lit) h = omega arith
delay_small marked (Trapdoor facing top powered) h = omega arith
delay_small marked (Note powered) h = omega arith
delay_small marked (Wire north east south west power) h = elim marked as (λ m. IfSome (role_of m (Wire north east south west power)) (λ c. delay_of c ≤ 15)) [ true ↦ omega arith | false ↦ tt ]
delay_small marked _ h = tt

-- no delay is above 15
pub delays_small : (m : Numbered) → IsNumbered m → (p : Pos) → IfSome (role_at m.plan m.marks p) (λ c. delay_of c ≤ 15)
unfolding role_at
delays_small m w p = delay_small (is_marked m.marks p) (block_at m.plan p) (w.whole.listed p)

priority_small : (component : Component) (first : Bool) (value : ℕ) → priority_of component first value ≤ 3
priority_small (RepeaterPart delay) first value = cond_le first 0 _ 3 (omega arith) (cond_le (value == 0) 2 1 3 (omega arith) (omega arith))
priority_small (ComparatorPart subtract) first value = cond_le first 2 3 3 (omega arith) (omega arith)
priority_small _ first value = omega arith

soon_if : (gets : Bool) (time value due priority delay rank : ℕ) → due ≡ 0 → 0 < delay → delay ≤ 15 → rank ≤ 3 →
    IsSoon time (record { value = value; due = cond gets (time + delay) due; priority = cond gets rank priority })
soon_if true time value due priority delay rank none above small low = record { later = λ w. omega arith; soon = omega arith; priority = λ w. low }
soon_if false time value due priority delay rank none above small low = record { later = λ w. absurd (w none); soon = omega arith; priority = λ w. absurd (w none) }

-- a cell without a tick is soon, and follows each one without
pub soon_none : (time : ℕ) (cell : Cell) → cell.due ≡ 0 → IsSoon time cell
soon_none time cell none = record { later = λ w. absurd (w none); soon = omega arith; priority = λ w. absurd (w none) }

pub attended_follows : (time : ℕ) (role : Option Component) (first : Bool) (reads : Pos → Readings) (p : Pos) (cell : Cell) → IfSome role (λ c. delay_of c ≤ 15) → CanFollow time cell (attended_at time role first reads p cell)
attended_follows time None first reads p cell small = record { stays = λ w. (refl, refl); soon = λ none. soon_none time cell none }
attended_follows time (Some c) first reads p cell small = record {
  stays = λ w. rw (ne_eqb cell.due 0 w) (refl, refl);
  soon = λ none. soon_if (gets_tick c (reads p) cell) time _ cell.due cell.priority (delay_of c) (priority_of c first cell.value) none (delay_above c) small (priority_small c first cell.value);
}

fired_by_component : (time : ℕ) (c : Component) (first : Bool) (reads : Pos → Readings) (p : Pos) (cell : Cell) → delay_of c ≤ 15 → CanFollow time (rested cell) (fired_at time (Some c) first reads p cell)
fired_by_component time c first reads p cell small = record {
  stays = λ w. absurd (w refl);
  soon = λ none. soon_if (fires_again c (reads p) cell.value) time _ 0 0 (delay_of c) (priority_of c first 1) refl (delay_above c) small (priority_small c first 1);
}

pub fired_follows : (time : ℕ) (role : Option Component) (first : Bool) (reads : Pos → Readings) (p : Pos) (cell : Cell) (component : Component) → role ≡ Some component → IfSome role (λ c. delay_of c ≤ 15) →
    CanFollow time (rested cell) (fired_at time role first reads p cell)
fired_follows time None first reads p cell component there small = absurd (cc)
fired_follows time (Some c) first reads p cell component there small = fired_by_component time c first reads p cell small

-- firing looks at the value alone
pub fired_rested : (time : ℕ) (role : Option Component) (first : Bool) (reads : Pos → Readings) (p : Pos) (cell : Cell) (component : Component) → role ≡ Some component →
    fired_at time role first reads p (rested cell) ≡ fired_at time role first reads p cell
fired_rested time None first reads p cell component there = absurd (cc)
fired_rested time (Some c) first reads p cell component there = refl

pub clicked_follows : (time : ℕ) (cell : Cell) (value : ℕ) → CanFollow time cell (with_value cell value)
clicked_follows time cell value = record { stays = λ w. (refl, refl); soon = λ none. soon_none time (with_value cell value) none }

-- attending makes nothing due now
pub attended_now : (time : ℕ) (role : Option Component) (first : Bool) (reads : Pos → Readings) (p : Pos) (cell : Cell) → IsNow time (attended_at time role first reads p cell) → IsNow time cell
attended_now time None first reads p cell now = now
attended_now time (Some c) first reads p cell now = go (gets_tick c (reads p) cell) now.waits now.now
  where
    go : (gets : Bool) → cond gets (time + delay_of c) cell.due ≢ 0 → cond gets (time + delay_of c) cell.due ≡ time → IsNow time cell
    go true w e = absurd (omega (arith, e, delay_above c))
    go false w e = record { waits = w; now = e }
