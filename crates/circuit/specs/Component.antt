-- What one component does: when it wants to change, after how many ticks, and to what.
use Rattle.std.specs.Prelude.{ℕ, ◌+◌, ◌-◌, ◌*◌, max, Bool, true, false, not, ◌&&◌, ◌==◌, nat_lt, nat_le, if◌then◌else◌, Option, Some, None}
use Rattle.circuit.specs.declared.Component.{Component}
use Rattle.circuit.specs.declared.Component.TheVariants.{Lever, Button, Plate, Weighted, Torch, Repeater, Comparator, Lamp, Trapdoor, Note, Wire}
use Rattle.circuit.specs.declared.Click.{Click}
use Rattle.circuit.specs.declared.Click.TheVariants.{Use, Press, Leave, Weigh}
use Rattle.circuit.specs.declared.Readings.{Readings}
use Rattle.circuit.specs.declared.Cell.{Cell}

-- The greatest value: 1 for what is on or off. A wire holds nothing, it shows what it reads.
abbrev pub top : Component → ℕ
top Weighted = 15
top (Comparator subtract) = 15
top Wire = 0
top _ = 1

-- The power that a component gives. Lamps, trapdoors, note blocks and wires that are looked at give none.
abbrev pub out : Component → ℕ → ℕ
out Lever value = 15 * value
out (Button delay) value = 15 * value
out Plate value = 15 * value
out Torch value = 15 * value
out (Repeater delay) value = 15 * value
out Weighted value = value
out (Comparator subtract) value = value
out _ value = 0

-- on, 1, where there is any power, else off, 0
abbrev pub is_on : ℕ → ℕ
is_on power = if nat_lt 0 power then 1 else 0

-- what a comparator is to give, by whether it subtracts
abbrev pub compared : Bool → ℕ → ℕ → ℕ
compared true back side = back - side
compared false back side = if nat_le side back then back else 0

-- The value that a component is to have by what it reads. A button is to be off.
-- Levers, plates and wires have no goal of their own, and never look at this 0.
abbrev pub goal : Component → Readings → ℕ
goal Torch r = if nat_lt 0 r.back then 0 else 1
goal (Repeater delay) r = is_on r.back
goal (Comparator subtract) r = compared subtract r.back r.side
goal Lamp r = is_on r.back
goal Trapdoor r = is_on r.back
goal Note r = is_on r.back
goal _ r = 0

-- a repeater with any power at its sides
abbrev pub locked : Component → Readings → Bool
locked (Repeater delay) r = nat_lt 0 r.side
locked _ r = false

-- The ticks from a want to its firing, never 0: so nothing fires twice in one tick.
abbrev pub delay_of : Component → ℕ
delay_of (Repeater delay) = max 1 delay
delay_of (Button delay) = max 1 delay
delay_of Lamp = 2
delay_of _ = 1

-- Of those due in one tick the least number fires first. `first` says that a diode faces a diode.
abbrev pub priority_of : Component → Bool → ℕ → ℕ
priority_of (Repeater delay) first value = if first then 0 else (if value == 0 then 2 else 1)
priority_of (Comparator subtract) first value = if first then 2 else 3
priority_of _ first value = 3

-- What changes at once: a lamp goes on, a trapdoor and a note block take their goal.
abbrev pub attended_value : Component → ℕ → ℕ → ℕ
attended_value Lamp aim value = if value == 0 then aim else value
attended_value Trapdoor aim value = aim
attended_value Note aim value = aim
attended_value _ aim value = value

-- What wants to change later: a lamp that is to go off, and a torch, a repeater, a comparator or a button away from its goal.
abbrev pub asks : Component → ℕ → ℕ → Bool
asks Lamp aim value = not (value == 0) && (aim == 0)
asks Torch aim value = not (value == aim)
asks (Repeater delay) aim value = not (value == aim)
asks (Comparator subtract) aim value = not (value == aim)
asks (Button delay) aim value = not (value == aim)
asks _ aim value = false

-- what wants to change later gets a tick, unless it has one or is locked
abbrev pub gets_tick : Component → Readings → Cell → Bool
gets_tick component r cell = (cell.due == 0) && (not (locked component r) && asks component (goal component r) cell.value)

-- what a component holds after it attended to what it reads
abbrev pub attended : ℕ → Component → Bool → Readings → Cell → Cell
attended time component first r cell = record {
  value = attended_value component (goal component r) cell.value;
  due = if gets_tick component r cell then time + delay_of component else cell.due;
  priority = if gets_tick component r cell then priority_of component first cell.value else cell.priority;
}

-- The value after a firing. A torch and a comparator take their goal, a lamp with its goal off and a button go off.
-- A repeater that is locked keeps its value, one that is off goes on whatever its goal, and one that is on takes its goal.
abbrev pub fired_value : Component → Readings → ℕ → ℕ
fired_value Torch r value = goal Torch r
fired_value (Comparator subtract) r value = goal (Comparator subtract) r
fired_value Lamp r value = if nat_lt 0 r.back then value else 0
fired_value (Button delay) r value = 0
fired_value (Repeater delay) r value = if nat_lt 0 r.side then value else (if value == 0 then 1 else is_on r.back)
fired_value _ r value = value

-- A repeater that goes on though its goal is off goes off again later: so no pulse is lost.
abbrev pub fires_again : Component → Readings → ℕ → Bool
fires_again (Repeater delay) r value = (r.side == 0) && ((value == 0) && (r.back == 0))
fires_again _ r value = false

-- What a component holds after it fired. Its tick is gone, and one that fires again has a new one, of the priority of one that is on.
abbrev pub fired : ℕ → Component → Bool → Readings → Cell → Cell
fired time component first r cell = record {
  value = fired_value component r cell.value;
  due = if fires_again component r cell.value then time + delay_of component else 0;
  priority = if fires_again component r cell.value then priority_of component first 1 else 0;
}

-- Whether a component takes a click. A weight is 1 to 15.
abbrev pub takes : Component → Click → Bool
takes Lever Use = true
takes (Button delay) Use = true
takes Plate Press = true
takes Plate Leave = true
takes Weighted (Weigh weight) = nat_lt 0 weight && nat_le weight 15
takes Weighted Leave = true
takes _ _ = false

-- What a click makes of a value: `Use` toggles a lever and turns a button on. None where the component doesn't take the click.
abbrev pub clicked : Component → Click → ℕ → Option ℕ
clicked Lever Use value = Some (1 - value)
clicked (Button delay) Use value = Some 1
clicked Plate Press value = Some 1
clicked Plate Leave value = Some 0
clicked Weighted (Weigh weight) value = if nat_lt 0 weight && nat_le weight 15 then Some weight else None
clicked Weighted Leave value = Some 0
clicked _ _ value = None
