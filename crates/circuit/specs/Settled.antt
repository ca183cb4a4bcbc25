-- Attending twice is attending once.
use Rattle.std.proofs.Common.{◌≡◌, ℕ, ◌+◌, ◌<◌, Bool, true, false, not, ◌&&◌, Option, Some, None, refl, ap, ◌∙◌, arith, cond, inl, inr}
use Rattle.std.proofs.Math.Path.{fun_ext}
use Rattle.std.specs.Prelude.{◌==◌}
use Rattle.std.proofs.lemmas.Bool.{ne_eqb, cases_Bool}
use Rattle.circuit.specs.declared.Component.{Component}
use Rattle.circuit.specs.declared.Component.TheVariants.{Button, Repeater, Lamp, Trapdoor, Note}
use Rattle.circuit.specs.declared.Readings.{Readings}
use Rattle.circuit.specs.declared.Cell.{Cell}
use Rattle.circuit.specs.Component.{out, goal, asks, attended_value, gets_tick, attended, delay_of}
use Rattle.circuit.specs.Circuit.{Circuit, State, outs, out_at, attended_at, attend}

by_test : (b : Bool) (P : Bool → Type 0) → P true → P false → P b
by_test true P t f = t
by_test false P t f = f

-- no delay is 0
pub delay_above : (component : Component) → 0 < delay_of component
delay_above (Repeater delay) = omega arith
delay_above (Button delay) = omega arith
delay_above Lamp = omega arith
delay_above _ = omega arith

-- what changes at once changes no want, no power, and not again
asks-attended : (component : Component) (aim value : ℕ) → asks component aim (attended_value component aim value) ≡ asks component aim value
asks-attended Lamp aim value = elim (cases_Bool (value == 0)) [
  | inl e ↦ rw e (by_test (aim == 0) (λ a. (not a && a) ≡ false) refl refl)
  | inr e ↦ simp e refl
]
asks-attended Trapdoor aim value = refl
asks-attended Note aim value = refl
asks-attended _ aim value = refl

attended_value-twice : (component : Component) (aim value : ℕ) → attended_value component aim (attended_value component aim value) ≡ attended_value component aim value
attended_value-twice Lamp aim value = elim (cases_Bool (value == 0)) [
  | inl e ↦ rw e (by_test (aim == 0) (λ a. cond a aim aim ≡ aim) refl refl)
  | inr e ↦ simp e refl
]
attended_value-twice Trapdoor aim value = refl
attended_value-twice Note aim value = refl
attended_value-twice _ aim value = refl

out-attended : (component : Component) (aim value : ℕ) → out component (attended_value component aim value) ≡ out component value
out-attended Lamp aim value = refl
out-attended Trapdoor aim value = refl
out-attended Note aim value = refl
out-attended _ aim value = refl

-- A cell is settled for these readings where attending changes nothing, at whatever time.
pub record IsSettled (component : Component) (r : Readings) (cell : Cell) : Type 0 where
  pub quiet : gets_tick component r cell ≡ false
  pub still : attended_value component (goal component r) cell.value ≡ cell.value

pub attended-settled : (time : ℕ) (component : Component) (first : Bool) (r : Readings) (cell : Cell) → IsSettled component r cell → attended time component first r cell ≡ cell
attended-settled time component first r cell h = rw (h.quiet, h.still) refl

pub settled_attended : (time : ℕ) (component : Component) (first : Bool) (r : Readings) (cell : Cell) → IsSettled component r (attended time component first r cell)
settled_attended time component first r cell = record {
  quiet = elim (cases_Bool (gets_tick component r cell)) [
    | inl e ↦ rw (e, ne_eqb (time + delay_of component) 0 (omega (arith, delay_above component))) refl
    | inr e ↦ rw (e, asks-attended component (goal component r) cell.value) e
  ];
  still = attended_value-twice component (goal component r) cell.value;
}

out_at-attended : {K : Type 0} (time : ℕ) (role : Option Component) (first : Bool) (base : ℕ) (reads : K → Readings) (k : K) (cell : Cell) →
    out_at role base (attended_at time role first reads k cell) ≡ out_at role base cell
out_at-attended time None first base reads k cell = refl
out_at-attended time (Some component) first base reads k cell = out-attended component (goal component (reads k)) cell.value

attended_at-twice : {K : Type 0} (time : ℕ) (role : Option Component) (first : Bool) (reads : K → Readings) (k : K) (cell : Cell) →
    attended_at time role first reads k (attended_at time role first reads k cell) ≡ attended_at time role first reads k cell
attended_at-twice time None first reads k cell = refl
attended_at-twice time (Some component) first reads k cell =
    attended-settled time component first (reads k) (attended time component first (reads k) cell) (settled_attended time component first (reads k) cell)

-- What is given, and so what is read, doesn't change when all attend.
pub outs-attend : {K : Type 0} (C : Circuit K) (s : State K) → outs C (attend C s) ≡ outs C s
outs-attend C s = fun_ext (λ k. out_at-attended s.time (C.role k) (C.first k) (C.base k) (C.readings (outs C s)) k (s.cells k))

-- Attending an attended state changes nothing.
pub attend-twice : {K : Type 0} (C : Circuit K) (s : State K) → attend C (attend C s) ≡ attend C s
attend-twice {K} C s =
    let reads : C.readings (outs C (attend C s)) ≡ C.readings (outs C s) = ap C.readings (outs-attend C s) in
    let cell : (k : K) → attended_at s.time (C.role k) (C.first k) (C.readings (outs C (attend C s))) k ((attend C s).cells k) ≡ (attend C s).cells k =
    λ k. ap (λ (f : K → Readings). attended_at s.time (C.role k) (C.first k) f k ((attend C s).cells k)) reads
    ∙ attended_at-twice s.time (C.role k) (C.first k) (C.readings (outs C s)) k (s.cells k) in
    λ i. record { time = s.time; cells = λ k. cell k i }
