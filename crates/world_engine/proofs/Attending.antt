-- What one place holds after it has attended.
use Rattle.std.proofs.Common.{◌≡◌, ℕ, ◌≤◌, Bool, Option, Some, None, refl, ap, subst, arith}
use Rattle.std.specs.Prelude.{◌==◌}
use Rattle.circuit.specs.declared.Pos.{Pos}
use Rattle.circuit.specs.declared.Component.{Component}
use Rattle.circuit.specs.declared.Component.TheVariants.{Lamp, Trapdoor, Note}
use Rattle.circuit.specs.declared.Readings.{Readings}
use Rattle.circuit.specs.declared.Cell.{Cell}
use Rattle.circuit.specs.Component.{top, out, goal, is_on, attended_value}
use Rattle.circuit.specs.Circuit.{out_at, attended_at}
use Rattle.circuit.proofs.Settled.{attended-settled, settled_attended}
use Rattle.circuit.proofs.Bounded.{cond_le}
use Rattle.build.specs.Roles.{role_at, first_at}
use Rattle.wiring.specs.Things.{Numbered, IsNumbered, number_at}
use Rattle.world_engine.specs.Running.{after_attending}
use Rattle.world_engine.proofs.Held.{role_none}

out-attended : (component : Component) (aim value : ℕ) → out component (attended_value component aim value) ≡ out component value
out-attended Lamp aim value = refl
out-attended Trapdoor aim value = refl
out-attended Note aim value = refl
out-attended _ aim value = refl

pub out_at-after : (time : ℕ) (role : Option Component) (first : Bool) (base : ℕ) (reads : Pos → Readings) (p : Pos) (cell : Cell) →
    out_at role base (attended_at time role first reads p cell) ≡ out_at role base cell
out_at-after time None first base reads p cell = refl
out_at-after time (Some component) first base reads p cell = out-attended component (goal component (reads p)) cell.value

-- who has attended has no more to do, at whatever time
pub attended_at-again : (later time : ℕ) (role : Option Component) (first : Bool) (reads : Pos → Readings) (p : Pos) (cell : Cell) →
    attended_at later role first reads p (attended_at time role first reads p cell) ≡ attended_at time role first reads p cell
attended_at-again later time None first reads p cell = refl
attended_at-again later time (Some component) first reads p cell =
    attended-settled later component first (reads p) (attended_at time (Some component) first reads p cell) (settled_attended time component first (reads p) cell)

pub attended_at-reads : (time : ℕ) (role : Option Component) (first : Bool) (f g : Pos → Readings) (p : Pos) (cell : Cell) → f p ≡ g p → attended_at time role first f p cell ≡ attended_at time role first g p cell
attended_at-reads time role first f g p cell e = by_role role
  where
    by_role : (r : Option Component) → attended_at time r first f p cell ≡ attended_at time r first g p cell
    by_role None = refl
    by_role (Some component) = ap (λ (reads : Readings). attended_at time (Some component) first (λ q. reads) p cell) e

pub attended_none : (time : ℕ) (role : Option Component) (first : Bool) (reads : Pos → Readings) (p : Pos) (cell : Cell) → role ≡ None → attended_at time role first reads p cell ≡ cell
attended_none time None first reads p cell h = refl
attended_none time (Some component) first reads p cell h = absurd (cc)

-- where nothing stands nothing attends
pub still_none : (m : Numbered) → IsNumbered m → (time : ℕ) (reads : Pos → Readings) (p : Pos) (cell : Cell) → number_at m p ≡ None → after_attending m time reads p cell ≡ cell
still_none m w time reads p cell none = attended_none time (role_at m.plan m.marks p) (first_at m.plan p) reads p cell (role_none m w p none)

-- ---- within bounds

attended_value-le : (component : Component) (r : Readings) (value : ℕ) → value ≤ top component → attended_value component (goal component r) value ≤ top component
attended_value-le Lamp r value q = cond_le (value == 0) (is_on r.back) value 1 (cond_le _ 1 0 1 (omega arith) (omega arith)) q
attended_value-le Trapdoor r value q = cond_le _ 1 0 1 (omega arith) (omega arith)
attended_value-le Note r value q = cond_le _ 1 0 1 (omega arith) (omega arith)
attended_value-le _ r value q = q

pub after-le : (time : ℕ) (role : Option Component) (first : Bool) (reads : Pos → Readings) (p : Pos) (cell : Cell) →
    ((component : Component) → role ≡ Some component → cell.value ≤ top component) → (component : Component) → role ≡ Some component → (attended_at time role first reads p cell).value ≤ top component
after-le time None first reads p cell h component e = absurd (cc)
after-le time (Some c) first reads p cell h component e =
    let same : c ≡ component = cc in
    subst (λ (x : Component). (attended_at time (Some c) first reads p cell).value ≤ top x) same (attended_value-le c (reads p) cell.value (h c refl))
