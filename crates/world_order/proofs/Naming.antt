-- A line whose numbers are none of a place names what isn't due, and hasn't fired.
use Rattle.std.proofs.Common.{◌≡◌, ◌≢◌, ℕ, ◌<◌, true, List, Some, None, refl, sym, ◌∙◌, ap, subst, arith, inl, inr}
use Rattle.std.specs.Prelude.{is_some, nat_eq, ◌&&◌}
use Rattle.std.proofs.lemmas.Bool.{cases_Bool, le-leb, eq-eqb, ne_eqb}
use Rattle.circuit.specs.declared.Pos.{Pos}
use Rattle.circuit.specs.Circuit.{IsDue, State}
use Rattle.block_table.specs.declared.Block.{Block}
use Rattle.block_table.specs.declared.Block.TheVariants.{Air}
use Rattle.build.specs.Marks.{is_marked}
use Rattle.build.specs.Plan.{Plan, IsWhole, in_box, entry}
use Rattle.build.specs.Places.{IsInside, inside, in_box-not_outside}
use Rattle.build.specs.Roles.{role_at, role_of}
use Rattle.power_rules.specs.World.{world_circuit}
use Rattle.replay_engine.specs.Running.{Running, HasFired, state_in}
use Rattle.report.specs.declared.OrderKind.TheVariants.{NotDue}
use Rattle.replay_engine.specs.Running.{IsUnlawful}
use Rattle.replay_engine.specs.declared.events.Unlawful.{Unlawful}
use Rattle.replay_engine.specs.declared.events.Unlawful.TheVariants.{Twice as TwiceFired, NotDue as NoTickDue, Priority as Later}
use Rattle.script.specs.LineSaid.{is_coordinate}
use Rattle.world_order.specs.declared.lines.FireLine.{FireLine}
use Rattle.world_order.specs.LineForms.{place_named}
use Rattle.world_order.specs.Reading.{IsNotNow, kind_of, place_of}

is_near : (n : ℕ) → n < 65536 → is_coordinate n ≡ true
is_near n l = le-leb n 2147483647 (omega arith)

-- what stands in the box has numbers of places
near : (b : Plan) → IsWhole b → (fire : FireLine) → in_box b (place_named fire) ≡ true → place_of fire ≡ None → ⊥
near b w fire h none =
    let i : IsInside b (place_named fire) = inside b (place_named fire) h in
    let x : fire.x < b.width = i.x_below in
    let y : fire.y < b.height = i.y_below in
    let z : fire.z < b.depth = i.z_below in
    let wx : b.width < 65536 = w.narrow in
    let wy : b.height < 65536 = w.low in
    let wz : b.depth < 65536 = w.shallow in
    let here : place_of fire ≡ Some (place_named fire) = rw (is_near fire.x (omega arith), is_near fire.y (omega arith), is_near fire.z (omega arith)) refl in
    let clash : None ≡ Some (place_named fire) = sym none ∙ here in
    cc

far_not_due : (b : Plan) → IsWhole b → (marks : List Pos) (s : State Pos) (fire : FireLine) → place_of fire ≡ None → IsDue (world_circuit b marks) s (place_named fire) → ⊥
unfolding role_at
far_not_due b w marks s fire none due =
    near b w fire (in_box-not_outside b b.blocks Air (λ (k : Block). is_some (role_of (is_marked marks (place_named fire)) k)) (place_named fire) refl (ap is_some due.there)) none

far_not_fired : (w : Running) → IsWhole w.plan → 0 < w.time → (fire : FireLine) → place_of fire ≡ None → HasFired w (place_named fire) → ⊥
far_not_fired w whole late fire none fired =
    near w.plan whole fire (in_box-not_outside w.plan w.latest 0 (λ (n : ℕ). nat_eq n w.time) (place_named fire) (ne_eqb 0 w.time (let e : 0 ≢ w.time = omega arith in e)) (eq-eqb (entry w.plan w.latest 0 (place_named fire)) w.time fired)) none

pub far_not_now : (w : Running) → IsWhole w.plan → 0 < w.time → (fire : FireLine) → place_of fire ≡ None →
    IsNotNow (world_circuit w.plan w.marks) (state_in w) (HasFired w) (place_named fire) NotDue
far_not_now w whole late fire none = (far_not_fired w whole late fire none, far_not_due w.plan whole w.marks (state_in w) fire none)

-- what the engine refuses is told as its kind
unlawful : (w : Running) (p : Pos) (why : Unlawful) → IsUnlawful (world_circuit w.plan w.marks) (state_in w) (HasFired w p) p why →
    IsNotNow (world_circuit w.plan w.marks) (state_in w) (HasFired w) p (kind_of why)
unlawful w p TwiceFired h = h
unlawful w p NoTickDue h = h
unlawful w p Later h = h

place_is : (fire : FireLine) (p : Pos) → place_of fire ≡ Some p → p ≡ place_named fire
place_is fire p e = elim (cases_Bool (is_coordinate fire.x && is_coordinate fire.y && is_coordinate fire.z)) [
  | inl h ↦ (let f : place_of fire ≡ Some (place_named fire) = rw h refl in let g : Some p ≡ Some (place_named fire) = sym e ∙ f in cc)
  | inr h ↦ (let f : place_of fire ≡ None = rw h refl in let g : Some p ≡ None = sym e ∙ f in absurd (cc))
]

pub refused : (w : Running) (fire : FireLine) (p : Pos) (why : Unlawful) → place_of fire ≡ Some p → IsUnlawful (world_circuit w.plan w.marks) (state_in w) (HasFired w p) p why →
    IsNotNow (world_circuit w.plan w.marks) (state_in w) (HasFired w) (place_named fire) (kind_of why)
refused w fire p why e h = subst (λ (q : Pos). IsNotNow (world_circuit w.plan w.marks) (state_in w) (HasFired w) q (kind_of why)) (place_is fire p e) (unlawful w p why h)
