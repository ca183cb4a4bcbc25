-- The line of a firing, and what may be wrong with it.
use Rattle.std.proofs.Common.{◌≡◌, ℕ, ◌+◌, ◌-◌, ◌<◌, false, List, length, take, drop, length-append, length-drop, refl, sym, ◌∙◌, ap, arith}
use Rattle.circuit.specs.declared.Pos.{Pos}
use Rattle.circuit.specs.Circuit.{Circuit, State}
use Rattle.replay_engine.specs.Running.{Running}
use Rattle.report.specs.declared.OrderKind.{OrderKind}
use Rattle.report.specs.declared.OrderKind.TheVariants.{Short, Differs, Form, NotDue, Twice, Priority, Left, Trailing}
use Rattle.report.specs.FireLine.{fire_line}
use Rattle.world_order.specs.declared.front.Bad.{Bad}
use Rattle.world_order.specs.declared.front.Front.{Front}
use Rattle.world_order.specs.declared.lines.FireLine.{FireLine}
use Rattle.world_order.specs.BadLine.{Names, is_unended}
use Rattle.world_order.specs.LineForms.{IsFireLine, place_named}
use Rattle.world_order.specs.Reading.{IsFront, IsNoFiring, IsNotFiring, IsNotNow, Fires, ReadsFiring}
use Rattle.world_order.proofs.Pieces.{bad_here, told_bad, reads_on, rest_of, fire_long}

pub no_firing : (C : Circuit Pos) (now : State Pos) (Fired : Pos → Type 0) (text : List ℕ) (front : Front) (bad : Bad) (kind : OrderKind) → IsFront text front →
    bad ≡ record { at = front.at; tick = front.tick; kind = kind } → IsNotFiring C now Fired (take (length text - front.at) (drop front.at text)) kind → IsNoFiring C now Fired text front bad
no_firing C now Fired text front bad kind f e n = record { here = bad_here text front bad kind f e; is = told_bad text front bad kind e (λ (t : List ℕ) (k : OrderKind). IsNotFiring C now Fired t k) n }

pub names_of : (rest : List ℕ) (fire : FireLine) → IsFireLine rest fire → Names rest (place_named fire)
names_of rest fire f = record {
  numbers = record { x = fire.x; y = fire.y; z = fire.z; small_x = f.small_x; small_y = f.small_y; small_z = f.small_z; is = refl };
  more = drop fire.len rest;
  text = f.is;
}

-- the place that is named may not fire
pub named_wrong : (C : Circuit Pos) (now : State Pos) (Fired : Pos → Type 0) (rest : List ℕ) (place : Pos) (kind : OrderKind) → is_unended rest ≡ false → Names rest place → IsNotNow C now Fired place kind →
    IsNotFiring C now Fired rest kind
named_wrong C now Fired rest place Twice e n h = (e, (place, n, h))
named_wrong C now Fired rest place NotDue e n h = (e, (place, n, h.0, h.1))
named_wrong C now Fired rest place Priority e n h = (e, (place, n, h.0, h.1, h.2))
named_wrong C now Fired rest place Short e n h = absurd h
named_wrong C now Fired rest place Form e n h = absurd h
named_wrong C now Fired rest place Left e n h = absurd h
named_wrong C now Fired rest place Differs e n h = absurd h
named_wrong C now Fired rest place Trailing e n h = absurd h

pub firing_long : (rest : List ℕ) (fire : FireLine) → IsFireLine rest fire → fire.len ≡ length (fire_line (place_named fire))
firing_long rest fire f =
    let all : length rest ≡ length (fire_line (place_named fire)) + length (drop fire.len rest) = ap (λ (t : List ℕ). length t) f.is ∙ length-append (fire_line (place_named fire)) (drop fire.len rest) in
    omega (arith, all, length-drop fire.len rest, f.within)

pub firing_some : (rest : List ℕ) (fire : FireLine) → IsFireLine rest fire → 0 < fire.len
firing_some rest fire f = omega (arith, firing_long rest fire f, fire_long (place_named fire))

pub firing_read : (C : Circuit Pos) (old new : Running) (text : List ℕ) (from to : Front) (fire : FireLine) → IsFront text from → IsFireLine (take (length text - from.at) (drop from.at text)) fire →
    Fires C old new (place_named fire) → to ≡ record { at = from.at + fire.len; tick = from.tick; fires = from.fires + 1 } → ReadsFiring C old new text from to
firing_read C old new text from to fire f line fires e = record {
  place = place_named fire;
  fires = fires;
  reads = reads_on text from to (fire_line (place_named fire)) (drop fire.len rest) 0 1 f (sym (rest_of from.at text) ∙ line.is) (ap (λ (x : Front). x.at) e ∙ ap (λ n. from.at + n) (firing_long rest fire line))
      (omega (arith, ap (λ (x : Front). x.tick) e)) (ap (λ (x : Front). x.fires) e) (omega (arith, fire_long (place_named fire)));
}
  where
    rest : List ℕ
    rest = take (length text - from.at) (drop from.at text)
