-- In a run no value passes the top of its component.
use Rattle.std.proofs.Common.{◌≡◌, ℕ, ◌-◌, ◌≤◌, max, Bool, true, false, ◌&&◌, Option, Some, None, refl, sym, subst, arith, cond}
use Rattle.std.specs.Prelude.{nat_lt, nat_le, ◌==◌}
use Rattle.std.proofs.lemmas.Bool.{cond_both, leb-true}
use Rattle.circuit.specs.declared.Component.{Component}
use Rattle.circuit.specs.declared.Component.TheVariants.{Lever, Button, Plate, Weighted, Torch, Repeater, Comparator, Lamp, Trapdoor, Note, Wire}
use Rattle.circuit.specs.declared.Click.{Click}
use Rattle.circuit.specs.declared.Click.TheVariants.{Use, Press, Weigh, Leave}
use Rattle.circuit.specs.declared.Readings.{Readings}
use Rattle.circuit.specs.declared.Cell.{Cell}
use Rattle.circuit.specs.Component.{top, out, goal, attended_value, fired_value, clicked}
use Rattle.circuit.specs.Circuit.{Circuit, State, outs, out_at, put, attended_at, fired_at, fired_in, with_value}
use Rattle.circuit.specs.Bounds.{BoundedAt, Bounded, IsBounded}
use Rattle.circuit.specs.Keys.{IsTest}
use Rattle.circuit.specs.Matches.{IsInvariant}

-- either of two numbers
pub cond_le : (b : Bool) (x y top : ℕ) → x ≤ top → y ≤ top → cond b x y ≤ top
cond_le true x y top p q = p
cond_le false x y top p q = q

-- goals, values and outputs of one component
goal_le : (component : Component) (r : Readings) → r.back ≤ 15 → goal component r ≤ max 1 (top component)
goal_le Torch r h = cond_le (nat_lt 0 r.back) 0 1 1 (omega arith) (omega arith)
goal_le (Repeater delay) r h = cond_le (nat_lt 0 r.back) 1 0 1 (omega arith) (omega arith)
goal_le (Comparator true) r h = omega arith
goal_le (Comparator false) r h = cond_le (nat_le r.side r.back) r.back 0 15 h (omega arith)
goal_le Lamp r h = cond_le (nat_lt 0 r.back) 1 0 1 (omega arith) (omega arith)
goal_le Trapdoor r h = cond_le (nat_lt 0 r.back) 1 0 1 (omega arith) (omega arith)
goal_le Note r h = cond_le (nat_lt 0 r.back) 1 0 1 (omega arith) (omega arith)
goal_le _ r h = omega arith

attended_value_le : (component : Component) (r : Readings) (value : ℕ) → r.back ≤ 15 → value ≤ top component → attended_value component (goal component r) value ≤ top component
attended_value_le Lamp r value h q = cond_le (value == 0) (goal Lamp r) value 1 (goal_le Lamp r h) q
attended_value_le Trapdoor r value h q = goal_le Trapdoor r h
attended_value_le Note r value h q = goal_le Note r h
attended_value_le _ r value h q = q

fired_value_le : (component : Component) (r : Readings) (value : ℕ) → r.back ≤ 15 → value ≤ top component → fired_value component r value ≤ top component
fired_value_le Torch r value h q = goal_le Torch r h
fired_value_le (Comparator subtract) r value h q = goal_le (Comparator subtract) r h
fired_value_le Lamp r value h q = cond_le (nat_lt 0 r.back) value 0 1 q (omega arith)
fired_value_le (Button delay) r value h q = omega arith
fired_value_le (Repeater delay) r value h q =
    cond_le (nat_lt 0 r.side) value _ 1 q (cond_le (value == 0) 1 _ 1 (omega arith) (goal_le Lamp r h))
fired_value_le _ r value h q = q

weighed_le : (a b : Bool) (weight result : ℕ) → (b ≡ true → weight ≤ 15) → cond (a && b) (Some weight) None ≡ Some result → result ≤ 15
weighed_le true true weight result h e = let w : weight ≤ 15 = h refl in let f : weight ≡ result = cc in omega arith
weighed_le true false weight result h e = absurd (cc)
weighed_le false b weight result h e = absurd (cc)

clicked_le : (component : Component) (click : Click) (value result : ℕ) → clicked component click value ≡ Some result → result ≤ top component
clicked_le Lever Use value result e = let h : 1 - value ≡ result = cc in omega arith
clicked_le (Button delay) Use value result e = let h : 1 ≡ result = cc in omega arith
clicked_le Plate Press value result e = let h : 1 ≡ result = cc in omega arith
clicked_le Plate Leave value result e = let h : 0 ≡ result = cc in omega arith
clicked_le Weighted (Weigh weight) value result e = weighed_le (nat_lt 0 weight) (nat_le weight 15) weight result (leb-true weight 15) e
clicked_le Weighted Leave value result e = let h : 0 ≡ result = cc in omega arith
clicked_le _ _ value result e = cc

out_le : (component : Component) (value : ℕ) → value ≤ top component → out component value ≤ 15
out_le Weighted value h = h
out_le (Comparator subtract) value h = h
out_le Wire value h = omega arith
out_le _ value h = omega arith

out_at_le : (role : Option Component) (base : ℕ) (cell : Cell) → base ≤ 15 → BoundedAt role cell → out_at role base cell ≤ 15
out_at_le None base cell h b = h
out_at_le (Some component) base cell h b = out_le component cell.value b

-- In a bounded state no key gives more than 15.
pub outs_le : {K : Type 0} (C : Circuit K) → IsBounded C → (s : State K) → Bounded C s → (k : K) → outs C s k ≤ 15
outs_le C c s b k = out_at_le (C.role k) (C.base k) (s.cells k) (c.base k) (b.each k)

attended_bounded : {K : Type 0} (time : ℕ) (role : Option Component) (first : Bool) (reads : K → Readings) (k : K) (cell : Cell) → (reads k).back ≤ 15 → BoundedAt role cell → BoundedAt role (attended_at time role first reads k cell)
attended_bounded time None first reads k cell h b = tt
attended_bounded time (Some component) first reads k cell h b = attended_value_le component (reads k) cell.value h b

fired_bounded : {K : Type 0} (time : ℕ) (role : Option Component) (first : Bool) (reads : K → Readings) (k : K) (cell : Cell) → (reads k).back ≤ 15 → BoundedAt role cell → BoundedAt role (fired_at time role first reads k cell)
fired_bounded time None first reads k cell h b = tt
fired_bounded time (Some component) first reads k cell h b = fired_value_le component (reads k) cell.value h b

pub put_bounded : {K : Type 0} (C : Circuit K) → IsTest C.same → (s : State K) (key : K) (cell : Cell) → Bounded C s → BoundedAt (C.role key) cell → Bounded C (put C s key cell)
put_bounded C t s key cell b h = record {
  each = λ k.
      cond_both (C.same k key) cell (s.cells k) (BoundedAt (C.role k)) (λ e. subst (λ j. BoundedAt (C.role j) cell) (sym (t.one k key e)) h) (λ e. b.each k);
}

-- The start is bounded, and every event keeps it so.
pub bounded_is_invariant : {K : Type 0} (C : Circuit K) → IsTest C.same → IsBounded C → IsInvariant C (Bounded C)
bounded_is_invariant C t c = record {
  begins = record { each = c.begin };
  attends = λ s b. record { each = λ k. attended_bounded s.time (C.role k) (C.first k) (C.readings (outs C s)) k (s.cells k) (c.back (outs C s) (outs_le C c s b) k) (b.each k) };
  fires = λ s key b. put_bounded C t s key (fired_in C s key) b (fired_bounded s.time (C.role key) (C.first key) (C.readings (outs C s)) key (s.cells key) (c.back (outs C s) (outs_le C c s b) key) (b.each key));
  clicks = λ s key component click value b there takes. put_bounded C t s key (with_value (s.cells key) value) b (rw there (clicked_le component click (s.cells key).value value takes));
  passes = λ s b. record { each = b.each };
}
