-- Places near a box.
use Rattle.std.proofs.Common.{◌≡◌, ℕ, ◌≤◌, true, subst, sym, arith}
use Rattle.std.proofs.lemmas.Int.{ints}
use Rattle.block_table.specs.declared.Side.{Side}
use Rattle.block_table.specs.declared.Side.TheVariants.{Down, Up, North, South, West, East}
use Rattle.circuit.specs.declared.Pos.{Pos}
use Rattle.build.specs.Place.{beside}
use Rattle.build.specs.Plan.{Plan, IsNear, IsNarrow, in_box}
use Rattle.build.specs.Places.{inside}

pub near_inside : (b : Plan) (p : Pos) → IsNarrow b → in_box b p ≡ true → IsNear 0 p
near_inside b p n h =
    let i = inside b p h in
    record {
      x_low = omega (arith, ints, i.x_is);
      x_high = omega (arith, ints, i.x_is, i.x_below, n.width);
      y_low = omega (arith, ints, i.y_is);
      y_high = omega (arith, ints, i.y_is, i.y_below, n.height);
      z_low = omega (arith, ints, i.z_is);
      z_high = omega (arith, ints, i.z_is, i.z_below, n.depth);
    }

pub near_more : (m n : ℕ) (p : Pos) → m ≤ n → IsNear m p → IsNear n p
near_more m n p l h = record { x_low = grind (arith, ints, h.x_low); x_high = omega (arith, ints, h.x_high); y_low = grind (arith, ints, h.y_low); y_high = omega (arith, ints, h.y_high); z_low = grind (arith, ints, h.z_low); z_high = omega (arith, ints, h.z_high) }

-- one step leads one place further
pub near_beside : (side : Side) (p : Pos) → IsNear 0 p → IsNear 1 (beside side p)
near_beside Down p h = record { x_low = omega (arith, ints, h.x_low); x_high = omega (arith, ints, h.x_high); y_low = omega (arith, ints, h.y_low); y_high = omega (arith, ints, h.y_high); z_low = omega (arith, ints, h.z_low); z_high = omega (arith, ints, h.z_high) }
near_beside Up p h = record { x_low = omega (arith, ints, h.x_low); x_high = omega (arith, ints, h.x_high); y_low = omega (arith, ints, h.y_low); y_high = omega (arith, ints, h.y_high); z_low = omega (arith, ints, h.z_low); z_high = omega (arith, ints, h.z_high) }
near_beside North p h = record { x_low = omega (arith, ints, h.x_low); x_high = omega (arith, ints, h.x_high); y_low = omega (arith, ints, h.y_low); y_high = omega (arith, ints, h.y_high); z_low = omega (arith, ints, h.z_low); z_high = omega (arith, ints, h.z_high) }
near_beside South p h = record { x_low = omega (arith, ints, h.x_low); x_high = omega (arith, ints, h.x_high); y_low = omega (arith, ints, h.y_low); y_high = omega (arith, ints, h.y_high); z_low = omega (arith, ints, h.z_low); z_high = omega (arith, ints, h.z_high) }
near_beside West p h = record { x_low = omega (arith, ints, h.x_low); x_high = omega (arith, ints, h.x_high); y_low = omega (arith, ints, h.y_low); y_high = omega (arith, ints, h.y_high); z_low = omega (arith, ints, h.z_low); z_high = omega (arith, ints, h.z_high) }
near_beside East p h = record { x_low = omega (arith, ints, h.x_low); x_high = omega (arith, ints, h.x_high); y_low = omega (arith, ints, h.y_low); y_high = omega (arith, ints, h.y_high); z_low = omega (arith, ints, h.z_low); z_high = omega (arith, ints, h.z_high) }

pub near_step : (p : Pos) → IsNear 1 p → IsNear 3 p
near_step p h = near_more 1 3 p (omega arith) h

-- beside a place in the box
pub near_next : (q : Pos) (side : Side) (p : Pos) (b : Plan) → q ≡ beside side p → in_box b p ≡ true → IsNarrow b → IsNear 1 q
near_next q side p b e h n = subst (λ (r : Pos). IsNear 1 r) (sym e) (near_beside side p (near_inside b p n h))

pub near_inside_three : (b : Plan) (p : Pos) → in_box b p ≡ true → IsNarrow b → IsNear 3 p
near_inside_three b p h n = near_more 0 3 p (omega arith) (near_inside b p n h)

pub near_two : (q : Pos) (side : Side) (p : Pos) (b : Plan) → q ≡ beside side p → in_box b p ≡ true → IsNarrow b → IsNear 3 q
near_two q side p b e h n = near_more 1 3 q (omega arith) (near_next q side p b e h n)
