-- Where wires stand, and that one may step from a wire and step again.
use Rattle.std.proofs.Common.{◌≡◌, true, subst, sym, refl, arith}
use Rattle.block_table.specs.declared.Side.{Side}
use Rattle.block_table.specs.declared.Block.TheVariants.{Air}
use Rattle.circuit.specs.declared.Pos.{Pos}
use Rattle.build.specs.Place.{beside}
use Rattle.build.specs.Plan.{Plan, IsNear, IsNarrow, in_box}
use Rattle.build.specs.Places.{in_box-not_outside}
use Rattle.build.specs.Near.{near_inside, near_more, near_beside}
use Rattle.wire_shape.specs.Shape.{is_wire, wire_at}

-- a wire is in the box
pub wire_inside : (b : Plan) (p : Pos) → wire_at b p ≡ true → in_box b p ≡ true
wire_inside b p h = in_box-not_outside b b.blocks Air is_wire p refl h

pub near_first : (b : Plan) (p : Pos) → wire_at b p ≡ true → IsNarrow b → IsNear 3 p
near_first b p h n = near_more 0 3 p (omega arith) (near_inside b p n (wire_inside b p h))

pub near_second : (q : Pos) (side : Side) (p : Pos) (b : Plan) → q ≡ beside side p → wire_at b p ≡ true → IsNarrow b → IsNear 3 q
near_second q side p b e h n =
    near_more 1 3 q (omega arith) (subst (λ (r : Pos). IsNear 1 r) (sym e) (near_beside side p (near_inside b p n (wire_inside b p h))))
