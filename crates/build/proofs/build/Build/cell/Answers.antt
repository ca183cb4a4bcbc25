use Rattle.std.proofs.Common.{◌+◌, ◌*◌, arith, sym, ◌∙◌, refl, None, Some}
use Rattle.build.specs.Coordinate.{placed}
use Rattle.build.specs.contracts.build.Build.{the_view}
use Rattle.build.specs.Places.{found_below}
use Rattle.build.proofs.FoundCells.{found-when, coordinate_small, small_product, large_product}
use Rattle.build.proofs.build.Build.cell.Goals as goal

pub returns-in_err-x-clause-found : goal.returns-in_err-x-clause-found
returns-in_err-x-clause-found c = c.from_residual.ensures ∙ rw (← c.self.view_is) (found-when (the_view c.self.inside) c.args.pos None (placed c.self.inside.height c.args.pos.y) (placed c.self.inside.length c.args.pos.z) (sym (c.in_err-x.was) ∙ c.within.ensures) refl refl)

pub returns-in_err-y-clause-found : goal.returns-in_err-y-clause-found
returns-in_err-y-clause-found c = c.from_residual-in_err-y.ensures ∙ rw (← c.self.view_is) (found-when (the_view c.self.inside) c.args.pos (Some c.in_ok-x.x) None (placed c.self.inside.length c.args.pos.z) (sym (c.in_ok-x.was) ∙ c.within.ensures) (sym (c.in_err-y.was) ∙ c.within-2.ensures) refl)

pub returns-in_err-z-clause-found : goal.returns-in_err-z-clause-found
returns-in_err-z-clause-found c = c.from_residual-in_err-z.ensures ∙ rw (← c.self.view_is) (found-when (the_view c.self.inside) c.args.pos (Some c.in_ok-x.x) (Some c.in_ok-y.y) None (sym (c.in_ok-x.was) ∙ c.within.ensures) (sym (c.in_ok-y.was) ∙ c.within-2.ensures) (sym (c.in_err-z.was) ∙ c.within-3.ensures))

pub overflow_mul-result : goal.overflow_mul-result
overflow_mul-result c = omega (arith, small_product c.in_ok-y.y c.self.inside.length (coordinate_small _ _ _ c.self.invariant.low c.in_ok-y.ensures) c.self.invariant.shallow)

pub overflow_add-result : goal.overflow_add-result
overflow_add-result c = omega (arith, small_product c.in_ok-y.y c.self.inside.length (coordinate_small _ _ _ c.self.invariant.low c.in_ok-y.ensures) c.self.invariant.shallow, coordinate_small _ _ _ c.self.invariant.shallow c.in_ok-z.ensures)

pub overflow_mul-result-2 : goal.overflow_mul-result-2
overflow_mul-result-2 c =
    let small = small_product c.in_ok-y.y c.self.inside.length (coordinate_small _ _ _ c.self.invariant.low c.in_ok-y.ensures) c.self.invariant.shallow in
    let z = coordinate_small _ _ _ c.self.invariant.shallow c.in_ok-z.ensures in
    omega (arith, large_product (c.in_ok-z.z + c.in_ok-y.y * c.self.inside.length) c.self.inside.width (omega arith) c.self.invariant.narrow)

pub overflow_add-result-2 : goal.overflow_add-result-2
overflow_add-result-2 c =
    let small = small_product c.in_ok-y.y c.self.inside.length (coordinate_small _ _ _ c.self.invariant.low c.in_ok-y.ensures) c.self.invariant.shallow in
    let z = coordinate_small _ _ _ c.self.invariant.shallow c.in_ok-z.ensures in
    omega (arith, large_product (c.in_ok-z.z + c.in_ok-y.y * c.self.inside.length) c.self.inside.width (omega arith) c.self.invariant.narrow, coordinate_small _ _ _ c.self.invariant.narrow c.in_ok-x.ensures)

pub returns-clause-found : goal.returns-clause-found
returns-clause-found c = rw (← c.self.view_is) (found-when (the_view c.self.inside) c.args.pos (Some c.in_ok-x.x) (Some c.in_ok-y.y) (Some c.in_ok-z.z) (sym (c.in_ok-x.was) ∙ c.within.ensures) (sym (c.in_ok-y.was) ∙ c.within-2.ensures) (sym (c.in_ok-z.was) ∙ c.within-3.ensures))

pub returns-clause-below : goal.returns-clause-below
returns-clause-below c = found_below c.args.self.now c.args.pos _ (sym (returns-clause-found c))

pub returns-clause-small : goal.returns-clause-small
returns-clause-small c =
    let small = small_product c.in_ok-y.y c.self.inside.length (coordinate_small _ _ _ c.self.invariant.low c.in_ok-y.ensures) c.self.invariant.shallow in
    let z = coordinate_small _ _ _ c.self.invariant.shallow c.in_ok-z.ensures in
    omega (arith, large_product (c.in_ok-z.z + c.in_ok-y.y * c.self.inside.length) c.self.inside.width (omega arith) c.self.invariant.narrow, coordinate_small _ _ _ c.self.invariant.narrow c.in_ok-x.ensures)
