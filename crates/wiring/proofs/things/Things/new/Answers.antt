use Rattle.std.proofs.Common.{◌≡◌, ℕ, sym, subst, arith}
use Rattle.build.specs.Plan.{Plan, volume}
use Rattle.wiring.specs.Things.{IsNumberedTo}
use Rattle.wiring.proofs.things.Things.new.Goals as goal

pub invariant_of-result : goal.invariant_of-result
invariant_of-result c =
    let b = c.in_ok-build.build in
    let all : c.loop-cell.cell ≡ volume b = omega arith in
    record {
      whole = c.cells.ensures.whole;
      to = subst (λ (i : ℕ). IsNumberedTo b i c.loop-cell.spots.items c.loop-cell.numbers) all
          (subst (λ (d : Plan). IsNumberedTo d c.loop-cell.cell c.loop-cell.spots.items c.loop-cell.numbers) (sym c.in_ok-build.ensures) c.loop-cell.invariant);
    }
