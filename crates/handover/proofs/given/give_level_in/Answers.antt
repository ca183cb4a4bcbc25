use Rattle.std.proofs.Common.{◌≡◌, false, sym, ap, ◌∙◌}
use Rattle.circuit.specs.declared.Pos.{Pos}
use Rattle.build.specs.Plan.{Plan, block_at, entry, has_level, place_of}
use Rattle.handover.specs.GivenBack.{given_level}
use Rattle.handover.specs.HeldByCell.{with_level_if}
use Rattle.handover.proofs.given.give_level_in.Goals as goal

pub returns-else-has_level : goal.returns-else-has_level
returns-else-has_level c =
    let b : Plan = c.args.build.now in
    let p : Pos = place_of b c.args.cell in
    let none : has_level (block_at b p) ≡ false = ap has_level (sym c.block_in.ensures.value) ∙ sym c.has_level.ensures ∙ c.if-has_level.false in
    sym (ap (λ has. with_level_if has c.args.after.now p (given_level c.args.held (block_at b p) (entry b b.levels 0 p))) none)
