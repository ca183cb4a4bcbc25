use Rattle.std.proofs.Common.{refl, arith}
use Rattle.world_engine.proofs.ScreenSteps.{refaced_put, refaced_past}
use Rattle.world_engine.proofs.screen.show.Goals as goal

pub face-requires-clause-levels : goal.face-requires-clause-levels
face-requires-clause-levels c = λ n has. omega (arith, (c.requires.placed.each _ n has).0, c.requires.levels)

pub face-requires-clause-cells : goal.face-requires-clause-cells
face-requires-clause-cells c = λ n has. omega (arith, (c.requires.placed.each _ n has).0, c.requires.cells)

pub returns-else-place-outlets-clause-refaced : goal.returns-else-place-outlets-clause-refaced
returns-else-place-outlets-clause-refaced c =
    refaced_past c.args.levels.now c.args.cells.now.cells c.args.outlets.now c.args.places.now c.args.shown.now.items c.args.number c.requires.placed c.requires.whole _ refl (omega (arith, c.requires.whole, c.if-place-outlets.false))

pub returns-then-place-outlets-clause-refaced : goal.returns-then-place-outlets-clause-refaced
returns-then-place-outlets-clause-refaced c =
    refaced_put c.args.levels.now c.args.cells.now.cells c.args.outlets.now c.args.places.now c.args.shown.now.items c.args.number c.requires.placed c.requires.whole _ _ refl (omega (arith, c.requires.whole, c.if-place-outlets.true)) c.face.ensures
