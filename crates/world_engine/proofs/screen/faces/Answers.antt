use Rattle.std.proofs.Common.{arith}
use Rattle.world_engine.proofs.screen.faces.Goals as goal

pub face-requires-clause-levels : goal.face-requires-clause-levels
face-requires-clause-levels c = λ n has. omega (arith, (c.requires.placed.each c.loop-outlet.outlet-index n has).0, c.requires.levels)

pub face-requires-clause-cells : goal.face-requires-clause-cells
face-requires-clause-cells c = λ n has. omega (arith, (c.requires.placed.each c.loop-outlet.outlet-index n has).0, c.requires.cells)
