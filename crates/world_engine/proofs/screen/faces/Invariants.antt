use Rattle.std.proofs.Common.{◌≡◌, map, take}
use Rattle.world_engine.specs.Screens.{face}
use Rattle.world_engine.proofs.screen.faces.Given as goal

abbrev pub invariant-loop-outlet : goal.invariant-loop-outlet
invariant-loop-outlet l = l.shown.items ≡ map (face l.levels l.cells.cells) (take l.outlet-index l.outlets)
