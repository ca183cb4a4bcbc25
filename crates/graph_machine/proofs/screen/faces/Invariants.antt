use Rattle.std.proofs.Common.{◌≡◌, map, take}
use Rattle.graph_machine.specs.Screens.{face}
use Rattle.graph_machine.proofs.screen.faces.Given as goal

abbrev pub invariant-loop-key : goal.invariant-loop-key
invariant-loop-key l = l.shown.items ≡ map (face l.net l.cells.cells) (take l.key-index l.keys)
