use Rattle.std.proofs.Common.{refl, arith}
use Rattle.graph_machine.proofs.ScreenSteps.{refaced_put, refaced_past}
use Rattle.graph_machine.proofs.screen.show.Goals as goal

pub face-requires : goal.face-requires
face-requires c = omega (arith, c.requires.placed.inside _ c.if-place-keys.true, c.requires.count)

pub returns-else-place-keys-clause-refaced : goal.returns-else-place-keys-clause-refaced
returns-else-place-keys-clause-refaced c =
    refaced_past c.args.net.now c.args.cells.now.cells c.args.keys.now c.args.places.now c.args.shown.now.items c.args.key c.requires.placed c.requires.whole _ refl (omega (arith, c.requires.whole, c.if-place-keys.false))

pub returns-then-place-keys-clause-refaced : goal.returns-then-place-keys-clause-refaced
returns-then-place-keys-clause-refaced c =
    refaced_put c.args.net.now c.args.cells.now.cells c.args.keys.now c.args.places.now c.args.shown.now.items c.args.key c.requires.placed c.requires.whole _ _ refl (omega (arith, c.requires.whole, c.if-place-keys.true)) c.face.ensures
