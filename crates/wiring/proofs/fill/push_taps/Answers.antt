use Rattle.std.proofs.Common.{List, ℕ, [], ◌∷◌, ◌++◌, ap, ◌∙◌}
use Rattle.wiring.specs.Taps.{Tap}
use Rattle.wiring.specs.Reads.{tap_place}
use Rattle.wiring.specs.Things.{number_of}
use Rattle.wiring.specs.Wired.{numbers_of}
use Rattle.wiring.proofs.Joined.{joined_all, ones_joined}
use Rattle.wiring.proofs.fill.push_taps.Goals as goal

pub returns : goal.returns
returns c =
    joined_all (λ (tap : Tap). numbers_of c.args.things.now (tap_place tap ∷ [])) c.args.taps.now c.loop-tap.tap-index c.args.row.now.items c.loop-tap.row.items c.loop-tap-test.false c.loop-tap.invariant
    ∙ ap (λ (numbers : List ℕ). c.args.row.now.items ++ numbers) (ones_joined (number_of c.args.things.now) tap_place c.args.taps.now)
