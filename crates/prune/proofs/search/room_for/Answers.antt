-- The last of the keys is the greatest.
use Rattle.std.proofs.Common.{◌≡◌, ◌-◌, Some, length, arith, ◌∙◌, sym, ap}
use Rattle.std.specs.Prelude.{slice_get}
use Rattle.std.specs.Option.{option_copied}
use Rattle.prune.proofs.KeySteps.{below_last}
use Rattle.prune.proofs.search.room_for.Goals as goal

pub returns-in-Some : goal.returns-in-Some
returns-in-Some c =
    let last : slice_get c.args.keys.now (length c.args.keys.now - 1) ≡ Some c.in-Some.key.now = sym c.last.ensures.value ∙ ap option_copied c.in-Some.is in
    λ key a. omega (arith, below_last c.args.keys.now c.in-Some.key.now c.requires last key a)
