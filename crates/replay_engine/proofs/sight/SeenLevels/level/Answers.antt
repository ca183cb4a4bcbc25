use Rattle.std.proofs.Common.{ℕ, ◌≤◌, sym, subst}
use Rattle.replay_engine.specs.Given.{held-le}
use Rattle.replay_engine.proofs.sight.SeenLevels.level.Goals as goal

pub returns-then-wire_at-clause-small : goal.returns-then-wire_at-clause-small
returns-then-wire_at-clause-small c =
    let seen = c.args.self.now in
    subst (λ (n : ℕ). n ≤ 15) (sym c.power_at.ensures) (held-le seen.given.things.now seen.powers.now seen.powers_small c.args.pos)
