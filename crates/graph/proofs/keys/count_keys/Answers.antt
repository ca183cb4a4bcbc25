use Rattle.std.proofs.Common.{◌<◌, ℕ, ◌∙◌, subst, arith, List}
use Rattle.std.specs.Prelude.{All}
use Rattle.graph.proofs.KeyBounds.{keys_above}
use Rattle.graph.proofs.keys.count_keys.Goals as goal

pub returns-clause-past : goal.returns-clause-past
returns-clause-past c key past =
    keys_above 0 c.args.graph.now.nodes c.count_of.result (subst (λ (l : List ℕ). All (λ k. k < c.count_of.result) l) (c.deref.ensures.value ∙ c.in_ok-keys.ensures) c.count_of.ensures.above) key (omega (arith, past))
