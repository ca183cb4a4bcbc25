use Rattle.std.proofs.Common.{List, ℕ, sym, ap, ◌∙◌}
use Rattle.std.specs.List.{list_all}
use Rattle.plain_machine.specs.Good.{is_key_good}
use Rattle.plain_machine.proofs.GoodSteps.{sound_where_good}
use Rattle.plain_machine.proofs.good.is_good.Goals as goal

pub returns-clause-sound : goal.returns-clause-sound
returns-clause-sound c =
    let nodes = c.args.graph.now.nodes in
    let answer = c.are_keys_good.ensures ∙ ap (λ (keys : List ℕ). list_all (is_key_good nodes) keys) (c.deref.ensures.value ∙ c.in_ok-keys.ensures) in
    λ good. sound_where_good nodes (sym answer ∙ good)
