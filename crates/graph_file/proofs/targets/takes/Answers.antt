use Rattle.std.proofs.Common.{◌≡◌, true, sym, ◌∙◌}
use Rattle.std.specs.List.{list_any}
use Rattle.graph.specs.Clicks.{answers_at}
use Rattle.graph_file.specs.Targets.{is_weighable}
use Rattle.graph_file.proofs.TargetSteps.{any_answer, answer_any, same_test}
use Rattle.graph_file.proofs.targets.takes.Goals as goal

pub returns-then-is_weighable : goal.returns-then-is_weighable
returns-then-is_weighable c =
    let weighable : is_weighable c.args.click ≡ true = sym c.is_weighable.ensures ∙ c.if-is_weighable.true in
    let g = c.args.graph.now.nodes in
    let found : c.takes_click.result ≡ list_any (λ entry. answers_at entry c.args.pos c.args.click) g =
    same_test c.takes_click.result _ (λ t. any_answer g c.args.pos c.args.click (c.takes_click.ensures.answer.0 t)) (λ t. c.takes_click.ensures.answer.1 (answer_any g c.args.pos c.args.click t)) in
    rw weighable found
