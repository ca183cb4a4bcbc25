-- Whoever answers to a click of a weight of 1 to 15 takes it.
use Rattle.graph.proofs.ClickSteps.{takes_where_answers, answers_where_takes}
use Rattle.graph.proofs.Graph.takes_click.Goals as goal

pub returns-clause-taken : goal.returns-clause-taken
returns-clause-taken c = λ r. rw (← c.self.view_is)
    ((λ t. takes_where_answers _ c.args.pos c.args.click r (c.has_answer.ensures.0 t)), (λ t. c.has_answer.ensures.1 (answers_where_takes _ c.args.pos c.args.click t)))
