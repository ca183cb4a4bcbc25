-- Behind the Back links.
use Rattle.std.proofs.Common.{◌∙◌, ap}
use Rattle.std.specs.Prelude.{insert}
use Rattle.graph.proofs.GroupSteps.{insert_back}
use Rattle.graph.proofs.edits.place_for.Goals as goal

pub returns-in-Back-clause-put : goal.returns-in-Back-clause-put
returns-in-Back-clause-put c = λ link e. ap (λ n. insert c.args.links.now n link) c.count_of_back_links.ensures ∙ insert_back c.args.links.now link c.requires (e ∙ c.in-Back.is)
