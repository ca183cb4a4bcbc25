-- A node with a look stands in the graph.
use Rattle.std.proofs.Common.{sym, ◌∙◌}
use Rattle.coalesce.proofs.WaitSteps.{on_ok_few}
use Rattle.coalesce.proofs.waiting.Waiting.add.Goals as goal

pub returns-in-Some-clause-few : goal.returns-in-Some-clause-few
returns-in-Some-clause-few c = on_ok_few c.args.graph.now.nodes c.args.key c.number.result c.in-Some.field-0 c.args.self.now.numbers c.put.new.self.numbers c.put.result c.number.ensures (sym c.look_of.ensures ∙ c.in-Some.is) c.requires
    c.put.ensures.no_other c.put.ensures.few
