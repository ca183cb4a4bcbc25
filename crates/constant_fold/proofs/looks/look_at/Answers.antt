-- The node can't be folded for good, waits for a source, or reads Constants alone.
use Rattle.std.proofs.Common.{List, sym, ◌∙◌, subst}
use Rattle.constant_fold.specs.declared.waits.Wait.{Wait}
use Rattle.constant_fold.specs.Tended.{AllTended}
use Rattle.constant_fold.proofs.TendSteps.{tended_stuck, tended_waiting, open_lives, looked_at}
use Rattle.constant_fold.proofs.looks.look_at.Goals as goal

pub returns-in_default-clause-found : goal.returns-in_default-clause-found
returns-in_default-clause-found c = tended_stuck c.args.graph.now.nodes c.args.wait.node c.args.waits.now.work.items c.args.waits.now.lists.items c.requires.tended (sym c.part_at.ensures ∙ c.in_default.is)

pub add-requires : goal.add-requires
add-requires c = c.requires.tended.room c.in-Some-next_open_link.found.source
    (open_lives c.args.graph.now.nodes c.args.wait.node c.in-Some-next_open_link.found.source c.in-Some-next_open_link.found.index c.requires.sound c.in-Some-next_open_link.ensures)

pub returns-in-Some-next_open_link-clause-found : goal.returns-in-Some-next_open_link-clause-found
returns-in-Some-next_open_link-clause-found c =
    subst (λ (work : List Wait). AllTended c.args.graph.now.nodes work c.add.new.self.lists.items) (sym c.add.ensures.work)
    (tended_waiting c.args.graph.now.nodes c.args.wait.node c.in-Some-next_open_link.found.source c.in-Some-next_open_link.found.index c.args.waits.now.work.items c.args.waits.now.lists.items c.add.new.self.lists.items
    c.requires.tended c.in-Some-next_open_link.ensures c.in_ok-add.ensures.added)

pub returns-clause-found : goal.returns-clause-found
returns-clause-found c = looked_at c.args.graph.now.nodes c.args.wait.node c.args.waits.now.work.items c.args.waits.now.lists.items c.in-Some.component c.rest_value_at.result c.requires.tended (sym c.in-Some.ensures)
    c.in_default-next_open_link.ensures c.rest_value_at.ensures
