use Rattle.std.proofs.Common.{◌+◌, ℕ, sym, subst, ap, ◌∙◌, arith}
use Rattle.std.proofs.lemmas.Result.{on_ok_weaker}
use Rattle.input_search.specs.Numbers.{node_place, AreNodeCells}
use Rattle.graph.specs.Graph.{node_at}
use Rattle.input_search.proofs.RankSteps.{all_below, one_more}
use Rattle.input_search.proofs.node_links.number_node.Goals as goal

pub list_place-requires-clause-rising : goal.list_place-requires-clause-rising
list_place-requires-clause-rising c =
    all_below c.args.build.now c.args.graph.now.nodes c.requires.spread c.args.number c.args.numbers.now (λ key h. c.requires.there key (omega arith)) c.requires.before
    c.in-Some.pos (ap (λ (key : ℕ). node_place (node_at c.args.graph.now.nodes key)) (sym c.new.ensures) ∙ sym c.in-Some.ensures)

pub returns : goal.returns
returns c =
    on_ok_weaker c.list_place.result
    (λ e. subst (AreNodeCells c.args.build.now c.args.graph.now.nodes (c.args.number + 1)) (sym e)
    (one_more c.args.build.now c.args.graph.now.nodes c.args.number c.args.numbers.now c.in-Some.pos (ap (λ (key : ℕ). node_place (node_at c.args.graph.now.nodes key)) (sym c.new.ensures) ∙ sym c.in-Some.ensures) c.requires.before))
    c.list_place.ensures
