use Rattle.std.proofs.Common.{◌<◌, ℕ, length, ap, ◌∙◌, arith}
use Rattle.std.proofs.lemmas.List.{length-map}
use Rattle.std.proofs.Common.{Vec, Global}
use Rattle.graph.specs.declared.Link.{Link}
use Rattle.graph.specs.Graph.{node_at}
use Rattle.input_search.specs.Added.{plain_lists, links_under}
use Rattle.input_search.proofs.FillSteps.{next_fresh}
use Rattle.input_search.proofs.node_links.add_lists.Goals as goal

pub add_all-requires-clause-fresh : goal.add_all-requires-clause-fresh
add_all-requires-clause-fresh c =
    let more : c.loop-number.number < length (plain_lists c.args.lists.now) = omega (arith, c.requires.all, length-map c.args.lists.now (λ (list : Vec Link Global). list.items)) in
    ap (λ (key : ℕ). links_under (node_at c.loop-number.graph.nodes key)) c.new.ensures
    ∙ next_fresh (plain_lists c.args.lists.now) c.loop-number.number c.args.graph.now.nodes c.loop-number.graph.nodes more c.loop-number.invariant.filled
