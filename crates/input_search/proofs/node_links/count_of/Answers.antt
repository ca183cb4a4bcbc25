use Rattle.std.proofs.Common.{◌∙◌, arith}
use Rattle.input_search.proofs.RawLinks.{count_bare, few_bare}
use Rattle.input_search.proofs.node_links.count_of.Goals as goal

pub overflow_cast-result : goal.overflow_cast-result
overflow_cast-result c =
    omega (arith, c.node_count.ensures, count_bare c.args.build.now c.args.graph.now.nodes c.requires, few_bare c.args.build.now c.args.graph.now.nodes c.requires, c.cells-cells.ensures.count, c.cells-cells.ensures.small)

pub returns : goal.returns
returns c = c.node_count.ensures ∙ count_bare c.args.build.now c.args.graph.now.nodes c.requires
