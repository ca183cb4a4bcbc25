use Rattle.std.proofs.Common.{List, Vec, Global, sym, subst, arith}
use Rattle.build.specs.Plan.{Plan}
use Rattle.graph.specs.declared.Link.{Link}
use Rattle.graph.specs.Graph.{Nodes}
use Rattle.input_search.specs.Added.{plain_lists, IsFitting, AreFilled}
use Rattle.input_search.specs.Numbers.{AreRanks, AreThere}
use Rattle.input_search.proofs.RawLinks.{spread_bare, there_bare, fitting_bare, raw_bare}
use Rattle.input_search.proofs.node_links.link.Goals as goal

pub numbers_of-requires-clause-spread : goal.numbers_of-requires-clause-spread
numbers_of-requires-clause-spread c = spread_bare c.args.build.now c.args.graph.now.nodes c.requires

pub numbers_of-requires-clause-there : goal.numbers_of-requires-clause-there
numbers_of-requires-clause-there c = subst (AreThere c.args.graph.now.nodes) (sym c.count_of-count.ensures) (there_bare c.args.build.now c.args.graph.now.nodes c.requires)

pub lists_of-requires : goal.lists_of-requires
lists_of-requires c = spread_bare c.args.build.now c.args.graph.now.nodes c.requires

pub reserve_all-requires : goal.reserve_all-requires
reserve_all-requires c key h =
    let b : Plan = c.args.build.now in
    let g : Nodes = c.args.graph.now.nodes in
    let ranks : AreRanks b g c.count_of-count.result c.in_ok-numbers.numbers = c.in_ok-numbers.ensures in
    let fits : IsFitting g c.in_ok-lists.lists.items =
    fitting_bare b g c.in_ok-numbers.numbers c.in_ok-lists.lists.items c.count_of-count.result c.requires c.count_of-count.ensures ranks c.in_ok-lists.ensures.length c.in_ok-lists.ensures.links in
    fits.live key (omega (arith, c.in_ok-lists.ensures.length))

pub add_lists-requires-clause-fitting : goal.add_lists-requires-clause-fitting
add_lists-requires-clause-fitting c =
    let b : Plan = c.args.build.now in
    let g : Nodes = c.args.graph.now.nodes in
    let ranks : AreRanks b g c.count_of-count.result c.in_ok-numbers.numbers = c.in_ok-numbers.ensures in
    let fits : IsFitting g c.in_ok-lists.lists.items =
    fitting_bare b g c.in_ok-numbers.numbers c.in_ok-lists.lists.items c.count_of-count.result c.requires c.count_of-count.ensures ranks c.in_ok-lists.ensures.length c.in_ok-lists.ensures.links in
    subst (λ (nodes : Nodes). IsFitting nodes c.deref-2.result.now) (sym c.in_ok-reserve_all.ensures.nodes)
    (subst (λ (lists : List (Vec Link Global)). IsFitting g lists) (sym c.deref-2.ensures.value) fits)

pub returns-clause-linked : goal.returns-clause-linked
returns-clause-linked c marks is =
    let b : Plan = c.args.build.now in
    let g : Nodes = c.args.graph.now.nodes in
    let ranks : AreRanks b g c.count_of-count.result c.in_ok-numbers.numbers = c.in_ok-numbers.ensures in
    let filled : AreFilled (plain_lists c.in_ok-lists.lists.items) g c.add_lists.new.graph.nodes =
    subst (λ (nodes : Nodes). AreFilled (plain_lists c.in_ok-lists.lists.items) nodes c.add_lists.new.graph.nodes) c.in_ok-reserve_all.ensures.nodes
    (subst (λ (lists : List (Vec Link Global)). AreFilled (plain_lists lists) c.reserve_all.new.graph.nodes c.add_lists.new.graph.nodes) c.deref-2.ensures.value c.add_lists.ensures) in
    raw_bare b marks g c.add_lists.new.graph.nodes c.in_ok-numbers.numbers c.in_ok-lists.lists.items c.count_of-count.result is c.count_of-count.ensures ranks c.in_ok-lists.ensures.length
    c.in_ok-lists.ensures.links filled
