use Rattle.std.proofs.Common.{◌≡◌, ◌<◌, arith, ◌+◌, ◌==◌, ◌++◌, ◌∷◌, [], ◌∙◌, ap, sym, subst, set, get_or, length}
use Rattle.graph.specs.declared.Link.{Link}
use Rattle.link_counts.specs.Counted.{count_at, one_if}
use Rattle.graph_machine.specs.Counted.{row}
use Rattle.std.specs.Prelude.{◌&&◌}
use Rattle.graph.specs.Links.{is_group}
use Rattle.graph_machine.specs.Wired.{given}
use Rattle.graph_machine.proofs.WiringSteps.{wires_more, count_few}
use Rattle.graph_machine.proofs.wiring.wire_links.Goals as goal

pub loop-link-preserved : goal.loop-link-preserved
loop-link-preserved c =
    let link = c.link-item.result in
    let here : link ≡ get_or c.args.links.now c.loop-link.link-index link = c.link-item.is in
    let from : link.from < length c.args.rows.now = subst (λ (l : Link). l.from < length c.args.rows.now) (sym here) (c.requires.from c.loop-link.link-index link c.loop-link-test.true) in
    wires_more (given c.args.outs.now) c.args.key c.args.links.now c.loop-link.link-index link c.loop-link.counts c.add.new.self c.args.rows.now c.loop-link.rows c.add-in-loop-link.new.self
    c.loop-link-test.true here from c.requires.inside c.loop-link.invariant
    (λ group strength. c.add.ensures group strength ∙ ap (λ n. count_at c.loop-link.counts group strength + one_if (is_group group link.group && (n == strength))) c.strength_of.ensures)
    (c.in_ok-add.ensures.ok ∙ ap (λ n. set c.loop-link.rows n (row c.loop-link.rows n ++ record { to = c.args.key; group = link.group; weight = link.weight } ∷ [])) c.number-from.ensures)

pub add-requires-clause-few : goal.add-requires-clause-few
add-requires-clause-few c =
    count_few (given c.args.outs.now) c.args.key c.args.links.now c.loop-link.link-index c.loop-link.counts c.args.rows.now c.loop-link.rows c.link-item.result.group c.strength_of.result (omega (arith, c.strength_of.ensures, c.requires.small c.link-item.result.from)) c.loop-link-test.true c.requires.few
    c.loop-link.invariant
