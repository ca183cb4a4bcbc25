use Rattle.std.proofs.Common.{List, ap, ◌∙◌, arith}
use Rattle.std.proofs.lemmas.List.{take_all}
use Rattle.graph.specs.declared.Link.{Link}
use Rattle.graph.specs.Edits.{change, add_link}
use Rattle.input_search.specs.Added.{with_links}
use Rattle.input_search.proofs.AddSteps.{add_start, add_more}
use Rattle.input_search.proofs.add.add_all.Goals as goal

pub loop-link-init : goal.loop-link-init
loop-link-init c = record {
  nodes = add_start c.args.graph.now.nodes c.args.to c.requires.fresh;
  room = omega (arith, c.requires.room);
  others = λ other apart. omega arith;
}

pub loop-link-preserved : goal.loop-link-preserved
loop-link-preserved c = record {
  nodes = add_more c.args.graph.now.nodes c.loop-link.graph.nodes c.add_in_room.new.graph.nodes c.args.to c.args.links.now c.loop-link.link-index c.link-item.result c.loop-link-test.true
      c.requires.to c.requires.groups c.loop-link.invariant.nodes (c.add_in_room.ensures.nodes ∙ ap (add_link c.loop-link.graph.nodes c.args.to) c.link-item.is);
  room = omega (arith, c.add_in_room.ensures.room, c.loop-link.invariant.room);
  others = λ other apart. omega (arith, c.loop-link.invariant.others other apart, c.add_in_room.ensures.others other apart);
}

pub returns-clause-nodes : goal.returns-clause-nodes
returns-clause-nodes c =
    c.loop-link.invariant.nodes
    ∙ ap (λ (links : List Link). change (with_links links) c.args.graph.now.nodes c.args.to) (take_all c.loop-link.link-index c.args.links.now c.loop-link-test.false)
