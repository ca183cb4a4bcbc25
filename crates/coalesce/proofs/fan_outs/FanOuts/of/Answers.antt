-- One node more was listed, in the end all.
use Rattle.std.proofs.Common.{ℕ, sym, subst, get_or}
use Rattle.circuit.specs.Circuit.{Among}
use Rattle.graph.specs.declared.Link.{Link}
use Rattle.graph.specs.Graph.{HasLink}
use Rattle.coalesce.specs.FanOuts.{targets_of}
use Rattle.coalesce.proofs.FanSteps.{each_more, each_among, key_listed}
use Rattle.coalesce.proofs.fan_outs.FanOuts.of.Goals as goal

pub loop-key-preserved : goal.loop-key-preserved
loop-key-preserved c = each_more (λ key. (index : ℕ) (link : Link) → HasLink c.args.graph.now.nodes key index link → Among (targets_of c.add_node.new.self.lists.items link.from) key)
    c.args.keys.now c.loop-key.key-index c.key-item.result c.loop-key-test.true c.key-item.is
    (λ j h index link has. c.in_ok-add_node.ensures.keeps link.from (get_or c.args.keys.now j 0) (c.loop-key.invariant j h index link has))
    c.in_ok-add_node.ensures.all

pub returns : goal.returns
returns c = λ from. record {
  all = λ key index link has e.
      subst (λ f. Among (targets_of c.loop-key.fans.lists.items f) key) e
      (each_among (λ k. (index : ℕ) (link : Link) → HasLink c.args.graph.now.nodes k index link → Among (targets_of c.loop-key.fans.lists.items link.from) k)
      c.args.keys.now c.loop-key.key-index c.loop-key-test.false c.loop-key.invariant key
      (subst (λ xs. Among xs key) (sym c.requires) (key_listed c.args.graph.now.nodes key has.node has.there)) index link has);
}
