-- One node more was put in, in the end all.
use Rattle.std.proofs.Common.{get_or}
use Rattle.coalesce.specs.Looks.{IsGrouped}
use Rattle.coalesce.proofs.FanSteps.{each_more, each_among}
use Rattle.coalesce.proofs.looks.Groups.add_all.Goals as goal

pub loop-key-preserved : goal.loop-key-preserved
loop-key-preserved c = record {
  keeps = λ look key a. c.in_ok-add.ensures.keeps look key (c.loop-key.invariant.keeps look key a);
  all = each_more (λ key. IsGrouped c.args.graph.now.nodes c.add.new.self.lists key) c.args.keys.now c.loop-key.key-index c.key-item.result c.loop-key-test.true c.key-item.is
      (λ j h look e. c.in_ok-add.ensures.keeps look (get_or c.args.keys.now j 0) (c.loop-key.invariant.all j h look e)) c.in_ok-add.ensures.added;
}

pub returns-clause-all : goal.returns-clause-all
returns-clause-all c = λ key a.
    each_among (λ k. IsGrouped c.args.graph.now.nodes c.loop-key.self.lists k) c.args.keys.now c.loop-key.key-index c.loop-key-test.false c.loop-key.invariant.all key a
