-- One node more was put in, in the end all.
use Rattle.std.proofs.Common.{◌≡◌, Some, get_or}
use Rattle.coalesce.specs.declared.looks.Look.{Look}
use Rattle.coalesce.specs.Looks.{look_at}
use Rattle.coalesce.specs.Waiting.{Waits}
use Rattle.coalesce.proofs.FanSteps.{each_more, each_among}
use Rattle.coalesce.proofs.waiting.Waiting.add_all.Goals as goal

pub loop-key-preserved : goal.loop-key-preserved
loop-key-preserved c = record {
  few = c.in_ok-add.ensures.few;
  keeps = λ key waits. c.in_ok-add.ensures.keeps key (c.loop-key.invariant.keeps key waits);
  all = each_more (λ key. (look : Look) → look_at c.args.graph.now.nodes key ≡ Some look → Waits c.add.new.self.numbers key) c.args.keys.now c.loop-key.key-index c.key-item.result c.loop-key-test.true c.key-item.is
      (λ j h look e. c.in_ok-add.ensures.keeps (get_or c.args.keys.now j 0) (c.loop-key.invariant.all j h look e)) c.in_ok-add.ensures.added;
}

pub returns-clause-all : goal.returns-clause-all
returns-clause-all c = λ key look a e.
    each_among (λ k. (seen : Look) → look_at c.args.graph.now.nodes k ≡ Some seen → Waits c.loop-key.self.numbers k) c.args.keys.now c.loop-key.key-index c.loop-key-test.false c.loop-key.invariant.all key a look e
