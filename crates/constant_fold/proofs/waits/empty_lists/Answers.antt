-- One empty list more.
use Rattle.std.proofs.Common.{◌≡◌, ◌+◌, List, [], ap, sym, ◌∙◌, subst, arith, length}
use Rattle.std.specs.Prelude.{Vec}
use Rattle.std.specs.declared.alloc.Global.{Global}
use Rattle.constant_fold.specs.declared.waits.Wait.{Wait}
use Rattle.constant_fold.specs.Tended.{waiting_for}
use Rattle.constant_fold.proofs.WaitLists.{waiting_for-more, length-more}
use Rattle.constant_fold.proofs.waits.empty_lists.Goals as goal

pub loop-preserved : goal.loop-preserved
loop-preserved c = record {
  empty = λ source. subst (λ (lists : List (Vec Wait Global)). waiting_for lists source ≡ []) (sym c.in_ok-push.ensures.items) (waiting_for-more c.loop.lists.items c.new.result c.loop.invariant.empty c.new.ensures.items source);
  count = ap (λ (lists : List (Vec Wait Global)). length lists) c.in_ok-push.ensures.items ∙ length-more c.loop.lists.items c.new.result ∙ ap (λ n. n + 1) c.loop.invariant.count;
}

pub returns-clause-count : goal.returns-clause-count
returns-clause-count c = omega (arith, c.loop.invariant.count, c.loop.auto.counter-end, c.loop-test.false)
