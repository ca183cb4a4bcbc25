-- One list grows.
use Rattle.std.proofs.Common.{◌≡◌, sym, subst, set, get_or}
use Rattle.constant_fold.specs.Tended.{IsAdded}
use Rattle.constant_fold.proofs.WaitLists.{added_at}
use Rattle.constant_fold.proofs.waits.Waits.add.Goals as goal

pub returns-clause-added : goal.returns-clause-added
returns-clause-added c = subst (λ n. IsAdded c.args.self.now.lists.items (set c.args.self.now.lists.items n c.push.new.self) c.args.source c.args.wait) (sym c.number.ensures)
    (added_at c.args.self.now.lists.items c.args.source c.index_mut.result.now c.push.new.self c.args.wait c.requires
    (subst (λ n. c.index_mut.result.now ≡ get_or c.args.self.now.lists.items n c.index_mut.result.now) c.number.ensures c.index_mut.ensures.value) c.in_ok-push.ensures.items)
