-- One list is emptied, and what it held is to be looked at.
use Rattle.std.proofs.Common.{◌≡◌, ◌++◌, List, sym, ap, ◌∙◌, subst, set, get_or}
use Rattle.std.specs.Prelude.{Vec}
use Rattle.std.specs.declared.alloc.Global.{Global}
use Rattle.constant_fold.specs.declared.waits.Wait.{Wait}
use Rattle.constant_fold.specs.Tended.{IsEmptied}
use Rattle.constant_fold.proofs.WaitLists.{waiting_for-read, emptied_at}
use Rattle.constant_fold.proofs.waits.Waits.wake.Goals as goal

pub returns-clause-work : goal.returns-clause-work
returns-clause-work c = c.in_ok-append.ensures.items ∙ ap (λ (woken : List Wait). c.args.self.now.work.items ++ woken)
    (ap (λ (list : Vec Wait Global). list.items) c.replace-woken.ensures.value
    ∙ sym (waiting_for-read c.args.self.now.lists.items c.args.source c.index_mut.result.now c.requires
    (subst (λ n. c.index_mut.result.now ≡ get_or c.args.self.now.lists.items n c.index_mut.result.now) c.number.ensures c.index_mut.ensures.value)))

pub returns-clause-emptied : goal.returns-clause-emptied
returns-clause-emptied c = subst (λ n. IsEmptied c.args.self.now.lists.items (set c.args.self.now.lists.items n c.replace-woken.new.dest) c.args.source) (sym c.number.ensures)
    (emptied_at c.args.self.now.lists.items c.args.source c.replace-woken.new.dest c.requires
    (ap (λ (list : Vec Wait Global). list.items) c.replace-woken.ensures.after ∙ c.new-none.ensures.items))
