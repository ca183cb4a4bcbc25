-- What stands above is put in order.
use Rattle.std.proofs.lemmas.List.Sorted.{IsNonDecreasingBy-from_sort}
use Rattle.coalesce.specs.Looks.{members}
use Rattle.coalesce.proofs.LookSteps.{sorted_all, sorted_above}
use Rattle.coalesce.proofs.looks.Groups.above.Goals as goal

pub returns-clause-all : goal.returns-clause-all
returns-clause-all c = sorted_all c.args.least (members c.args.self.now.lists c.args.look) c.in_ok-keys.keys.items c.sort_unstable.new.self.items c.in_ok-keys.ensures c.sort_unstable.ensures.permutation

pub returns-clause-above : goal.returns-clause-above
returns-clause-above c = sorted_above c.args.least (members c.args.self.now.lists c.args.look) c.in_ok-keys.keys.items c.sort_unstable.new.self.items c.in_ok-keys.ensures c.sort_unstable.ensures.permutation

pub returns-clause-rise : goal.returns-clause-rise
returns-clause-rise c = IsNonDecreasingBy-from_sort (λ x. x) c.sort_unstable.new.self.items c.sort_unstable.ensures.sorted
