-- One list has one node more.
use Rattle.std.proofs.Common.{◌<◌, sym, ◌∙◌, subst, length, slice_set}
use Rattle.circuit.specs.Circuit.{Among}
use Rattle.coalesce.specs.FanOuts.{targets_of}
use Rattle.coalesce.proofs.FanSteps.{among_more, among_last, keeps_set, added_set}
use Rattle.coalesce.proofs.fan_outs.FanOuts.add.Goals as goal

pub returns-clause-keeps : goal.returns-clause-keeps
returns-clause-keeps c =
    let within : c.number-2.result < length c.grow.new.self.lists.items = subst (λ n. n < length c.grow.new.self.lists.items) (c.number.ensures ∙ sym c.number-2.ensures) c.in_ok-grow.ensures.made in
    keeps_set c.args.self.now.lists.items c.grow.new.self.lists.items c.number-2.result c.index_mut.result.now c.push.new.self c.grow.ensures.same within c.index_mut.ensures.value
    (λ key a. subst (λ xs. Among xs key) (sym c.in_ok-push.ensures.items) (among_more c.index_mut.result.now.items c.args.key key a))

pub returns-clause-added : goal.returns-clause-added
returns-clause-added c =
    let within : c.number-2.result < length c.grow.new.self.lists.items = subst (λ n. n < length c.grow.new.self.lists.items) (c.number.ensures ∙ sym c.number-2.ensures) c.in_ok-grow.ensures.made in
    subst (λ n. Among (targets_of (slice_set c.grow.new.self.lists.items c.number-2.result c.push.new.self) n) c.args.key) c.number-2.ensures
    (added_set c.grow.new.self.lists.items c.number-2.result c.push.new.self c.args.key within
    (subst (λ xs. Among xs c.args.key) (sym c.in_ok-push.ensures.items) (among_last c.index_mut.result.now.items c.args.key)))
