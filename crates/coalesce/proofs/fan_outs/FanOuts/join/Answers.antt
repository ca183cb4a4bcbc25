-- All targets were listed, one after another.
use Rattle.std.proofs.Common.{◌≡◌, sym, ◌∙◌, subst}
use Rattle.circuit.specs.Circuit.{Among}
use Rattle.coalesce.specs.FanOuts.{targets_of}
use Rattle.coalesce.proofs.FanSteps.{each_among}
use Rattle.coalesce.proofs.fan_outs.FanOuts.join.Goals as goal

pub returns-clause-joined : goal.returns-clause-joined
returns-clause-joined c = λ key a.
    let items : targets_of c.args.self.now.lists.items c.args.gone ≡ c.deref-key-items.result.now = sym (c.deref-key-items.ensures.value ∙ c.in_ok-gained.ensures.items ∙ c.targets.ensures) in
    each_among (λ k. Among (targets_of c.loop-key.self.lists.items c.args.keep) k) c.deref-key-items.result.now c.loop-key.key-index c.loop-key-test.false c.loop-key.invariant.joined key
    (subst (λ xs. Among xs key) items a)
