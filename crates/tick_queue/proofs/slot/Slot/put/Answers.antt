use Rattle.std.proofs.Common.{◌++◌, ◌∷◌, [], ◌∙◌, ap}
use Rattle.tick_queue.proofs.NodeSteps.{held-push, full-push}
use Rattle.tick_queue.proofs.slot.Slot.put.Goals as goal

pub invariant_of-self : goal.invariant_of-self
invariant_of-self g c =
    let nodes = rw (c.unwrap.ensures, c.fill.ensures) at c.append.ensures.items in
    rw nodes (full-push _ _ c.self.invariant)

pub returns-clause-keys : goal.returns-clause-keys
returns-clause-keys g c =
    let nodes = rw (c.unwrap.ensures, c.fill.ensures) at c.append.ensures.items in
    rw nodes (held-push c.self.inside.nodes c.args.key ∙ ap (λ l. l ++ c.args.key ∷ []) c.self.view_is)
