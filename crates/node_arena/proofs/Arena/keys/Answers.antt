-- The keys with a place are those that hold an item.
use Rattle.std.proofs.Common.{sym, ◌∙◌, ap}
use Rattle.node_arena.specs.Items.{Items, keys_of}
use Rattle.std.proofs.lemmas.Result.{IfOk-weaker}
use Rattle.node_arena.proofs.LayoutSteps.{keys-entries}
use Rattle.node_arena.proofs.Arena.keys.Goals as goal

pub returns : goal.returns
returns g c = IfOk-weaker c.keys_in_use.result _ _
    (λ keys e. e ∙ ap keys_of c.deref.ensures.value ∙ sym (keys-entries c.self.inside.slots c.self.inside.places.items 0 c.self.invariant.holds) ∙ ap (λ (items : Items g.row.T.Denot). keys_of items.entries) c.self.view_is)
    c.keys_in_use.ensures
