-- The slab holds one item for each place.
use Rattle.std.proofs.Common.{sym, ◌∙◌, ap}
use Rattle.std.specs.Prelude.{count_by, is_some}
use Rattle.node_arena.specs.Items.{Items}
use Rattle.node_arena.proofs.LayoutSteps.{count-entries}
use Rattle.node_arena.proofs.Arena.len.Goals as goal

pub returns : goal.returns
returns g c = c.len.ensures ∙ c.self.invariant.counted ∙ sym (count-entries c.self.inside.slots c.self.inside.places.items c.self.invariant.holds)
    ∙ ap (λ (items : Items g.row.T.Denot). count_by is_some items.entries) c.self.view_is
