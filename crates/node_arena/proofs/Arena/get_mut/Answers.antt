use Rattle.std.proofs.Common.{◌≡◌, Some, None, ◌∙◌, rules}
use Rattle.std.specs.Prelude.{slice_index_or}
use Rattle.std.specs.Option.{ghost_name_of}
use Rattle.slab.specs.Slab.{with_value}
use Rattle.node_arena.specs.Layout.{items_of}
use Rattle.node_arena.specs.Lending.{with_item}
use Rattle.node_arena.proofs.EntrySteps.{view_with_value, entry_at_key}
use Rattle.node_arena.proofs.Arena.get_mut.Goals as goal
use borrow.Follows.Closed.{read_of}

pub returns : goal.returns
returns g c =
    let place_at : slice_index_or c.self.inside.places.items c.key.inside.number None ≡ Some c.in-Some.place = search rules in
    let h : (w : g.row.T.Denot) → items_of (with_value c.self.inside.slots c.in-Some.place w) c.self.inside.places.items c.self.inside.spare ≡ with_item c.args.self.now c.args.key w =
    λ w. rw (← c.self.view_is, ← c.key.view_is) (view_with_value c.self.inside.slots c.self.inside.places.items _ _ c.in-Some.place c.key.inside.number w c.self.invariant place_at) in (
      (λ i. read_of (ghost_name_of c.get_mut.result) (λ w. h w i) (c.self.view_is i)),
      record {
        writes_back = tt;
        value = c.get_mut.ensures.value ∙ rw (← c.self.view_is, ← c.key.view_is) (entry_at_key c.self.inside.slots c.self.inside.places.items c.in-Some.place c.key.inside.number place_at);
      },
    )
