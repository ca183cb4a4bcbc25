-- The new place stood for no key.
use Rattle.std.proofs.Common.{◌≡◌, ◌≤◌, ◌+◌, ◌^◌, ◌<◌, ℕ, sym, ap, ◌∙◌, arith, rules, length}
use Rattle.std.specs.Prelude.{vec_capacity}
use Rattle.slab.specs.Slab.{Slab, get, slab_len}
use Rattle.std.proofs.lemmas.List.{length-map}
use Rattle.node_arena.specs.Items.{Items}
use Rattle.node_arena.specs.Layout.{entry_at}
use Rattle.node_arena.proofs.EntrySteps.{entries_push, away_from_vacant}
use Rattle.node_arena.proofs.LayoutSteps.{laid_out_push}
use Rattle.node_arena.proofs.Arena.insert.Goals as goal

pub invariant_of-self-2 : goal.invariant_of-self-2
invariant_of-self-2 g c =
    let same : (at : ℕ) → get c.reserve.new.self at ≡ get c.self.inside.slots at = λ at. ap (λ (s : Slab g.row.T.Denot). get s at) c.reserve.ensures.rest_kept in
    let count : slab_len c.reserve.new.self ≡ slab_len c.self.inside.slots = ap (λ (s : Slab g.row.T.Denot). slab_len s) c.reserve.ensures.rest_kept in
    let room : slab_len c.reserve.new.self + 1 ≤ c.reserve.new.self.capacity = search rules in
    let same_length : length c.args.self.now.entries ≡ length c.self.inside.places.items =
    ap (λ (items : Items g.row.T.Denot). length items.entries) (sym c.self.view_is) ∙ length-map c.self.inside.places.items (entry_at c.self.inside.slots) in
    let few : length c.self.inside.places.items + 1 < 2 ^ 32 = omega arith in
    let fits : length c.self.inside.places.items + 1 ≤ vec_capacity c.reserve-2.new.self = search rules in
    rw (c.push_reserved.ensures.items, c.reserve-2.ensures.items, c.saturating_sub-self-inside.ensures)
    (laid_out_push c.self.inside.slots c.insert_reserved-place.new.self c.self.inside.places.items c.insert_reserved-place.result (vec_capacity c.self.inside.places)
    (vec_capacity c.push_reserved.new.self) c.self.inside.spare c.args.item c.self.invariant
    (sym (same c.insert_reserved-place.result) ∙ c.insert_reserved-place.ensures.was_vacant) c.insert_reserved-place.ensures.updates.changed
    (λ other n. c.insert_reserved-place.ensures.updates.others other n ∙ same other) (omega arith) (omega arith) (omega arith) few (omega arith) (omega arith))

pub returns-clause-entries : goal.returns-clause-entries
returns-clause-entries g c =
    let same : (at : ℕ) → get c.reserve.new.self at ≡ get c.self.inside.slots at = λ at. ap (λ (s : Slab g.row.T.Denot). get s at) c.reserve.ensures.rest_kept in
    rw (c.push_reserved.ensures.items, c.reserve-2.ensures.items, ← c.self.view_is)
    (entries_push c.self.inside.slots c.insert_reserved-place.new.self c.insert_reserved-place.result c.args.item c.insert_reserved-place.ensures.updates.changed
    (λ other n. c.insert_reserved-place.ensures.updates.others other n ∙ same other) c.self.inside.places.items
    (away_from_vacant c.self.inside.slots c.self.inside.places.items _ _ c.insert_reserved-place.result c.self.invariant
    (sym (same c.insert_reserved-place.result) ∙ c.insert_reserved-place.ensures.was_vacant)))
