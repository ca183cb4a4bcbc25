-- The place of the key stood for no other key.
use Rattle.std.proofs.Common.{◌≡◌, Some, None, sym, ap, ◌∙◌, arith}
use Rattle.std.specs.Prelude.{slice_index_or}
use Rattle.node_arena.proofs.EntrySteps.{entries_remove}
use Rattle.node_arena.proofs.LayoutSteps.{laid_out_unset, set-none, entry_at_none, on_some_holds}
use Rattle.node_arena.proofs.Arena.remove.Goals as goal

pub returns-in_default-clause-entries : goal.returns-in_default-clause-entries
returns-in_default-clause-entries g c =
    let none : slice_index_or c.self.inside.places.items c.key.inside.number None ≡ None =
    ap (λ places. slice_index_or places c.key.inside.number None) (sym c.deref.ensures.value) ∙ sym c.place_at.ensures ∙ c.in_default.is in
    rw (← c.self.view_is, ← c.key.view_is) (sym (set-none _ c.key.inside.number (entry_at_none c.self.inside.slots c.self.inside.places.items c.key.inside.number none)))

pub invariant_of-self : goal.invariant_of-self
invariant_of-self g c =
    let here : slice_index_or c.self.inside.places.items c.key.inside.number None ≡ Some c.in-Some.place =
    ap (λ places. slice_index_or places c.key.inside.number None) (sym c.deref.ensures.value) ∙ sym c.place_at.ensures ∙ c.in-Some.is in
    laid_out_unset c.self.inside.slots c.try_remove.new.self c.self.inside.places.items c.in-Some.place c.key.inside.number _ _ c.self.inside.spare c.self.invariant here
    c.try_remove.ensures.updates.others
    (on_some_holds c.try_remove.result (rw c.try_remove.ensures.value (c.self.invariant.holds c.key.inside.number c.in-Some.place here)) c.try_remove.ensures.len)
    c.try_remove.ensures.capacity (omega arith)

pub returns-clause-entries : goal.returns-clause-entries
returns-clause-entries g c =
    let here : slice_index_or c.self.inside.places.items c.key.inside.number None ≡ Some c.in-Some.place =
    ap (λ places. slice_index_or places c.key.inside.number None) (sym c.deref.ensures.value) ∙ sym c.place_at.ensures ∙ c.in-Some.is in
    rw (← c.self.view_is, ← c.key.view_is) (entries_remove c.self.inside.slots c.try_remove.new.self c.in-Some.place c.key.inside.number c.try_remove.ensures.updates.others
    c.self.inside.places.items here (λ other n e. n (c.self.invariant.apart other c.key.inside.number c.in-Some.place e here)))
