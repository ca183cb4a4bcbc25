use Rattle.std.proofs.Common.{arith, ◌<◌, ◌≤◌, ◌∙◌, sym, ap, length, List, ℕ, [], ◌∷◌, ◌++◌, set}
use Rattle.std.specs.Vec.{vec_capacity}
use Rattle.wire_net.specs.Listed.{Listed, items_of, items_of-at, items_of-set, length-items_of, roomy-at, roomy-set}
use Rattle.wire_net.proofs.cell_lists.CellLists.push.Goals as goal

pub index_mut-requires : goal.index_mut-requires
index_mut-requires c = let h : c.args.number < length (items_of c.self.inside.lists.items) = rw (← c.self.view_is) at c.requires in
    omega (arith, length-items_of c.self.inside.lists.items, c.self.inside.lists.ok.0)

pub invariant_of-self : goal.invariant_of-self
invariant_of-self c = let h : c.args.number < length (items_of c.self.inside.lists.items) = rw (← c.self.view_is) at c.requires in
    let roomy : c.self.inside.room ≤ vec_capacity c.index_mut.result.now = roomy-at c.self.inside.room c.self.inside.lists.items c.args.number c.index_mut.result.now (omega (arith, length-items_of c.self.inside.lists.items)) c.self.invariant c.index_mut.ensures.value in
    roomy-set c.self.inside.room c.self.inside.lists.items c.args.number c.push.new.self c.self.invariant (omega (arith, c.push.ensures.capacity))

pub returns-in_err-push-clause-room : goal.returns-in_err-push-clause-room
returns-in_err-push-clause-room c = let h : c.args.number < length (items_of c.self.inside.lists.items) = rw (← c.self.view_is) at c.requires in
    let roomy : c.self.inside.room ≤ vec_capacity c.index_mut.result.now = roomy-at c.self.inside.room c.self.inside.lists.items c.args.number c.index_mut.result.now (omega (arith, length-items_of c.self.inside.lists.items)) c.self.invariant c.index_mut.ensures.value in
    let same = items_of-at c.self.inside.lists.items c.args.number c.index_mut.result.now (omega (arith, length-items_of c.self.inside.lists.items)) c.index_mut.ensures.value in
    rw (← c.self.view_is) (λ short. let short2 = rw same at short in absurd (omega (arith, c.index_mut.result.now.ok.0, c.in_err-push.ensures.full)))

pub invariant_of-self-2 : goal.invariant_of-self-2
invariant_of-self-2 c = let h : c.args.number < length (items_of c.self.inside.lists.items) = rw (← c.self.view_is) at c.requires in
    let roomy : c.self.inside.room ≤ vec_capacity c.index_mut.result.now = roomy-at c.self.inside.room c.self.inside.lists.items c.args.number c.index_mut.result.now (omega (arith, length-items_of c.self.inside.lists.items)) c.self.invariant c.index_mut.ensures.value in
    roomy-set c.self.inside.room c.self.inside.lists.items c.args.number c.push.new.self c.self.invariant (omega (arith, c.push.ensures.capacity))

pub returns-clause-pushed : goal.returns-clause-pushed
returns-clause-pushed c = let h : c.args.number < length (items_of c.self.inside.lists.items) = rw (← c.self.view_is) at c.requires in
    let same = items_of-at c.self.inside.lists.items c.args.number c.index_mut.result.now (omega (arith, length-items_of c.self.inside.lists.items)) c.index_mut.ensures.value in
    rw (← c.self.view_is) (ap (λ (xs : List (List ℕ)). let made : Listed = record { lists = xs; room = c.self.inside.room } in made)
    (items_of-set c.self.inside.lists.items c.args.number c.push.new.self ∙ ap (λ (ys : List ℕ). set (items_of c.self.inside.lists.items) c.args.number ys) (c.in_ok-push.ensures.items ∙ ap (λ (zs : List ℕ). zs ++ c.args.cell ∷ []) (sym same))))
