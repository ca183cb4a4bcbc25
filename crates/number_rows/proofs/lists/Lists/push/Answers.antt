use Rattle.std.proofs.Common.{arith, ◌<◌, ◌∙◌, sym, ap, length, List, ℕ, [], ◌∷◌, ◌++◌, set}
use Rattle.number_rows.specs.Listed.{items_of, items_of-at, items_of-set, length-items_of}
use Rattle.number_rows.proofs.lists.Lists.push.Goals as goal

pub index_mut-requires : goal.index_mut-requires
index_mut-requires c = let h : c.args.number < length (items_of c.self.inside.lists.items) = rw (← c.self.view_is) at c.requires in
    omega (arith, length-items_of c.self.inside.lists.items, c.self.inside.lists.ok.0)

pub returns : goal.returns
returns c = let h : c.args.number < length (items_of c.self.inside.lists.items) = rw (← c.self.view_is) at c.requires in
    let same = items_of-at c.self.inside.lists.items c.args.number c.index_mut.result.now (omega (arith, length-items_of c.self.inside.lists.items)) c.index_mut.ensures.value in
    rw (← c.self.view_is)
    (items_of-set c.self.inside.lists.items c.args.number c.push.new.self ∙ ap (λ (ys : List ℕ). set (items_of c.self.inside.lists.items) c.args.number ys) (c.in_ok-push.ensures.items ∙ ap (λ (zs : List ℕ). zs ++ c.args.item ∷ []) (sym same)))
