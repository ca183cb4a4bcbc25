use Rattle.std.proofs.Common.{arith, ◌<◌, sym, length}
use Rattle.number_rows.specs.Listed.{items_of, items_of-at, length-items_of}
use Rattle.number_rows.proofs.lists.Lists.list.Goals as goal

pub index-requires : goal.index-requires
index-requires c = let h : c.args.number < length (items_of c.self.inside.lists.items) = rw (← c.self.view_is) at c.requires in
    omega (arith, length-items_of c.self.inside.lists.items, c.self.inside.lists.ok.0)

pub returns : goal.returns
returns c = let h : c.args.number < length (items_of c.self.inside.lists.items) = rw (← c.self.view_is) at c.requires in
    rw (c.deref.ensures.value, ← c.self.view_is)
    (sym (items_of-at c.self.inside.lists.items c.args.number c.index.result.now (omega (arith, length-items_of c.self.inside.lists.items)) c.index.ensures))
