use Rattle.std.proofs.Common.{◌∙◌}
use Rattle.std.proofs.lemmas.List.Filters.{dedup_is}
use Rattle.input_search.proofs.CellOrder.{sorted_cells}
use Rattle.input_search.proofs.search.put_in_order.Goals as goal

pub returns : goal.returns
returns c = λ n below.
    dedup_is _ _ _ c.dedup.ensures.filtered ∙ sorted_cells n c.args.cells.now.items c.sort_unstable.new.self.items below c.sort_unstable.ensures.permutation c.sort_unstable.ensures.sorted
