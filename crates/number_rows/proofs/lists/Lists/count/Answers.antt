use Rattle.std.proofs.Common.{ℕ, List, length, sym, ap, ◌∙◌}
use Rattle.number_rows.specs.Listed.{length-items_of}
use Rattle.number_rows.proofs.lists.Lists.count.Goals as goal

pub returns : goal.returns
returns c = c.len.ensures ∙ c.self.inside.lists.ok.0 ∙ sym (length-items_of c.self.inside.lists.items) ∙ ap (λ (xs : List (List ℕ)). length xs) c.self.view_is
