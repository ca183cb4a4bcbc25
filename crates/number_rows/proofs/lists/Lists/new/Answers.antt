use Rattle.std.proofs.Common.{◌∙◌, ap, [], ◌∷◌, ◌++◌, replicate, List, ℕ}
use Rattle.number_rows.specs.Listed.{items_of-more, replicate-more}
use Rattle.number_rows.proofs.lists.Lists.new.Goals as goal

pub loop-made-preserved : goal.loop-made-preserved
loop-made-preserved c =
    rw c.in_ok-push.ensures.items
    (items_of-more c.loop-made.lists.items c.new.result
    ∙ ap (λ (xs : List (List ℕ)). xs ++ c.new.result.items ∷ []) c.loop-made.invariant
    ∙ ap (λ (ys : List ℕ). replicate c.loop-made._made [] ++ ys ∷ []) c.new.ensures.items
    ∙ replicate-more c.loop-made._made [])
