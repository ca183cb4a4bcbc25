use Rattle.std.proofs.Common.{arith, ◌∙◌, ap, [], ◌∷◌, ◌++◌, replicate, List, ℕ}
use Rattle.wire_net.specs.Listed.{roomy-more, items_of-more, replicate-more}
use Rattle.wire_net.proofs.cell_lists.CellLists.new.Goals as goal

pub loop-made-preserved : goal.loop-made-preserved
loop-made-preserved c =
    rw c.in_ok-push.ensures.items (record {
      items = items_of-more c.loop-made.lists.items c.in_ok-with_capacity.field-0
          ∙ ap (λ (xs : List (List ℕ)). xs ++ c.in_ok-with_capacity.field-0.items ∷ []) c.loop-made.invariant.items
          ∙ ap (λ (ys : List ℕ). replicate c.loop-made._made [] ++ ys ∷ []) c.in_ok-with_capacity.ensures.items
          ∙ replicate-more c.loop-made._made [];
      roomy = roomy-more c.args.room c.loop-made.lists.items c.in_ok-with_capacity.field-0 c.loop-made.invariant.roomy (omega (arith, c.in_ok-with_capacity.ensures.exact));
    })

pub invariant_of-result : goal.invariant_of-result
invariant_of-result c = c.loop-made.invariant.roomy
