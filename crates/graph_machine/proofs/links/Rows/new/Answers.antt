use Rattle.std.proofs.Common.{[], ◌∷◌, ◌++◌, length, length-append, map, ap, ◌∙◌, arith}
use Rattle.std.proofs.lemmas.List.{map-append}
use Rattle.graph_machine.specs.Counted.{row}
use Rattle.graph_machine.proofs.CountSteps.{row_more}
use Rattle.graph_machine.proofs.links.Rows.new.Goals as goal

pub loop-preserved : goal.loop-preserved
loop-preserved c =
    let made = c.in_ok-push.ensures.items in
    record {
      count = omega (arith, c.in_ok-push.ensures.len, ap (λ l. length l) made, length-append c.loop.rows.items (c.new.result ∷ []), c.loop.invariant.count);
      none = λ from. ap (λ l. row (map (λ row. row.items) l) from) made ∙ ap (λ l. row l from) (map-append (λ row. row.items) c.loop.rows.items (c.new.result ∷ []))
          ∙ ap (λ l. row (map (λ row. row.items) c.loop.rows.items ++ l ∷ []) from) c.new.ensures.items ∙ row_more (map (λ row. row.items) c.loop.rows.items) c.loop.invariant.none from;
    }
