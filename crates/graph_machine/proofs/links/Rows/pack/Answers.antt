use Rattle.std.proofs.Common.{◌≡◌, ℕ, List, [], ◌∷◌, ◌++◌, length, length-append, map, take, ap, sym, ◌∙◌, arith}
use Rattle.std.proofs.lemmas.List.{map-append, take_more}
use Rattle.graph_machine.specs.Packed.{rows_from}
use Rattle.graph_machine.proofs.PackSteps.{PackedMore, packed_step}
use Rattle.graph_machine.proofs.links.Rows.pack.Goals as goal

pub loop-row-preserved : goal.loop-row-preserved
loop-row-preserved c =
    let ends = c.loop-row.ends.items in
    let links = c.loop-row.links.items in
    let all = c.append.new.links in
    let end : c.len-in-loop-row.result ≡ length all.items = omega (arith, c.len-in-loop-row.ensures, all.ok.0) in
    let step : PackedMore c.push.new.self.items all.items (rows_from 0 ends links ++ c.deref.result.now ∷ []) =
    packed_step ends c.push.new.self.items links c.deref.result.now all.items c.len-in-loop-row.result c.loop-row.invariant.packed c.loop-row.invariant.last c.in_ok-push.ensures.items c.in_ok-append.ensures.items end c.in_ok-append.ensures.few in
    let rows = c.deref-row-items.result.now in
    record {
      count = omega (arith, ap (λ (l : List ℕ). length l) c.in_ok-push.ensures.items, length-append ends (c.len-in-loop-row.result ∷ []), c.loop-row.invariant.count);
      packed = step.packed;
      last = step.last;
      rows = step.rows_are ∙ (λ i. c.loop-row.invariant.rows i ++ c.deref.ensures.value i ∷ []) ∙ sym (map-append (λ row. row.items) (take c.loop-row.row-index rows) (c.row-item.result ∷ []))
          ∙ ap (map (λ row. row.items)) (ap (λ r. take c.loop-row.row-index rows ++ r ∷ []) c.row-item.is ∙ sym (take_more rows c.loop-row.row-index c.row-item.result c.loop-row-test.true));
    }
