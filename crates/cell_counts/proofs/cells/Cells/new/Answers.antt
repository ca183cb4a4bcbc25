use Rattle.std.proofs.Common.{◌≡◌, ◌<◌, ◌≤◌, ◌^◌, ℕ, List, sym, ap, ◌∙◌, subst, slice_index, length, take}
use Rattle.std.proofs.lemmas.List.{take_all}
use Rattle.std.specs.Prelude.{count_by}
use Rattle.circuit.specs.declared.Cell.{Cell}
use Rattle.cell_counts.specs.Held.{counts_at}
use Rattle.cell_counts.proofs.Counting.{counted_few, pending_all}
use Rattle.cell_counts.proofs.cells.Cells.new.Goals as goal

pub count-requires-clause-few : goal.count-requires-clause-few
count-requires-clause-few c =
    subst (λ (counts : List ℕ). (slot : ℕ) → slot < 64 → slice_index counts slot ≤ 2 ^ 32) (sym c.deref_mut.ensures.value)
    (counted_few c.loop-cell.counts.items c.deref-cell-items.result.now c.loop-cell.cell-index (subst (λ (l : List Cell). length l ≤ 2 ^ 32) (sym c.deref-cell-items.ensures.value) c.requires.few) c.loop-cell.invariant.counted)

pub invariant_of-result : goal.invariant_of-result
invariant_of-result c = record {
  long = c.loop-cell.invariant.long;
  counted = λ slot small.
      let all : take c.loop-cell.cell-index c.deref-cell-items.result.now ≡ c.args.cells.items =
      take_all c.loop-cell.cell-index c.deref-cell-items.result.now c.loop-cell-test.false ∙ c.deref-cell-items.ensures.value in
      c.loop-cell.invariant.counted slot small ∙ ap (λ (l : List Cell). count_by (counts_at slot) l) all;
  pending = pending_all c.args.cells.items c.requires.soon;
  few = c.requires.few;
}
