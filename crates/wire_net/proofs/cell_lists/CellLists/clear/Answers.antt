use Rattle.std.proofs.Common.{arith, ◌≤◌, ◌∙◌, sym, ap, length, [], inl, inr}
use Rattle.std.proofs.lemmas.Bool.{cases_lt}
use Rattle.std.proofs.lemmas.List.{length-set, get_or-set_same, get_or-set_other}
use Rattle.std.specs.Vec.{vec_capacity}
use Rattle.wire_net.specs.Laws.{nat_same}
use Rattle.wire_net.specs.Listed.{Listed, items_of, items_of-set, length-items_of, roomy-at, roomy-set, empty-past}
use Rattle.wire_net.proofs.cell_lists.CellLists.clear.Goals as goal

pub loop-number-preserved : goal.loop-number-preserved
loop-number-preserved c =
    let roomy : c.loop-number.self-inside.room ≤ vec_capacity c.index_mut.result.now = roomy-at c.loop-number.self-inside.room c.loop-number.self-inside.lists.items c.loop-number.number c.index_mut.result.now (omega arith) c.loop-number.invariant.roomy c.index_mut.ensures.value in
    record {
      count = length-set c.loop-number.self-inside.lists.items c.loop-number.number c.clear.new.self ∙ c.loop-number.invariant.count;
      room = c.loop-number.invariant.room;
      empty = λ i h. rw (items_of-set c.loop-number.self-inside.lists.items c.loop-number.number c.clear.new.self) (elim (nat_same i c.loop-number.number) [
        | inl e ↦ rw e (rw (get_or-set_same (items_of c.loop-number.self-inside.lists.items) c.loop-number.number c.clear.new.self.items [] (omega (arith, length-items_of c.loop-number.self-inside.lists.items))) c.clear.ensures.items)
        | inr n ↦ rw (get_or-set_other (items_of c.loop-number.self-inside.lists.items) c.loop-number.number i c.clear.new.self.items [] n) (c.loop-number.invariant.empty i (omega arith))
      ]);
      roomy = roomy-set c.loop-number.self-inside.room c.loop-number.self-inside.lists.items c.loop-number.number c.clear.new.self c.loop-number.invariant.roomy (omega (arith, c.clear.ensures.capacity));
    }

pub returns-clause-count : goal.returns-clause-count
returns-clause-count c = length-items_of c.loop-number.self-inside.lists.items ∙ c.loop-number.invariant.count ∙ sym (length-items_of c.self.inside.lists.items) ∙ ap (λ (v : Listed). length v.lists) c.self.view_is

pub returns-clause-empty : goal.returns-clause-empty
returns-clause-empty c = λ i. elim (cases_lt i c.loop-number.number) [
  | inl h ↦ c.loop-number.invariant.empty i h
  | inr h ↦ empty-past c.loop-number.self-inside.lists.items i (omega arith)
]
