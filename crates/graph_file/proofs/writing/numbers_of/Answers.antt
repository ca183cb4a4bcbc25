use Rattle.std.proofs.Common.{◌++◌, ℕ, drop, sym, ap, ◌∙◌, subst, arith, add-one}
use Rattle.graph.specs.Graph.{node_at}
use Rattle.graph_file.specs.Json.{numbers_from}
use Rattle.graph_file.proofs.SendSteps.{SameNumbers, numbers_more, numbers_all}
use Rattle.graph_file.proofs.writing.numbers_of.Goals as goal

pub loop-key-preserved : goal.loop-key-preserved
loop-key-preserved c =
    let g = c.args.graph.now.nodes in
    let key = c.loop-key.key in (
      omega (arith, c.in_ok-next.ensures.few, c.loop-key.invariant.0),
      subst (λ (n : ℕ). SameNumbers (c.push_number.new.numbers.items ++ numbers_from c.in_ok-next.next (drop n g)) (numbers_from 0 g)) (sym (add-one key))
          (numbers_more c.loop-key.next key g _ c.loop-key.numbers.items c.push_number.new.numbers.items c.in_ok-next.next (c.node.ensures.value ∙ ap (node_at g) c.new.ensures) c.in_ok-next.ensures.numbers c.in_ok-next.ensures.next
          c.loop-key.invariant.1),
    )

pub returns : goal.returns
returns c = numbers_all c.loop-key.next c.loop-key.key c.args.graph.now.nodes c.loop-key.numbers.items (λ k h. c.requires.past k (omega (arith, h, c.loop-key-test.false))) c.loop-key.invariant.1
