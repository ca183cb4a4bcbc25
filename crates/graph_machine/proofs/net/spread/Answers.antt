use Rattle.std.proofs.Common.{◌-◌, ◌<◌, ◌≤◌, length, arith, ◌∙◌}
use Rattle.graph_machine.specs.Counted.{row}
use Rattle.graph_machine.proofs.CountSteps.{moved_more, some_left, few_left}
use Rattle.graph_machine.proofs.net.spread.Goals as goal

pub move_one-requires-clause-some : goal.move_one-requires-clause-some
move_one-requires-clause-some g c =
    let inside : c.loop-index.index < length (row c.args.links.now c.args.from) = omega (arith, c.loop-index-test.true, c.count-count.ensures.count) in
    let small : c.args.old - c.link-link.result.weight < 16 = omega (arith, c.requires.old) in
    some_left (row c.args.links.now c.args.from) c.args.old c.args.new c.args.tables.now c.loop-index.tables c.loop-index.index c.link-link.result inside c.link-link.ensures.link
    (c.requires.enough c.link-link.result.to c.link-link.result.group (c.args.old - c.link-link.result.weight) small) c.loop-index.invariant.moved

pub move_one-requires-clause-few : goal.move_one-requires-clause-few
move_one-requires-clause-few g c =
    let inside : c.loop-index.index < length (row c.args.links.now c.args.from) = omega (arith, c.loop-index-test.true, c.count-count.ensures.count) in
    let short : length (row c.args.links.now c.args.from) ≤ 2147483648 = omega (arith, c.count-count.ensures.count, c.count-count.ensures.few) in
    let small : c.args.new - c.link-link.result.weight < 16 = omega (arith, c.requires.new) in
    few_left (row c.args.links.now c.args.from) c.args.old c.args.new c.args.tables.now c.loop-index.tables c.loop-index.index c.link-link.result.to c.link-link.result.group (c.args.new - c.link-link.result.weight) inside short
    (c.requires.few c.link-link.result.to c.link-link.result.group (c.args.new - c.link-link.result.weight) small) c.loop-index.invariant.moved

pub loop-index-preserved : goal.loop-index-preserved
loop-index-preserved g c =
    let inside : c.loop-index.index < length (row c.args.links.now c.args.from) = omega (arith, c.loop-index-test.true, c.count-count.ensures.count) in
    record {
      moved = moved_more (row c.args.links.now c.args.from) c.args.old c.args.new c.args.tables.now c.loop-index.tables c.move_one.new.tables c.loop-index.index c.link-link.result inside c.link-link.ensures.link c.move_one.ensures.moved c.loop-index.invariant.moved;
      whole = c.move_one.ensures.whole ∙ c.loop-index.invariant.whole;
      read = omega (arith, c.link-link.ensures.read, c.loop-index.invariant.read);
    }
