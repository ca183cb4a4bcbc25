use Rattle.std.proofs.Common.{length, ap, [], ◌∷◌, length-append, arith}
use Rattle.input_search.proofs.ListSteps.{lists_more}
use Rattle.input_search.proofs.node_links.lists_of.Goals as goal

pub loop-number-preserved : goal.loop-number-preserved
loop-number-preserved c =
    let added = c.in_ok-push.ensures.items in
    record {
      wiring = c.in_ok-list.ensures.wiring;
      whole = omega (arith, ap length added, length-append c.loop-number.lists.items (c.in_ok-list.list ∷ []), c.loop-number.invariant.whole);
      links = lists_more c.args.build.now c.args.graph.now.nodes c.args.numbers.now c.loop-number.number c.loop-number.lists.items c.push.new.self.items c.in_ok-list.list
          c.loop-number.invariant.whole c.loop-number.invariant.links c.in_ok-list.ensures.links added;
    }
