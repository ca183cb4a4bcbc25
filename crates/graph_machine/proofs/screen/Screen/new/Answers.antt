use Rattle.std.proofs.Common.{length, ◌∙◌, arith}
use Rattle.graph_machine.proofs.ScreenSteps.{shown_once, shown_inside}
use Rattle.graph_machine.proofs.screen.Screen.new.Goals as goal

pub put_places-requires-clause-once : goal.put_places-requires-clause-once
put_places-requires-clause-once c = shown_once c.args.net.now.nodes c.deref.result.now (c.deref.ensures.value ∙ c.requires)

pub put_places-requires-clause-inside : goal.put_places-requires-clause-inside
put_places-requires-clause-inside c = λ i inside.
    let here = shown_inside c.args.net.now.nodes c.deref.result.now (c.deref.ensures.value ∙ c.requires) (length c.args.net.now.outs) c.len-2.ensures.past i inside in
    omega (arith, here, c.deref_mut.ensures.len, c.in_ok-places.ensures.len, c.len-2.ensures.len)
