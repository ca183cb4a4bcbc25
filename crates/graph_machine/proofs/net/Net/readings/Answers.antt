use Rattle.std.proofs.Common.{◌≡◌, ◌<◌, length, ap, ◌∙◌, arith, get_or}
use Rattle.graph.specs.declared.Group.TheVariants.{Back, Side}
use Rattle.graph.specs.Graph.{node_at}
use Rattle.graph.specs.GraphCircuit.{readings_at}
use Rattle.link_counts.specs.Counted.{no_counts}
use Rattle.graph_machine.specs.Wired.{Wired, given, part_at, no_brief, brief_by, IsGreatest}
use Rattle.cell_queue.proofs.HeldSteps.{same_default}
use Rattle.graph_machine.proofs.WiredSteps.{readings_are}
use Rattle.graph_machine.proofs.net.Net.readings.Goals as goal

pub returns : goal.returns
returns c =
    let w = c.self.invariant in
    let net = c.self.inside in
    let key = c.args.key in
    let inside : key < length net.outs.items = omega (arith, c.requires, ap (λ (w : Wired). length w.outs) c.self.view_is) in
    let brief : c.index.result.now ≡ brief_by (part_at (node_at net.graph.value.nodes key)) = c.index.ensures ∙ same_default net.briefs.items key _ no_brief (omega (arith, inside, w.briefs_whole)) ∙ w.brief key in
    let counts = get_or net.tables key no_counts in
    let power : IsGreatest counts Back c.greatest-power.result = record { small = c.greatest-power.ensures.small; some = c.greatest-power.ensures.some; none = c.greatest-power.ensures.none } in
    let side : IsGreatest counts Side c.greatest-side.result = record { small = c.greatest-side.ensures.small; some = c.greatest-side.ensures.some; none = c.greatest-side.ensures.none } in
    readings_are (given net.outs.items) (node_at net.graph.value.nodes key) c.index.result.now counts _ w.small brief
    (λ group s small. w.counted.each key group s small) (record { power = c.greatest-power.result; greatest = power; back = c.back_by.ensures; side = side })
    ∙ ap (λ (w : Wired). readings_at (given w.outs) (node_at w.nodes key)) c.self.view_is
