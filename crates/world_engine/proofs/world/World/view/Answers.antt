use Rattle.std.proofs.Common.{◌≤◌, map, ap, ◌∙◌}
use Rattle.std.proofs.lemmas.List.Elements.{All-same}
use Rattle.circuit.specs.Circuit.{view}
use Rattle.build.specs.Outputs.{outputs}
use Rattle.power_rules.specs.World.{world_circuit}
use Rattle.world_engine.specs.Running.{Running, state_in, shown_of}
use Rattle.world_engine.proofs.Shown.{screen-view, view-shown}
use Rattle.world_engine.proofs.Within.{shown-le}
use Rattle.world_engine.proofs.world.World.view.Goals as goal

pub returns-clause-values : goal.returns-clause-values
returns-clause-values c =
    let w = c.self.inside in
    let i = c.self.invariant in
    c.copy_from_slice.ensures.after
    ∙ c.shown.ensures.value
    ∙ screen-view w.things i.numbered w.cells.cells w.levels.items w.screen i.playing.holding.within i.playing.solved i.shown c.shown.ensures.whole i.faced
    ∙ view-shown w.things w.cells.time w.cells.cells
    ∙ ap (λ (r : Running). view (world_circuit r.plan r.marks) (state_in r)) c.self.view_is

pub returns-clause-small : goal.returns-clause-small
returns-clause-small c =
    let w = c.self.inside in
    let i = c.self.invariant in
    let outs = outputs w.things.plan w.things.marks in
    All-same (λ n. n ≤ 15) c.copy_from_slice.new.self (map (shown_of w.things w.cells.cells) outs)
    (c.copy_from_slice.ensures.after
    ∙ c.shown.ensures.value
    ∙ screen-view w.things i.numbered w.cells.cells w.levels.items w.screen i.playing.holding.within i.playing.solved i.shown c.shown.ensures.whole i.faced)
    (shown-le w.things i.numbered w.cells.cells i.playing.holding.within outs)
