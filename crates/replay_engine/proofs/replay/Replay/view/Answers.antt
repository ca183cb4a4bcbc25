use Rattle.std.proofs.Common.{◌≤◌, List, map, ap, ◌∙◌}
use Rattle.std.proofs.lemmas.List.Elements.{All-same}
use Rattle.circuit.specs.Circuit.{view}
use Rattle.build.specs.declared.OutPlace.{OutPlace}
use Rattle.power_rules.specs.World.{world_circuit}
use Rattle.replay_engine.specs.Running.{Running, state_in, shown_of}
use Rattle.replay_engine.proofs.Shown.{view-shown}
use Rattle.replay_engine.proofs.Within.{shown-le}
use Rattle.replay_engine.proofs.replay.Replay.view.Goals as goal

pub returns-clause-values : goal.returns-clause-values
returns-clause-values c =
    let w = c.self.inside in
    c.view_into.ensures
    ∙ ap (λ (os : List OutPlace). map (shown_of w.things w.cells.cells) os) (c.deref-2.ensures.value ∙ c.self.invariant.shown)
    ∙ view-shown w.things w.cells.time w.cells.cells w.latest.items
    ∙ ap (λ (r : Running). view (world_circuit r.plan r.marks) (state_in r)) c.self.view_is

pub returns-clause-small : goal.returns-clause-small
returns-clause-small c =
    let w = c.self.inside in
    All-same (λ n. n ≤ 15) c.view_into.new.into (map (shown_of w.things w.cells.cells) c.deref-2.result.now) c.view_into.ensures
    (shown-le w.things c.self.invariant.numbered w.cells.cells c.self.invariant.playing.holding.within c.deref-2.result.now)
