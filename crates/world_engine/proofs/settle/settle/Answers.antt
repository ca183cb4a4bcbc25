use Rattle.std.proofs.Common.{ℕ, List, length, set, sym, ap, subst, ◌∙◌}
use Rattle.wire_net.specs.Net.{WasRight}
use Rattle.wire_net.specs.Listed.{list_at}
use Rattle.wire_net.specs.Noted.{IsNoted}
use Rattle.wire_net.specs.WaveSteps.{AreBelow}
use Rattle.cell_queue.specs.Held.{Holding}
use Rattle.wiring.specs.Things.{state_by}
use Rattle.wiring.specs.Wired.{level_cells}
use Rattle.wiring.proofs.Reached.{was_right}
use Rattle.world_engine.specs.Given.{given-le}
use Rattle.world_engine.specs.Running.{given_by, AreWithin, IsHolding}
use Rattle.world_engine.specs.Levels.{AreLevels, HaveAttended, IsTold, Unbased}
use Rattle.world_engine.proofs.LevelSteps.{given_other, putting_holds, levels_are_plain, levels_whole, bases-attended, settled_state, settled_levels, settled_quiet, settled_idle}
use Rattle.world_engine.proofs.BaseSteps.{unbased_put}
use Rattle.world_engine.proofs.ScreenSteps.{others_stay, faced_anew}
use Rattle.world_engine.proofs.settle.settle.Goals as goal

pub rebase-requires-clause-within : goal.rebase-requires-clause-within
rebase-requires-clause-within c =
    let m = c.args.things.now in
    let old = c.args.cells.now in
    let w = c.count.ensures.numbered in
    let t = c.args.wiring.now in
    let holds = putting_holds m w t old c.args.bases.now c.args.levels.now c.args.waves.now.feeders c.args.number c.args.cell c.requires.playing c.requires.inside c.requires.bounded in
    subst (λ (h : Holding). AreWithin m h.cells) (sym c.hold.ensures) holds.within

pub rebase-requires-clause-unbased : goal.rebase-requires-clause-unbased
rebase-requires-clause-unbased c =
    let m = c.args.things.now in
    subst (λ (h : Holding). Unbased m c.args.wiring.now (given_by m h.cells) c.args.number c.args.bases.now) (sym c.hold.ensures)
    (unbased_put m c.count.ensures.numbered c.args.wiring.now c.args.cells.now c.args.bases.now c.args.levels.now c.args.waves.now.feeders c.args.number c.args.cell c.requires.playing c.requires.inside)

pub relevel-requires-clause-within : goal.relevel-requires-clause-within
relevel-requires-clause-within c =
    let m = c.args.things.now in
    let old = c.args.cells.now in
    let w = c.count.ensures.numbered in
    let t = c.args.wiring.now in
    let holds = putting_holds m w t old c.args.bases.now c.args.levels.now c.args.waves.now.feeders c.args.number c.args.cell c.requires.playing c.requires.inside c.requires.bounded in
    subst (λ (h : Holding). AreWithin m h.cells) (sym c.hold.ensures) holds.within

pub relevel-requires-clause-right : goal.relevel-requires-clause-right
relevel-requires-clause-right c =
    let m = c.args.things.now in
    let old = c.args.cells.now in
    let w = c.count.ensures.numbered in
    let t = c.args.wiring.now in
    let n = c.args.number in
    let driven : List ℕ = list_at t.driven n in
    subst (λ (changed : List ℕ). WasRight (level_cells m (given_by m c.hold.new.self.cells)) c.args.levels.now changed) (sym c.driven.ensures)
    (subst (λ (h : Holding). WasRight (level_cells m (given_by m h.cells)) c.args.levels.now driven) (sym c.hold.ensures)
    (was_right m w t c.requires.playing.wired n c.requires.inside (given_by m old.cells) (given_by m (set old.cells n c.args.cell))
    (given_other m w t c.requires.playing.wired old.cells n c.args.cell c.requires.playing.holding.whole c.requires.inside)
    c.args.levels.now (given-le m old.cells c.requires.playing.holding.within) c.requires.playing.solved))

pub relevel-requires-clause-inside : goal.relevel-requires-clause-inside
relevel-requires-clause-inside c = subst (AreBelow (length c.args.things.now.spots)) (sym c.driven.ensures) (c.requires.playing.wired.driven_below c.args.number)

pub attend_told-requires-clause-whole : goal.attend_told-requires-clause-whole
attend_told-requires-clause-whole c = levels_whole c.args.things.now c.hold.new.self.cells c.relevel.new.levels c.relevel.ensures.right

pub attend_told-requires-clause-plain : goal.attend_told-requires-clause-plain
attend_told-requires-clause-plain c =
    let m = c.args.things.now in
    let old = c.args.cells.now in
    let w = c.count.ensures.numbered in
    let t = c.args.wiring.now in
    let holds = putting_holds m w t old c.args.bases.now c.args.levels.now c.args.waves.now.feeders c.args.number c.args.cell c.requires.playing c.requires.inside c.requires.bounded in
    levels_are_plain m w c.hold.new.self.cells c.relevel.new.levels (subst (λ (h : Holding). AreWithin m h.cells) (sym c.hold.ensures) holds.within) c.relevel.ensures.right

pub attend_told-requires-clause-holding : goal.attend_told-requires-clause-holding
attend_told-requires-clause-holding c =
    let m = c.args.things.now in
    let old = c.args.cells.now in
    let w = c.count.ensures.numbered in
    let t = c.args.wiring.now in
    let holds = putting_holds m w t old c.args.bases.now c.args.levels.now c.args.waves.now.feeders c.args.number c.args.cell c.requires.playing c.requires.inside c.requires.bounded in
    subst (IsHolding m) (sym c.hold.ensures) holds

pub returns-clause-settled : goal.returns-clause-settled
returns-clause-settled c =
    let m = c.args.things.now in
    let old = c.args.cells.now in
    let w = c.count.ensures.numbered in
    let t = c.args.wiring.now in
    let ys = c.relevel.new.levels in
    let right = subst (λ (h : Holding). AreLevels m h.cells ys) c.hold.ensures c.relevel.ensures.right in
    let all = subst (λ (h : Holding). HaveAttended m h.time ys h.cells c.attend_told.new.cells.cells (IsTold m t c.args.number c.relevel.new.waves)) c.hold.ensures c.attend_told.ensures.attended in
    ap (λ (time : ℕ). state_by m time c.attend_told.new.cells.cells) (c.attend_told.ensures.time ∙ ap (λ (h : Holding). h.time) c.hold.ensures)
    ∙ settled_state m w t old c.args.bases.now c.args.levels.now c.args.waves.now.feeders c.args.number c.args.cell c.requires.playing c.requires.inside c.requires.bounded
    ys c.relevel.new.waves c.attend_told.new.cells.cells c.requires.quiet right c.relevel.ensures.noted all

pub returns-clause-playing : goal.returns-clause-playing
returns-clause-playing c =
    let m = c.args.things.now in
    let old = c.args.cells.now in
    let w = c.count.ensures.numbered in
    let t = c.args.wiring.now in
    let ys = c.relevel.new.levels in
    let right = subst (λ (h : Holding). AreLevels m h.cells ys) c.hold.ensures c.relevel.ensures.right in
    let all = subst (λ (h : Holding). HaveAttended m h.time ys h.cells c.attend_told.new.cells.cells (IsTold m t c.args.number c.relevel.new.waves)) c.hold.ensures c.attend_told.ensures.attended in
    record {
      wired = c.requires.playing.wired;
      holding = c.attend_told.ensures.holding;
      based = bases-attended m c.hold.new.self.time ys c.hold.new.self.cells c.attend_told.new.cells.cells (IsTold m t c.args.number c.relevel.new.waves) c.rebase.new.bases c.attend_told.ensures.attended c.rebase.ensures;
      solved = settled_levels m w t old c.args.bases.now c.args.levels.now c.args.waves.now.feeders c.args.number c.args.cell c.requires.playing c.requires.inside c.requires.bounded
          ys c.relevel.new.waves c.attend_told.new.cells.cells c.requires.quiet right c.relevel.ensures.noted all;
      made = c.relevel.ensures.made;
      idle = settled_idle m w t old c.args.bases.now c.args.levels.now c.args.waves.now.feeders c.args.number c.args.cell c.requires.playing c.requires.inside c.requires.bounded
          ys c.relevel.new.waves c.attend_told.new.cells.cells c.requires.quiet right c.relevel.ensures.noted all c.requires.idle;
    }

pub returns-clause-quiet : goal.returns-clause-quiet
returns-clause-quiet c =
    let m = c.args.things.now in
    let old = c.args.cells.now in
    let w = c.count.ensures.numbered in
    let t = c.args.wiring.now in
    let ys = c.relevel.new.levels in
    let right = subst (λ (h : Holding). AreLevels m h.cells ys) c.hold.ensures c.relevel.ensures.right in
    let all = subst (λ (h : Holding). HaveAttended m h.time ys h.cells c.attend_told.new.cells.cells (IsTold m t c.args.number c.relevel.new.waves)) c.hold.ensures c.attend_told.ensures.attended in
    settled_quiet m w t old c.args.bases.now c.args.levels.now c.args.waves.now.feeders c.args.number c.args.cell c.requires.playing c.requires.inside c.requires.bounded
    ys c.relevel.new.waves c.attend_told.new.cells.cells c.requires.quiet right c.relevel.ensures.noted all

pub returns-clause-faced : goal.returns-clause-faced
returns-clause-faced c =
    faced_anew c.args.levels.now c.relevel.new.levels c.args.cells.now.cells c.hold.new.self.cells c.attend_told.new.cells.cells c.args.screen.now c.attend_told.new.screen c.args.number (IsNoted c.relevel.new.waves)
    c.requires.faced (others_stay c.args.cells.now c.hold.new.self c.args.number c.args.cell c.hold.ensures) c.relevel.ensures.noted c.attend_told.ensures.refaced
