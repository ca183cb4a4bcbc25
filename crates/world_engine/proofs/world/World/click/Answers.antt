use Rattle.std.specs.Prelude.{OnOk, OnErr, Result, Ok, Err}
use Rattle.std.specs.Vec.{with_items}
use Rattle.std.proofs.lemmas.List.{with_items_is}
use Rattle.std.proofs.Common.{◌≡◌, ◌≤◌, ◌^◌, ℕ, List, length, sym, ap, subst, ◌∙◌}
use Rattle.cell_queue.specs.Held.{Holding}
use Rattle.circuit.specs.Taken.{Takes}
use Rattle.world_engine.specs.Levels.{AreLevels, AreQuiet}
use Rattle.world_engine.specs.Screens.{AreFaced}
use Rattle.circuit.specs.declared.Pos.{Pos}
use Rattle.circuit.specs.Circuit.{State, Clicks}
use Rattle.power_rules.specs.World.{world_circuit}
use Rattle.world_engine.specs.Running.{Running, circuit_of, state_in, state_of, seen_as}
use Rattle.world_engine.proofs.Held.{state-seen}
use Rattle.world_engine.proofs.world.World.click.Goals as goal

pub returns-clause-taken : goal.returns-clause-taken
returns-clause-taken c =
    let w = c.self.inside in
    let m = w.things in
    let new = c.take_click.new.cells in
    let first = subst (λ (s : State Pos). OnOk c.take_click.result (Clicks (circuit_of m) c.args.pos c.args.click s (state_of m new))) (sym (state-seen m w.cells.time w.cells.cells)) c.take_click.ensures.taken in
    let both = subst (λ (s : State Pos). OnOk c.take_click.result (Clicks (circuit_of m) c.args.pos c.args.click (state_in (seen_as m w.cells.time w.cells.cells)) s)) (sym (state-seen m new.time new.cells)) first in
    subst (λ (r : Running). OnOk c.take_click.result (Clicks (world_circuit r.plan r.marks) c.args.pos c.args.click (state_in r) (state_in (seen_as m new.time new.cells)))) c.self.view_is both

-- what holds at a refusal leads to something else there
on_err : {T E : Type 0} (r : Result T E) (P Q : Type 0) → (P → Q) → OnErr r P → OnErr r Q
on_err (Ok x) P Q f h = tt
on_err (Err e) P Q f h = f h

pub returns-clause-refused : goal.returns-clause-refused
returns-clause-refused c =
    subst (λ (r : Running). OnErr c.take_click.result (Takes (world_circuit r.plan r.marks) c.args.pos c.args.click → ⊥)) c.self.view_is c.take_click.ensures.refused

pub returns-clause-same : goal.returns-clause-same
returns-clause-same c =
    let m = c.self.inside.things in
    on_err c.take_click.result (c.take_click.new.cells ≡ c.self.inside.cells) (seen_as m c.take_click.new.cells.time c.take_click.new.cells.cells ≡ c.args.self.now)
    (λ e. ap (λ (h : Holding). seen_as m h.time h.cells) e ∙ c.self.view_is) c.take_click.ensures.same

pub returns-clause-plan : goal.returns-clause-plan
returns-clause-plan c = ap (λ (r : Running). r.plan) c.self.view_is

pub returns-clause-marks : goal.returns-clause-marks
returns-clause-marks c = ap (λ (r : Running). r.marks) c.self.view_is

pub returns-clause-time : goal.returns-clause-time
returns-clause-time c = c.take_click.ensures.time ∙ ap (λ (r : Running). r.time) c.self.view_is

pub invariant_of-self : goal.invariant_of-self
invariant_of-self c =
    let w = c.self.inside in
    let cells = c.take_click.new.cells in
    let playing = c.take_click.ensures.playing in
    let bases : (with_items w.bases c.take_click.new.bases).items ≡ c.take_click.new.bases =
    with_items_is w.bases c.take_click.new.bases (c.take_click.auto.bases ∙ ap (λ (ps : List ℕ). length ps) c.deref_mut.ensures.value ∙ sym w.bases.ok.0) in
    let levels : (with_items w.levels c.take_click.new.levels).items ≡ c.take_click.new.levels =
    with_items_is w.levels c.take_click.new.levels (c.take_click.auto.levels ∙ ap (λ (ps : List ℕ). length ps) c.deref_mut-2.ensures.value ∙ sym w.levels.ok.0) in
    record {
      numbered = c.self.invariant.numbered;
      count = c.take_click.ensures.count ∙ c.self.invariant.count;
      shown = c.take_click.ensures.outlets ∙ c.self.invariant.shown;
      faced = subst (λ (xs : List ℕ). AreFaced xs cells.cells c.take_click.new.screen) (sym levels) c.take_click.ensures.faced;
      playing = record {
        wired = playing.wired;
        holding = playing.holding;
        based = bases ∙ playing.based;
        solved = subst (λ (xs : List ℕ). AreLevels w.things cells.cells xs) (sym levels) playing.solved;
        made = playing.made;
        idle = playing.idle;
      };
      quiet = subst (λ (xs : List ℕ). AreQuiet w.things cells.cells xs) (sym levels) c.take_click.ensures.quiet;
      none = c.take_click.ensures.none;
      early = subst (λ (n : ℕ). n ≤ 2 ^ 62) (sym c.take_click.ensures.time) c.self.invariant.early;
    }
