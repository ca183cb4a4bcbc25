use Rattle.std.specs.Vec.{with_items}
use Rattle.std.proofs.lemmas.List.{with_items_is}
use Rattle.std.proofs.Common.{length, ◌≡◌, ◌≤◌, ℕ, List, sym, ap, subst, ◌∙◌, arith}
use Rattle.circuit.specs.declared.Pos.{Pos}
use Rattle.circuit.specs.Circuit.{State, start}
use Rattle.build.specs.Plan.{Plan, volume}
use Rattle.wiring.specs.Things.{Numbered}
use Rattle.wiring.specs.Numbers.{few_things}
use Rattle.power_rules.specs.World.{world_circuit}
use Rattle.world_engine.specs.Levels.{AreLevels, AreQuiet}
use Rattle.world_engine.specs.Screens.{AreFaced}
use Rattle.world_engine.proofs.Held.{state-seen}
use Rattle.world_engine.proofs.Playing.{none_at_start}
use Rattle.world_engine.proofs.world.World.start.Goals as goal

pub invariant_of-result : goal.invariant_of-result
invariant_of-result c =
    let m = c.in_ok-things.things in
    let t = c.in_ok-wiring.wiring in
    let cells = c.begin.new.cells in
    let bases : (with_items c.in_ok-bases.bases c.begin.new.bases).items ≡ c.begin.new.bases =
    with_items_is c.in_ok-bases.bases c.begin.new.bases (c.begin.auto.bases ∙ ap (λ (ps : List ℕ). length ps) c.deref_mut.ensures.value ∙ sym c.in_ok-bases.bases.ok.0) in
    let levels : (with_items c.in_ok-levels.levels c.begin.new.levels).items ≡ c.begin.new.levels =
    with_items_is c.in_ok-levels.levels c.begin.new.levels (c.begin.auto.levels ∙ ap (λ (ps : List ℕ). length ps) c.deref_mut-2.ensures.value ∙ sym c.in_ok-levels.levels.ok.0) in
    let time : cells.time ≡ 0 = ap (λ (s : State Pos). s.time) c.begin.ensures.start in
    record {
      numbered = c.count.ensures.numbered;
      count = c.in_ok-screen.ensures.count;
      shown = c.in_ok-screen.ensures.outlets;
      faced = subst (λ (xs : List ℕ). AreFaced xs cells.cells c.in_ok-screen.screen) c.deref-2.ensures.value c.in_ok-screen.ensures.faced;
      playing = record {
        wired = c.in_ok-wiring.ensures;
        holding = c.begin.ensures.holding;
        based = bases ∙ c.begin.ensures.based;
        solved = subst (λ (xs : List ℕ). AreLevels m cells.cells xs) (sym levels) c.begin.ensures.right;
        made = c.in_ok-waves.ensures;
        idle = c.begin.ensures.idle;
      };
      quiet = subst (λ (xs : List ℕ). AreQuiet m cells.cells xs) (sym levels) c.begin.ensures.quiet;
      none = none_at_start cells time;
      early = omega (arith, time);
    }

pub returns-clause-start : goal.returns-clause-start
returns-clause-start c =
    let m = c.in_ok-things.things in
    state-seen m c.begin.new.cells.time c.begin.new.cells.cells
    ∙ c.begin.ensures.start
    ∙ ap (λ (b : Plan). start (world_circuit b m.marks)) c.in_ok-things.ensures.plan
    ∙ ap (λ (ps : List Pos). start (world_circuit c.args.build.now ps)) c.in_ok-things.ensures.marks

pub new-requires-2-clause-few : goal.new-requires-2-clause-few
new-requires-2-clause-few c =
    let few : length c.things.inside.spots.items ≤ volume c.things.inside.build = few_things _ c.things.invariant in
    omega (arith, c.in_ok-stored_cells.ensures.whole, ap (λ (m : Numbered). length m.spots) c.things.view_is, few, c.things.invariant.whole.small)
