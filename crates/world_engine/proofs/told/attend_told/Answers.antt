use Rattle.std.proofs.Common.{◌≡◌, ◌⊎◌, ℕ, List, subst, arith, ◌∙◌}
use Rattle.wire_net.specs.WaveSteps.{Has}
use Rattle.wiring.specs.Things.{spot}
use Rattle.world_engine.specs.Levels.{HaveAttended, IsReaderOf}
use Rattle.world_engine.specs.Screens.{Refaced}
use Rattle.world_engine.proofs.ScreenSteps.{refaced_begin, refaced_power, refaced_told}
use Rattle.world_engine.proofs.ToldSteps.{by_time, risen_start, risen_next, told_all}
use Rattle.world_engine.proofs.told.attend_told.Goals as goal

pub loop-power-init : goal.loop-power-init
loop-power-init c =
    let m = c.args.things.now in
    let T = c.args.cells.now.time in
    let xs = c.args.levels.now in
    let a = c.args.cells.now.cells in
    let t = c.args.wiring.now in
    record {
      attended = risen_start m T xs t c.args.waves.now.levels a c.attend_shown.new.cells.cells c.attend_readers_of.new.cells.cells c.args.number c.args.waves.now.fallen c.attend_shown.ensures.attended
          (by_time m c.attend_shown.new.cells.time T xs c.attend_shown.new.cells.cells c.attend_readers_of.new.cells.cells _ c.attend_shown.ensures.time
          (subst (λ (ns : List ℕ). HaveAttended m c.attend_shown.new.cells.time xs c.attend_shown.new.cells.cells c.attend_readers_of.new.cells.cells (IsReaderOf m t (Has ns))) c.fallen.ensures c.attend_readers_of.ensures.attended));
      holding = c.attend_readers_of.ensures.holding;
      time = c.attend_readers_of.ensures.time ∙ c.attend_shown.ensures.time;
      refaced = refaced_begin xs c.args.waves.now.levels c.args.number c.args.waves.now.fallen a c.attend_shown.new.cells.cells c.attend_readers_of.new.cells.cells c.args.screen.now c.attend_shown.new.screen c.attend_readers_of.new.screen
          c.attend_shown.ensures.refaced
          (subst (λ (ns : List ℕ). Refaced xs c.attend_shown.new.cells.cells c.attend_readers_of.new.cells.cells c.attend_shown.new.screen c.attend_readers_of.new.screen (Has ns)) c.fallen.ensures c.attend_readers_of.ensures.refaced);
    }

pub loop-power-preserved : goal.loop-power-preserved
loop-power-preserved c =
    let m = c.args.things.now in
    let T = c.args.cells.now.time in
    let xs = c.args.levels.now in
    let a = c.args.cells.now.cells in
    let t = c.args.wiring.now in
    record {
      attended = risen_next m T xs t c.args.waves.now.levels c.loop-power.power a c.loop-power.cells.cells c.attend_readers_of-in-loop-power.new.cells.cells (λ p. (p ≡ spot m c.args.number) ⊎ IsReaderOf m t (Has c.args.waves.now.fallen) p) c.loop-power.invariant.attended
          (by_time m c.loop-power.cells.time T xs c.loop-power.cells.cells c.attend_readers_of-in-loop-power.new.cells.cells _ c.loop-power.invariant.time
          (subst (λ (ns : List ℕ). HaveAttended m c.loop-power.cells.time xs c.loop-power.cells.cells c.attend_readers_of-in-loop-power.new.cells.cells (IsReaderOf m t (Has ns))) c.risen.ensures c.attend_readers_of-in-loop-power.ensures.attended));
      holding = c.attend_readers_of-in-loop-power.ensures.holding;
      time = c.attend_readers_of-in-loop-power.ensures.time ∙ c.loop-power.invariant.time;
      refaced = refaced_power xs c.args.waves.now.levels c.loop-power.power (λ n. (n ≡ c.args.number) ⊎ Has c.args.waves.now.fallen n) a c.loop-power.cells.cells c.attend_readers_of-in-loop-power.new.cells.cells c.args.screen.now c.loop-power.screen c.attend_readers_of-in-loop-power.new.screen
          c.loop-power.invariant.refaced
          (subst (λ (ns : List ℕ). Refaced xs c.loop-power.cells.cells c.attend_readers_of-in-loop-power.new.cells.cells c.loop-power.screen c.attend_readers_of-in-loop-power.new.screen (Has ns)) c.risen.ensures c.attend_readers_of-in-loop-power.ensures.refaced);
    }

pub returns-clause-attended : goal.returns-clause-attended
returns-clause-attended c =
    let m = c.args.things.now in
    let T = c.args.cells.now.time in
    let xs = c.args.levels.now in
    let a = c.args.cells.now.cells in
    told_all m T xs c.args.wiring.now c.args.waves.now c.loop-power.power c.args.number a c.loop-power.cells.cells (omega (arith, c.requires.cells.powers, c.loop-power-test.false)) c.loop-power.invariant.attended

pub returns-clause-refaced : goal.returns-clause-refaced
returns-clause-refaced c =
    refaced_told c.args.levels.now c.args.waves.now c.loop-power.power c.args.number c.args.cells.now.cells c.loop-power.cells.cells c.args.screen.now c.loop-power.screen (omega (arith, c.requires.cells.powers, c.loop-power-test.false)) c.loop-power.invariant.refaced
