use Rattle.std.proofs.Common.{◌∙◌}
use Rattle.world_engine.specs.Levels.{IsReader}
use Rattle.world_engine.proofs.ScreenSteps.{refaced_next, refaced_taps}
use Rattle.world_engine.proofs.ToldSteps.{by_time, first_next, taps_all}
use Rattle.world_engine.proofs.told.attend_readers_of.Goals as goal

pub loop-tap-preserved : goal.loop-tap-preserved
loop-tap-preserved c =
    let m = c.args.things.now in
    let T = c.args.cells.now.time in
    let xs = c.args.levels.now in
    let a = c.args.cells.now.cells in
    record {
      attended = first_next m T xs (IsReader m c.args.wiring.now) c.args.taps.now c.loop-tap.tap-index a c.loop-tap.cells.cells c.attend_readers.new.cells.cells c.loop-tap.invariant.attended
          (by_time m c.loop-tap.cells.time T xs c.loop-tap.cells.cells c.attend_readers.new.cells.cells _ c.loop-tap.invariant.time c.attend_readers.ensures.attended);
      holding = c.attend_readers.ensures.holding;
      time = c.attend_readers.ensures.time ∙ c.loop-tap.invariant.time;
      refaced = refaced_next xs c.args.taps.now c.loop-tap.tap-index a c.loop-tap.cells.cells c.attend_readers.new.cells.cells c.args.screen.now c.loop-tap.screen c.refresh.new.self c.attend_readers.new.screen
          c.loop-tap.invariant.refaced c.refresh.ensures c.attend_readers.ensures.refaced;
    }

pub returns-clause-attended : goal.returns-clause-attended
returns-clause-attended c =
    let m = c.args.things.now in
    let T = c.args.cells.now.time in
    let xs = c.args.levels.now in
    let a = c.args.cells.now.cells in
    taps_all m T xs c.args.wiring.now c.args.taps.now c.loop-tap.tap-index a c.loop-tap.cells.cells c.loop-tap-test.false c.loop-tap.invariant.attended

pub returns-clause-refaced : goal.returns-clause-refaced
returns-clause-refaced c =
    refaced_taps c.args.levels.now c.args.taps.now c.loop-tap.tap-index c.args.cells.now.cells c.loop-tap.cells.cells c.args.screen.now c.loop-tap.screen c.loop-tap-test.false c.loop-tap.invariant.refaced
