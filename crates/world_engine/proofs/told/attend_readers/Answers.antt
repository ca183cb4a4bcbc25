use Rattle.std.proofs.Common.{◌≡◌, ◌∙◌, inl}
use Rattle.wiring.specs.Things.{spot}
use Rattle.world_engine.specs.Screens.{NoThing}
use Rattle.world_engine.proofs.ScreenSteps.{refaced_then}
use Rattle.world_engine.proofs.ToldSteps.{by_time, first_next, readers_all}
use Rattle.world_engine.proofs.told.attend_readers.Goals as goal

pub loop-reader-preserved : goal.loop-reader-preserved
loop-reader-preserved c =
    let m = c.args.things.now in
    let T = c.args.cells.now.time in
    let xs = c.args.levels.now in
    let a = c.args.cells.now.cells in
    record {
      attended = first_next m T xs (λ x p. p ≡ spot m x) c.readers-reader-items.result.now c.loop-reader.reader-index a c.loop-reader.cells.cells c.attend_shown.new.cells.cells c.loop-reader.invariant.attended
          (by_time m c.loop-reader.cells.time T xs c.loop-reader.cells.cells c.attend_shown.new.cells.cells _ c.loop-reader.invariant.time c.attend_shown.ensures.attended);
      holding = c.attend_shown.ensures.holding;
      time = c.attend_shown.ensures.time ∙ c.loop-reader.invariant.time;
      refaced = refaced_then xs a c.loop-reader.cells.cells c.attend_shown.new.cells.cells c.args.screen.now c.loop-reader.screen c.attend_shown.new.screen NoThing (λ n. n ≡ _) NoThing (λ n h. inl h) c.loop-reader.invariant.refaced c.attend_shown.ensures.refaced;
    }

pub returns-clause-attended : goal.returns-clause-attended
returns-clause-attended c =
    let m = c.args.things.now in
    let T = c.args.cells.now.time in
    let xs = c.args.levels.now in
    let a = c.args.cells.now.cells in
    readers_all m T xs c.args.wiring.now c.args.tap c.readers-reader-items.result.now c.loop-reader.reader-index a c.loop-reader.cells.cells c.readers-reader-items.ensures c.loop-reader-test.false c.loop-reader.invariant.attended
