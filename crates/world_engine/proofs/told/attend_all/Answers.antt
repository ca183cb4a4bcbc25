use Rattle.std.proofs.Common.{ℕ, ap, ◌∙◌, arith, refl}
use Rattle.wiring.specs.Things.{state_by}
use Rattle.world_engine.proofs.LevelSteps.{levels_whole, levels_are_plain, all-attended, quiet-attended, given-attended}
use Rattle.world_engine.proofs.ToldSteps.{by_time, ThingsBelow, things_start, things_next, thing_or_none}
use Rattle.world_engine.proofs.told.attend_all.Goals as goal

pub loop-number-init : goal.loop-number-init
loop-number-init c =
    let m = c.args.things.now in
    let w = c.count-number-end.ensures.numbered in
    let T = c.args.cells.now.time in
    let xs = c.args.levels.now in
    let a = c.args.cells.now.cells in
    record { attended = things_start m T xs a; holding = c.requires.holding; time = refl }

pub attend_thing-requires-clause-whole : goal.attend_thing-requires-clause-whole
attend_thing-requires-clause-whole c = levels_whole c.args.things.now c.args.cells.now.cells c.args.levels.now c.requires.right

pub attend_thing-requires-clause-plain : goal.attend_thing-requires-clause-plain
attend_thing-requires-clause-plain c = levels_are_plain c.args.things.now c.count-number-end.ensures.numbered c.args.cells.now.cells c.args.levels.now c.requires.holding.within c.requires.right

pub loop-number-preserved : goal.loop-number-preserved
loop-number-preserved c =
    let m = c.args.things.now in
    let w = c.count-number-end.ensures.numbered in
    let T = c.args.cells.now.time in
    let xs = c.args.levels.now in
    let a = c.args.cells.now.cells in
    record {
      attended = things_next m T xs c.loop-number.number a c.loop-number.cells.cells c.attend_thing.new.cells.cells c.loop-number.invariant.attended
          (by_time m c.loop-number.cells.time T xs c.loop-number.cells.cells c.attend_thing.new.cells.cells _ c.loop-number.invariant.time c.attend_thing.ensures.attended);
      holding = c.attend_thing.ensures.holding;
      time = c.attend_thing.ensures.time ∙ c.loop-number.invariant.time;
    }

pub returns-clause-attended : goal.returns-clause-attended
returns-clause-attended c =
    let m = c.args.things.now in
    let w = c.count-number-end.ensures.numbered in
    let T = c.args.cells.now.time in
    let xs = c.args.levels.now in
    let a = c.args.cells.now.cells in
    let b = c.loop-number.cells.cells in
    let all = c.loop-number.invariant.attended in
    let rest = thing_or_none m T xs w c.loop-number.number (omega arith) a in
    ap (λ (t : ℕ). state_by m t b) c.loop-number.invariant.time ∙ all-attended m T xs w a b (ThingsBelow m c.loop-number.number) c.requires.holding.within c.requires.right all rest

pub returns-clause-same : goal.returns-clause-same
returns-clause-same c =
    let m = c.args.things.now in
    let w = c.count-number-end.ensures.numbered in
    let T = c.args.cells.now.time in
    let xs = c.args.levels.now in
    let a = c.args.cells.now.cells in
    given-attended m T xs a c.loop-number.cells.cells (ThingsBelow m c.loop-number.number) c.loop-number.invariant.attended

pub returns-clause-quiet : goal.returns-clause-quiet
returns-clause-quiet c =
    let m = c.args.things.now in
    let w = c.count-number-end.ensures.numbered in
    let T = c.args.cells.now.time in
    let xs = c.args.levels.now in
    let a = c.args.cells.now.cells in
    let b = c.loop-number.cells.cells in
    let all = c.loop-number.invariant.attended in
    let rest = thing_or_none m T xs w c.loop-number.number (omega arith) a in
    quiet-attended m T xs a b (ThingsBelow m c.loop-number.number) all rest
