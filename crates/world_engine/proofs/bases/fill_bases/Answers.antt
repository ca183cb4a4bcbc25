use Rattle.std.proofs.Common.{arith}
use Rattle.world_engine.specs.Running.{given_by}
use Rattle.world_engine.proofs.BaseSteps.{based_start, based_more, sure_more, based_all}
use Rattle.world_engine.proofs.bases.fill_bases.Goals as goal

pub loop-number-init : goal.loop-number-init
loop-number-init c = record {
  sure = c.fill_given.ensures;
  based = based_start c.args.things.now (given_by c.args.things.now c.args.cells.now.cells) c.fill_given.new.bases;
}

pub loop-number-preserved : goal.loop-number-preserved
loop-number-preserved c =
    let m = c.args.things.now in
    let given = given_by m c.args.cells.now.cells in
    record {
      sure = sure_more m given c.loop-number.number c.loop-number.bases c.base_of-base.result (omega arith) c.base_of-base.ensures c.loop-number.invariant.sure;
      based = based_more m given c.loop-number.number c.loop-number.bases c.base_of-base.result (omega arith) c.base_of-base.ensures c.loop-number.invariant.based;
    }

pub returns : goal.returns
returns c =
    let m = c.args.things.now in
    based_all m (given_by m c.args.cells.now.cells) c.loop-number.number c.loop-number.bases (omega arith) (omega arith) c.loop-number.invariant.based
