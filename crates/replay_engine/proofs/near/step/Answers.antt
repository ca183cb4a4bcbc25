use Rattle.std.proofs.Common.{arith}
use Rattle.build.specs.Near.{near_more}
use Rattle.replay_engine.proofs.near.step.Goals as goal

pub beside-requires : goal.beside-requires
beside-requires c = near_more 0 3 c.args.pos (omega arith) c.requires
