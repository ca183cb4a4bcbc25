use Rattle.std.proofs.Common.{arith, sym, subst}
use Rattle.circuit.specs.declared.Pos.{Pos}
use Rattle.build.specs.Near.{near_more, near_beside}
use Rattle.build.specs.Plan.{IsNear}
use Rattle.replay_engine.proofs.near.two_steps.Goals as goal

pub beside-requires : goal.beside-requires
beside-requires c = near_more 0 3 c.args.pos (omega arith) c.requires

pub beside-requires-2 : goal.beside-requires-2
beside-requires-2 c = near_more 1 3 c.beside.result (omega arith) (subst (λ (q : Pos). IsNear 1 q) (sym c.beside.ensures) (near_beside c.args.first c.args.pos c.requires))
