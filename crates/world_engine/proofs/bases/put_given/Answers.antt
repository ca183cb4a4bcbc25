use Rattle.std.proofs.Common.{sym, ◌∙◌, arith}
use Rattle.world_engine.specs.Running.{given_by}
use Rattle.world_engine.proofs.BaseSteps.{sure_wire, sure_other}
use Rattle.world_engine.proofs.bases.put_given.Goals as goal

pub returns-then-is_wire_of : goal.returns-then-is_wire_of
returns-then-is_wire_of c =
    let m = c.args.things.now in
    sure_wire m (given_by m c.args.cells.now.cells) c.args.number c.args.bases.now (sym c.is_wire_of.ensures ∙ c.if-is_wire_of.true) c.requires.sure

pub returns : goal.returns
returns c =
    let m = c.args.things.now in
    sure_other m (given_by m c.args.cells.now.cells) c.args.number c.args.bases.now c.given_of.result (omega (arith, c.requires.inside, c.requires.whole)) c.given_of.ensures c.requires.sure
