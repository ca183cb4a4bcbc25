use Rattle.std.proofs.Common.{sym, ◌∙◌}
use Rattle.replay_engine.specs.Running.{given_by}
use Rattle.replay_engine.specs.WireThings.{length-things}
use Rattle.replay_engine.proofs.wires.WiresNet.cells.Goals as goal

pub returns : goal.returns
returns c =
    let m = c.args.self.now.given.things.now in
    c.count.ensures.count ∙ sym (length-things m (given_by m c.args.self.now.given.cells.now.cells))
