use Rattle.std.proofs.Common.{sym, ◌∙◌}
use Rattle.world_engine.proofs.ToldSteps.{wire_reads}
use Rattle.world_engine.proofs.told.reads_any.Goals as goal

pub returns-then-is_wire_of : goal.returns-then-is_wire_of
returns-then-is_wire_of c = wire_reads c.args.things.now c.count.ensures.numbered c.args.levels.now c.args.number c.requires.inside (sym c.is_wire_of.ensures ∙ c.if-is_wire_of.true)
