use Rattle.world_engine.specs.Running.{given_by}
use Rattle.world_engine.specs.Levels.{Rebased}
use Rattle.world_engine.proofs.bases.rebase.Given as goal

abbrev pub invariant-loop-driven : goal.invariant-loop-driven
invariant-loop-driven l = Rebased l.things l.wiring (given_by l.things l.cells.cells) l.number l.driven-index l.bases
