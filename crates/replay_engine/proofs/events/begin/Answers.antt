use Rattle.std.proofs.Common.{ap, arith}
use Rattle.circuit.specs.declared.Pos.{Pos}
use Rattle.circuit.specs.Circuit.{State}
use Rattle.replay_engine.proofs.Within.{within_start}
use Rattle.replay_engine.proofs.Starting.{idle_start, stored_then}
use Rattle.replay_engine.proofs.events.begin.Goals as goal

pub solve-requires-clause-within : goal.solve-requires-clause-within
solve-requires-clause-within c = within_start c.args.things.now c.count.ensures.numbered c.args.cells.now.cells (stored_then c.args.things.now c.args.cells.now c.requires.stored)

pub attend_all-requires-clause-holding : goal.attend_all-requires-clause-holding
attend_all-requires-clause-holding c = record {
  whole = c.requires.cells_whole;
  within = within_start c.args.things.now c.count.ensures.numbered c.args.cells.now.cells (stored_then c.args.things.now c.args.cells.now c.requires.stored);
  early = omega (arith, ap (λ (s : State Pos). s.time) c.requires.stored);
}

pub returns-clause-idle : goal.returns-clause-idle
returns-clause-idle c = idle_start c.args.things.now c.args.cells.now c.attend_all.new.cells c.requires.stored c.attend_all.ensures.attended
