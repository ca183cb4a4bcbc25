use Rattle.std.proofs.Common.{ℕ, ap, sym, subst, ◌∙◌, arith}
use Rattle.circuit.specs.declared.Pos.{Pos}
use Rattle.circuit.specs.Circuit.{State}
use Rattle.wire_net.specs.Net.{IsRight}
use Rattle.wiring.specs.Wired.{bases_of, level_cells}
use Rattle.world_engine.proofs.Within.{within_start}
use Rattle.world_engine.proofs.Starting.{idle_start, stored_then}
use Rattle.world_engine.proofs.events.begin.Goals as goal

pub fill_bases-requires-clause-within : goal.fill_bases-requires-clause-within
fill_bases-requires-clause-within c = within_start c.args.things.now c.count.ensures.numbered c.args.cells.now.cells (stored_then c.args.things.now c.args.cells.now c.requires.stored)

pub solve_levels-requires-clause-within : goal.solve_levels-requires-clause-within
solve_levels-requires-clause-within c = within_start c.args.things.now c.count.ensures.numbered c.args.cells.now.cells (stored_then c.args.things.now c.args.cells.now c.requires.stored)

pub attend_all-requires-clause-holding : goal.attend_all-requires-clause-holding
attend_all-requires-clause-holding c = record {
  whole = c.requires.cells_whole;
  within = within_start c.args.things.now c.count.ensures.numbered c.args.cells.now.cells (stored_then c.args.things.now c.args.cells.now c.requires.stored);
  early = omega (arith, ap (λ (s : State Pos). s.time) c.requires.stored);
}

pub returns-clause-based : goal.returns-clause-based
returns-clause-based c = c.fill_bases.ensures ∙ ap (bases_of c.args.things.now) (sym c.attend_all.ensures.same)

pub returns-clause-right : goal.returns-clause-right
returns-clause-right c = subst (λ (g : Pos → ℕ). IsRight (level_cells c.args.things.now g) c.solve_levels.new.levels) (sym c.attend_all.ensures.same) c.solve_levels.ensures

pub returns-clause-idle : goal.returns-clause-idle
returns-clause-idle c = idle_start c.args.things.now c.args.cells.now c.attend_all.new.cells c.requires.stored c.attend_all.ensures.attended
