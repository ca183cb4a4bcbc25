use Rattle.std.proofs.Common.{sym, subst}
use Rattle.graph.specs.Graph.{Nodes}
use Rattle.graph.specs.Done.{Step}
use Rattle.graph.specs.Sound.{IsSound}
use Rattle.pass_frame.specs.Frame.{Reaches}
use Rattle.input_search.proofs.SoundRaw.{raw_sound}
use Rattle.pass_frame.specs.Rounds.{Rounds}
use Rattle.compiler.specs.Compiled.{prunes, Round}
use Rattle.compiler.proofs.compile_build.Goals as goal

pub run_passes-requires : goal.run_passes-requires
run_passes-requires c = subst IsSound (sym c.in_ok-graph.ensures) (raw_sound c.args.build.now c.cells.ensures.whole c.args.marks.now)

pub returns : goal.returns
returns c = record {
  steps = subst (λ (old : Nodes). Reaches (Step (prunes c.args.keep)) old c.run_passes.new.graph.nodes) c.in_ok-graph.ensures c.in_ok-run_passes.ensures.steps;
  done = c.in_ok-run_passes.ensures.done;
  rounds = subst (λ (old : Nodes). Rounds (Round (prunes c.args.keep)) old c.run_passes.new.graph.nodes) c.in_ok-graph.ensures c.in_ok-run_passes.ensures.rounds;
}
