use Rattle.std.proofs.Common.{sym, subst}
use Rattle.std.specs.Prelude.{OnOk}
use Rattle.graph.specs.Done.{IsDone}
use Rattle.compiler.specs.declared.Keep.{Keep}
use Rattle.pass_frame.specs.Rounds.{Rounds}
use Rattle.compiler.specs.Compiled.{prunes, Round}
use Rattle.compiler.proofs.run_passes.Goals as goal

pub returns-in-Prune-clause-done : goal.returns-in-Prune-clause-done
returns-in-Prune-clause-done c = subst (λ (keep : Keep). OnOk c.run_chain.result (IsDone (prunes keep) c.run_chain.new.graph.nodes)) (sym c.in-Prune.is) c.run_chain.ensures.done

pub returns-in-All-clause-done : goal.returns-in-All-clause-done
returns-in-All-clause-done c =
    subst (λ (keep : Keep). OnOk c.run_chain-in-All.result (IsDone (prunes keep) c.run_chain-in-All.new.graph.nodes)) (sym c.in-All.is) c.run_chain-in-All.ensures.done

pub returns-in-Prune-clause-rounds : goal.returns-in-Prune-clause-rounds
returns-in-Prune-clause-rounds c =
    subst (λ (keep : Keep). OnOk c.run_chain.result (Rounds (Round (prunes keep)) c.args.graph.now.nodes c.run_chain.new.graph.nodes)) (sym c.in-Prune.is) c.run_chain.ensures.rounds

pub returns-in-All-clause-rounds : goal.returns-in-All-clause-rounds
returns-in-All-clause-rounds c =
    subst (λ (keep : Keep). OnOk c.run_chain-in-All.result (Rounds (Round (prunes keep)) c.args.graph.now.nodes c.run_chain-in-All.new.graph.nodes)) (sym c.in-All.is) c.run_chain-in-All.ensures.rounds
