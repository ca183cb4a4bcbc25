use Rattle.std.proofs.Common.{List, sym, subst}
use Rattle.circuit.specs.declared.Act.{Act}
use Rattle.circuit.specs.Taken.{EachActTaken}
use Rattle.graph.specs.Graph.{Nodes}
use Rattle.graph.specs.GraphCircuit.{graph_circuit}
use Rattle.bounded_reads.specs.Twins.{acts}
use Rattle.bounded_reads.proofs.TwinRuns.{twins_take, written_reads, began_reads, refused_reads}
use Rattle.bounded_reads.proofs.read_by_play.Goals as goal

pub play-requires-clause-taken : goal.play-requires-clause-taken
play-requires-clause-taken g c =
    subst (λ (asked : List Act). EachActTaken (graph_circuit c.args.graph.now.nodes) asked) (sym c.requires.script) (subst (λ (nodes : Nodes). EachActTaken (graph_circuit nodes) acts) (sym c.requires.graph) twins_take)

pub returns-in-Ok : goal.returns-in-Ok
returns-in-Ok g c = written_reads c.args.graph.now.nodes c.requires.graph c.args.script.now.acts c.requires.script _ _ _ _ c.args.steps.now c.play.new.steps c.in-Ok.ensures.done

pub returns-in-Err : goal.returns-in-Err
returns-in-Err g c =
    refused_reads c.in-Err.refusal c.args.steps.now c.play.new.steps
    (λ e. began_reads c.args.graph.now.nodes c.requires.graph c.args.script.now.acts c.requires.script _ _ _ c.args.steps.now c.play.new.steps (c.in-Err.ensures.front e))
    (λ e. (c.in-Err.ensures.nothing e).1)
