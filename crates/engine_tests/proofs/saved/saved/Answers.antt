-- A compiled graph is sound and has its blocks, and its start is the end of a run of no acts.
use Rattle.std.proofs.Common.{[], ◌∷◌, refl, sym, subst}
use Rattle.circuit.specs.Circuit.{start, view}
use Rattle.circuit.specs.Shows.{Ended}
use Rattle.graph.specs.GraphCircuit.{graph_circuit}
use Rattle.compiler.proofs.BuildPlaces.{compiled_blocks}
use Rattle.compiler.proofs.CompiledLaws.{compiled_sound}
use Rattle.handover.specs.Ended.{IsPlayed}
use Rattle.engine_tests.proofs.saved.saved.Goals as goal

pub start-requires : goal.start-requires
start-requires c = compiled_sound c.args.build.now c.cells.ensures.whole _ _ c.in_ok-graph.graph.nodes c.in_ok-graph.ensures

pub give_back-requires-clause-blocks : goal.give_back-requires-clause-blocks
give_back-requires-clause-blocks c = record { blocks = compiled_blocks c.args.build.now _ _ c.in_ok-graph.graph.nodes c.in_ok-graph.ensures }

pub give_back-requires-clause-played : goal.give_back-requires-clause-played
give_back-requires-clause-played c =
    let C = graph_circuit c.in_ok-graph.graph.nodes in
    subst (IsPlayed c.in_ok-graph.graph.nodes) (sym c.in_ok-machine.ensures.start)
    (record { acts = []; order = []; views = view C (start C) ∷ []; plays = record { rest = []; at_start = refl; run = Ended } })
