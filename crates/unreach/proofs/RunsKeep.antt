-- What holds at the start and is kept by each event holds at the end of each run.
use Rattle.std.proofs.Common.{ℕ, ◌≤◌, List, [], ◌∷◌, sym, subst}
use Rattle.circuit.specs.declared.Act.{Act}
use Rattle.circuit.specs.declared.Step.{Step}
use Rattle.circuit.specs.Circuit.{Circuit, State, outs, put, fired_in, fire, fire_all, with_value, later}
use Rattle.circuit.specs.Shows.{Run, Ended, Clicked, Ticked, Plays}
use Rattle.circuit.proofs.Matches.{IsInvariant}
use Rattle.graph.specs.Graph.{Nodes, node_at}
use Rattle.graph.specs.GraphCircuit.{graph_circuit}
use Rattle.graph.specs.Sound.{IsSound}
use Rattle.graph.specs.Steps.{bound_at}
use Rattle.unreach.specs.Within.{Within, within_is_invariant, outs_le-bound}

firings_keep : {K : Type 0} (C : Circuit K) (I : State K → Type 0) → IsInvariant C I → (keys : List K) (s : State K) → I s → I (fire_all C s keys)
firings_keep C I keeps [] s i = i
firings_keep C I keeps (key ∷ keys) s i = firings_keep C I keeps keys (fire C s key) (keeps.attends (put C s key (fired_in C s key)) (keeps.fires s key i))

run_keeps : {K : Type 0} (C : Circuit K) (I : State K → Type 0) → IsInvariant C I → {s last : State K} {steps : List Step} {order : List (List K)} {views : List (List ℕ)} → Run C s steps order views last → I s → I last
run_keeps C I keeps Ended i = i
run_keeps C I keeps {s} (Clicked {next} {click} hit run) i = run_keeps C I keeps run
    (subst I (sym hit.after) (keeps.attends (put C s hit.key (with_value (s.cells hit.key) hit.value)) (keeps.clicks s hit.key hit.component click hit.value i hit.there hit.takes)))
run_keeps C I keeps {s} (Ticked {fires} tick run) i = run_keeps C I keeps run (subst I (sym tick.after) (firings_keep C I keeps fires (later s) (keeps.passes s i)))

-- So no node of a sound graph ever gives more than its bound.
pub never_more : (g : Nodes) (acts : List Act) (order : List (List ℕ)) (views : List (List ℕ)) (last : State ℕ) → IsSound g → Plays (graph_circuit g) acts order views last →
    (key : ℕ) → outs (graph_circuit g) last key ≤ bound_at g (node_at g key)
never_more g acts order views last sound p = outs_le-bound g sound last
    (run_keeps (graph_circuit g) (Within g) (within_is_invariant g sound) p.run
    ((within_is_invariant g sound).attends (record { time = 0; cells = (graph_circuit g).begin }) (within_is_invariant g sound).begins))
