-- The graph that a build is compiled to.
use Rattle.std.specs.Prelude.{Bool, true, false, List}
use Rattle.circuit.specs.declared.Pos.{Pos}
use Rattle.build.specs.Plan.{Plan}
use Rattle.graph.specs.Graph.{Nodes}
use Rattle.graph.specs.Done.{Step, IsDone}
use Rattle.graph.specs.Steps.{Clamps, Dedups, Unreaches, Folds, Prunes}
use Rattle.pass_frame.specs.Frame.{Reaches}
use Rattle.pass_frame.specs.Rounds.{Exhausts, InTurn, TurnWhen, Rounds}
use Rattle.coalesce.specs.Sweeps.{SweepsOnce}
use Rattle.input_search.specs.Raw.{raw}
use Rattle.compiler.specs.declared.Keep.{Keep}
use Rattle.compiler.specs.declared.Keep.TheVariants.{Prune, All}

-- whether what nobody sees is pruned
abbrev pub prunes : Keep → Bool
prunes Prune = true
prunes All = false

-- One round: each pass in turn, until none of its steps is enabled; of coalescing as many sweeps as take something, and pruning where it is wanted.
abbrev pub Round : Bool → Nodes → Nodes → Type 0
Round pruning =
    InTurn (Exhausts Clamps) (InTurn (Exhausts Dedups) (InTurn (Exhausts Unreaches) (InTurn (Exhausts Folds) (InTurn (Rounds SweepsOnce) (TurnWhen pruning (Exhausts Prunes))))))

-- The raw graph leads to it by steps, one at a time, and none is left. They were taken by rounds, up to one that changes nothing.
pub record Compiled (b : Plan) (marks : List Pos) (keep : Keep) (g : Nodes) : Type 0 where
  pub steps : Reaches (Step (prunes keep)) (raw b marks) g
  pub done : IsDone (prunes keep) g
  pub rounds : Rounds (Round (prunes keep)) (raw b marks) g
