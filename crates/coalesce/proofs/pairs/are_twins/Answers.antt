-- All parts of the test hold but the last, which decides.
use Rattle.std.proofs.Common.{sym, ◌∙◌}
use Rattle.std.proofs.lemmas.Bool.{false≢true}
use Rattle.graph.specs.Stored.{plain}
use Rattle.coalesce.proofs.PairSteps.{twins_where}
use Rattle.coalesce.proofs.pairs.are_twins.Goals as goal
use Rattle.coalesce.proofs.pairs.are_twins.Goals.{then-look_alike, else-look_alike}

pub returns-then-read_alike : goal.returns-then-read_alike
returns-then-read_alike c = elim c.if-look_alike.branch [
  | then-look_alike w ↦ twins_where c.args.graph.now.nodes c.args.keep c.args.gone (plain c.in-Some-Some.a.now) (plain c.in-Some-Some.b.now) c.args.targets.now c.in_one_group.result
      (sym c.in-Some-Some.ensures.value) (sym c.in-Some-Some.ensures'.value) (c.look_alike.ensures.0 w.if-look_alike.true) (w.read_alike.ensures.0 (sym w.value-is ∙ c.if-read_alike.true)) c.requires c.in_one_group.ensures.0 c.in_one_group.ensures.1
  | else-look_alike w ↦ absurd (false≢true (sym w.if-look_alike.false ∙ sym w.value-is ∙ c.if-read_alike.true))
]
