-- All keys together are closed.
use Rattle.std.proofs.Common.{◌∙◌, sym, subst}
use Rattle.graph.specs.Edits.{IsClosed}
use Rattle.graph.proofs.ListedSteps.{all_keys_closed}
use Rattle.pass_tests.proofs.graph_tests.clear.Goals as goal

pub drop_set-requires : goal.drop_set-requires
drop_set-requires c = subst (IsClosed c.args.graph.now.nodes) (sym (c.deref.ensures.value ∙ c.in_ok-keys.ensures)) (all_keys_closed c.args.graph.now.nodes)
