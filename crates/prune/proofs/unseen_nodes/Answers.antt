-- What is kept of the keys is what has a mark that isn't set.
use Rattle.std.proofs.Common.{◌∙◌, ap, sym, subst}
use Rattle.std.specs.Prelude.{filter}
use Rattle.prune.specs.Found.{is_unmarked, TellUnseen}
use Rattle.prune.proofs.KeySteps.{unmarked_are}
use Rattle.prune.proofs.unseen_nodes.Goals as goal

pub returns : goal.returns
returns c =
    unmarked_are c.args.graph.now.nodes c.deref-2.result.now c.keep_unmarked.new.keys.items
    (c.keep_unmarked.ensures ∙ ap (filter (is_unmarked c.deref-2.result.now)) c.in_ok-keys.ensures)
    (subst (TellUnseen c.args.graph.now.nodes) (sym c.deref-2.ensures.value) c.in_ok-marks.ensures)
