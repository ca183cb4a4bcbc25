-- The node under the key is renamed.
use Rattle.std.proofs.Common.{◌∙◌, sym, ap}
use Rattle.std.specs.Option.{option_copied_mut}
use Rattle.graph.specs.Edits.{renamed}
use Rattle.graph.proofs.EditSteps.{change-plain}
use Rattle.graph.proofs.edits.rename_at.Goals as goal

pub returns-in-Some : goal.returns-in-Some
returns-in-Some c = change-plain (renamed c.args.keep c.args.gone) c.args.nodes.now.entries c.args.key c.in-Some.node.now c.rename.new.self
    (sym c.get_mut.ensures.value ∙ ap option_copied_mut c.in-Some.is) c.rename.ensures.plain
