use Rattle.std.proofs.Common.{ap, ◌∙◌}
use Rattle.std.specs.Prelude.{is_some}
use Rattle.build.specs.Places.{found-is_some}
use Rattle.build.proofs.build.Build.contains.Goals as goal

pub returns : goal.returns
returns c = c.is_some.ensures ∙ ap is_some c.cell.ensures.found ∙ found-is_some c.args.self.now c.args.pos
