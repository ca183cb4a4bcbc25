use Rattle.std.proofs.Common.{◌∙◌}
use Rattle.item_table.proofs.ListedNames.{any_of_texts}
use Rattle.item_table.proofs.is_among.Goals as goal

pub returns : goal.returns
returns c = c.contains_text.ensures ∙ any_of_texts c.args.name.now c.args.listed.now
