use Rattle.block_table.specs.WrittenText.{number_text}
use Rattle.block_table.proofs.writing.number_text.Goals as goal

pub returns : goal.returns
unfolding number_text
returns c = c.text_at.ensures
