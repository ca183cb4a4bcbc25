use Rattle.block_table.specs.WrittenText.{state_text}
use Rattle.block_table.proofs.writing.push_text.Goals as goal

pub returns-in-Button-clause-ok : goal.returns-in-Button-clause-ok
unfolding state_text
returns-in-Button-clause-ok c =
    rw c.in-Button.is (rw (c.name_at-in-Button.ensures, c.face_text-in-Button.ensures, c.side_text-in-Button.ensures, c.flag_text-in-Button.ensures) at c.push_texts-in-Button.ensures.ok)
