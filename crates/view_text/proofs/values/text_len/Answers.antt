use Rattle.std.proofs.Common.{List, ℕ, sym, ap, length}
use Rattle.view_text.proofs.Mending.{text_of_digit, text_of_two}
use Rattle.view_text.proofs.values.text_len.Goals as goal

pub returns-then-value-lt10 : goal.returns-then-value-lt10
returns-then-value-lt10 c = sym (ap (λ (text : List ℕ). length text) (text_of_digit c.args.value c.if-value-lt10.true))

pub returns-else-value-lt10 : goal.returns-else-value-lt10
returns-else-value-lt10 c = sym (ap (λ (text : List ℕ). length text) (text_of_two c.args.value c.if-value-lt10.false c.requires))
