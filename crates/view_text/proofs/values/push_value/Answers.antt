use Rattle.std.proofs.Common.{◌+◌, ◌%◌, ◌++◌, ◌∷◌, [], ℕ, List, sym, ap, ◌∙◌, append_assoc}
use Rattle.view_text.proofs.Mending.{text_of_digit, text_of_two}
use Rattle.view_text.proofs.values.push_value.Goals as goal

pub returns-then-value-lt10-clause-text : goal.returns-then-value-lt10-clause-text
returns-then-value-lt10-clause-text c =
    let line = c.args.line.now.items in
    let value = c.args.value in
    c.append-then-value-lt10.ensures.items ∙ ap (λ (text : List ℕ). text ++ ((48 + value) ∷ [])) c.append.ensures.items
    ∙ append_assoc line (32 ∷ []) ((48 + value) ∷ []) ∙ ap (λ (text : List ℕ). line ++ text) (sym (text_of_digit value c.if-value-lt10.true))

pub returns-else-value-lt10-clause-text : goal.returns-else-value-lt10-clause-text
returns-else-value-lt10-clause-text c =
    let line = c.args.line.now.items in
    let value = c.args.value in
    let digit = 48 + value % 10 in
    c.append-else-value-lt10-2.ensures.items ∙ ap (λ (text : List ℕ). text ++ (digit ∷ [])) (c.append-else-value-lt10.ensures.items ∙ ap (λ (text : List ℕ). text ++ (49 ∷ [])) c.append.ensures.items)
    ∙ append_assoc (line ++ (32 ∷ [])) (49 ∷ []) (digit ∷ []) ∙ append_assoc line (32 ∷ []) (49 ∷ digit ∷ [])
    ∙ ap (λ (text : List ℕ). line ++ text) (sym (text_of_two value c.if-value-lt10.false c.requires.value))
