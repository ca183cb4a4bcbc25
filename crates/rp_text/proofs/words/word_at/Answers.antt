use Rattle.std.proofs.Common.{arith, ◌+◌, ◌∙◌, ap, sym, ⊎_elim, drop}
use Rattle.std.proofs.lemmas.Bool.{cases_lt}
use Rattle.std.proofs.lemmas.List.{take_rest}
use Rattle.rp_text.specs.Words.{words}
use Rattle.rp_text.proofs.WordSteps.{IsBetweenWords-run_end, IsWord-run, IsFirstWord-run, words-run, words-none, blanks_end-le-word}
use Rattle.rp_text.proofs.words.word_at.Goals as goal

pub returns-then-start-line-clause-none : goal.returns-then-start-line-clause-none
returns-then-start-line-clause-none c =
    let gap = rw take_rest at c.leading_blanks.ensures.value in
    λ start to word. ⊎_elim
    (λ before. before)
    (λ after. let past = blanks_end-le-word c.args.line.now _ _ start to gap word (c.between_words-between.ensures.passed start to word after) in absurd (omega arith))
    (cases_lt start c.args.from)

pub returns-then-start-line-clause-words : goal.returns-then-start-line-clause-words
returns-then-start-line-clause-words c =
    let gap = rw take_rest at c.leading_blanks.ensures.value in
    λ between. ap (λ n. words (drop n c.args.line.now)) (sym (c.between_words-between.ensures.same between)) ∙ words-none c.args.line.now _ _ gap (omega arith)

pub returns-clause-first : goal.returns-clause-first
returns-clause-first c =
    let gap = rw take_rest at c.leading_blanks.ensures.value in
    let run = rw take_rest at c.leading_word_bytes.ensures.value in
    IsFirstWord-run c.args.line.now c.args.from c.between_words-between.result c.leading_blanks.result c.leading_word_bytes.result (omega arith) c.between_words-between.ensures.passed
    (IsWord-run c.args.line.now c.between_words-between.result c.leading_blanks.result c.leading_word_bytes.result c.between_words-between.ensures.between gap (omega arith) run) gap

pub returns-clause-words : goal.returns-clause-words
returns-clause-words c =
    let gap = rw take_rest at c.leading_blanks.ensures.value in
    let run = rw take_rest at c.leading_word_bytes.ensures.value in
    let word = IsWord-run c.args.line.now c.between_words-between.result c.leading_blanks.result c.leading_word_bytes.result c.between_words-between.ensures.between gap (omega arith) run in
    λ between. ap (λ n. words (drop n c.args.line.now)) (sym (c.between_words-between.ensures.same between)) ∙ words-run c.args.line.now _ _ _ gap run (omega (arith, word))

pub returns-clause-between : goal.returns-clause-between
returns-clause-between c =
    let run = rw take_rest at c.leading_word_bytes.ensures.value in
    IsBetweenWords-run_end c.args.line.now (c.between_words-between.result + c.leading_blanks.result) c.leading_word_bytes.result (omega arith) run
