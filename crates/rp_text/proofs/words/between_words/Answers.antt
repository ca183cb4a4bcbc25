use Rattle.rp_text.proofs.WordSteps.{IsBetweenWords-run_end, run_end-le-word}
use Rattle.std.proofs.Common.{arith, sym}
use Rattle.std.proofs.lemmas.List.{take_rest}
use Rattle.rp_text.proofs.words.between_words.Goals as goal

pub returns-then-not-is_blank-clause-between : goal.returns-then-not-is_blank-clause-between
returns-then-not-is_blank-clause-between c =
    let run = rw take_rest at c.leading_word_bytes.ensures.value in
    IsBetweenWords-run_end c.args.line.now c.args.from c.leading_word_bytes.result (omega arith) run

pub returns-then-not-is_blank-clause-passed : goal.returns-then-not-is_blank-clause-passed
returns-then-not-is_blank-clause-passed c =
    let run = rw take_rest at c.leading_word_bytes.ensures.value in
    λ start to word after. run_end-le-word c.args.line.now c.args.from c.leading_word_bytes.result start to (omega arith) (sym c.if-not-is_blank.ensures) run word after
