use Rattle.std.proofs.Common.{rules, ◌≤◌, ◌++◌, length, drop, decimal, ℕ, List, sym, ap, append_assoc, length-append, ◌∙◌, arith}
use Rattle.std.proofs.lemmas.Fmt.{length-decimal-le}
use Rattle.view_text.proofs.Mending.{behind_stays}
use Rattle.view_text.proofs.head.put_head.Goals as goal

pub write_digits-requires : goal.write_digits-requires
write_digits-requires c =
    let short : length (decimal c.args.time) ≤ 20 = search (rules, length-decimal-le 20) in
    (omega arith, omega arith)

pub returns-clause-values : goal.returns-clause-values
returns-clause-values c =
    let head = decimal c.args.time ++ c.cause_part.result.now in
    behind_stays c.args.line.now c.write_digits.new.buf head c.write_digits.result 32
    (c.write_digits.ensures.written ∙ ap (λ (text : List ℕ). decimal c.args.time ++ text) c.put_before-middle.ensures.text ∙ sym (append_assoc (decimal c.args.time) c.cause_part.result.now (drop 32 c.args.line.now)))
    (omega (arith, length-append (decimal c.args.time) c.cause_part.result.now, c.write_digits.ensures.start, c.put_before-middle.ensures.begin))
