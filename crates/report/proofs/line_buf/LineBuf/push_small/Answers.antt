use Rattle.std.proofs.Common.{◌≡◌, ◌≤◌, List, ℕ, length, decimal, arith, ap, ◌∙◌}
use Rattle.std.proofs.lemmas.Fmt.{length-decimal-le}
use Rattle.report.proofs.line_buf.LineBuf.push_small.Goals as goal

pub push-requires : goal.push-requires
push-requires c =
    let text : c.as_bytes.result.now ≡ decimal c.args.number = c.as_bytes.ensures.value ∙ c.format.ensures.text in
    let same : length c.as_bytes.result.now ≡ length (decimal c.args.number) = ap (λ (xs : List ℕ). length xs) text in
    let short : length (decimal c.args.number) ≤ 2 = length-decimal-le 2 c.args.number (omega arith) (omega arith) (omega arith) in
    omega arith

pub returns-clause-short : goal.returns-clause-short
returns-clause-short c =
    let text : c.as_bytes.result.now ≡ decimal c.args.number = c.as_bytes.ensures.value ∙ c.format.ensures.text in
    let same : length c.as_bytes.result.now ≡ length (decimal c.args.number) = ap (λ (xs : List ℕ). length xs) text in
    let short : length (decimal c.args.number) ≤ 2 = length-decimal-le 2 c.args.number (omega arith) (omega arith) (omega arith) in
    omega arith
