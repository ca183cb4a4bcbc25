use Rattle.std.proofs.Common.{◌<◌, ℕ, ◌∙◌, subst, length, arith}
use Rattle.std.specs.Int.{w16}
use Rattle.nbt.specs.Spelling.{unsigned}
use Rattle.nbt.proofs.Fronts.{IsBytes, bytes-front, bytes-back, are-bytes, cut-text-length, cut-text-bytes, text-front}
use Rattle.nbt.proofs.front.cut_text.Goals as goal

pub returns-in_err-count-clause-none : goal.returns-in_err-count-clause-none
returns-in_err-count-clause-none c =
    rw c.from_residual.ensures (cut-text-length c.args.bytes.now (λ i. omega (arith, c.type_inv.bytes i)) c.in_err-count.ensures.none)

pub returns-in_err-text-clause-none : goal.returns-in_err-text-clause-none
returns-in_err-text-clause-none c =
    let rest = c.in_ok-count.rest.now in
    let few = subst (λ (n : ℕ). length rest < n) c.from.ensures c.in_err-text.ensures.none in
    rw c.from_residual-in_err-text.ensures (cut-text-bytes c.args.bytes.now rest c.in_ok-count.count (λ i. omega (arith, c.type_inv.bytes i)) c.in_ok-count.ensures.limit c.in_ok-count.ensures.some few)

pub returns-clause-some : goal.returns-clause-some
returns-clause-some c =
    text-front c.args.bytes.now c.in_ok-count.rest.now c.in_ok-text.rest.now c.in_ok-text.text.now c.in_ok-count.count
    c.in_ok-count.ensures.some c.in_ok-text.ensures.some (c.in_ok-text.ensures.count ∙ c.from.ensures)

pub returns-clause-text : goal.returns-clause-text
returns-clause-text c =
    let all : IsBytes c.args.bytes.now = λ i. omega (arith, c.type_inv.bytes i) in
    let rest : IsBytes c.in_ok-count.rest.now = bytes-back (unsigned w16 c.in_ok-count.count) c.in_ok-count.rest.now (subst IsBytes c.in_ok-count.ensures.some all) in
    let text : IsBytes c.in_ok-text.text.now = bytes-front c.in_ok-text.text.now c.in_ok-text.rest.now (subst IsBytes c.in_ok-text.ensures.some rest) in
    let limit = c.in_ok-count.ensures.limit in
    (omega (arith, c.in_ok-text.ensures.count, c.from.ensures), are-bytes c.in_ok-text.text.now text)
