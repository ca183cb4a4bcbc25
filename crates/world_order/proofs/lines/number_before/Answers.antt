use Rattle.std.proofs.Common.{◌≡◌, ◌<◌, ◌^◌, None, Some, sym, ◌∙◌, arith}
use Rattle.world_order.proofs.Numbers.{number_here, no_number_short, no_number_word}
use Rattle.world_order.proofs.lines.number_before.Goals as goal

pub returns-then-len-rest-clause-none : goal.returns-then-len-rest-clause-none
returns-then-len-rest-clause-none c = λ none. no_number_short c.args.end c.args.rest.now c.word_len-len.result c.requires c.word_len-len.ensures c.if-len-rest.true

pub returns-in_default-clause-none : goal.returns-in_default-clause-none
returns-in_default-clause-none c = λ none.
    no_number_word c.args.end c.args.rest.now c.word_len-len.result c.requires c.word_len-len.ensures
    (λ n small is. let found : c.read_u32.result ≡ Some n = c.read_u32.ensures.every n small is in let clash : None ≡ Some n = sym c.in_default.is ∙ found in absurd (cc))

pub returns-clause-some : goal.returns-clause-some
returns-clause-some c =
    let small : c.in-Some.number < 2 ^ 32 = omega arith in
    number_here c.args.end c.args.rest.now c.in-Some.number c.word_len-len.result c.word_len-len.ensures c.if-len-rest.false small c.in-Some.ensures.text
