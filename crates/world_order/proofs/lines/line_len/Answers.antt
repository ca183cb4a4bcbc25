use Rattle.std.proofs.Common.{◌+◌, ◌<◌, ℕ, length, arith, ap}
use Rattle.world_order.specs.LineForms.{word_len}
use Rattle.world_order.proofs.Numbers.{first_line, unended_short}
use Rattle.world_order.proofs.lines.line_len.Goals as goal

pub prove-unreachable-requires : goal.prove-unreachable-requires
prove-unreachable-requires c = let below : word_len 10 c.args.rest.now < length c.args.rest.now = unended_short c.args.rest.now c.requires in omega (arith, below, c.word_len-len.ensures)

pub returns : goal.returns
returns c = first_line c.args.rest.now (c.word_len-len.result + 1) c.requires (ap (λ (n : ℕ). n + 1) c.word_len-len.ensures)
