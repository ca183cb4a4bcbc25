use Rattle.std.proofs.Common.{arith, ◌∙◌, ap, slice_index, length, List, ℕ}
use Rattle.wire_net.specs.Sweeps.{between_start, between_end, zeros}
use Rattle.wire_net.proofs.solve_into.Goals as goal

pub loop-round-init : goal.loop-round-init
loop-round-init g c =
    between_start (g.N.Net.net c.args.net.now) c.fill.new.self (c.fill.ensures.len ∙ c.requires)
    (λ j. ap (λ (xs : List ℕ). slice_index xs j) (c.fill.ensures.after (λ y e. e)) ∙ zeros (length c.args.powers.now) j)

pub loop-round-preserved : goal.loop-round-preserved
loop-round-preserved g c = c.sweep.ensures.round c.loop-round._round c.loop-round.invariant

pub returns : goal.returns
returns g c = between_end (g.N.Net.net c.args.net.now) c.loop-round._round c.loop-round.powers (g.met.N.Net.bounded c.args.net.now) (omega arith) c.loop-round.invariant
