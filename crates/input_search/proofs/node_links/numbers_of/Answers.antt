use Rattle.std.proofs.Common.{arith, subst, ◌≡◌, ℕ}
use Rattle.input_search.specs.Numbers.{AreNodeCells}
use Rattle.input_search.proofs.RankSteps.{ranks}
use Rattle.input_search.proofs.node_links.numbers_of.Goals as goal

pub returns : goal.returns
returns c =
    let all : c.loop-number.number ≡ c.args.count = omega arith in
    ranks c.args.build.now c.args.graph.now.nodes c.requires.spread c.args.count c.loop-number.numbers c.requires.there
    (subst (λ (n : ℕ). AreNodeCells c.args.build.now c.args.graph.now.nodes n c.loop-number.numbers) all c.loop-number.invariant)
