use Rattle.std.proofs.Common.{◌≡◌, ◌<◌, ℕ, ◌∙◌, subst, arith, get_or, below_more}
use Rattle.graph.proofs.KeyBounds.{same_default}
use Rattle.graph.proofs.keys.count_of.Goals as goal

pub loop-key-preserved : goal.loop-key-preserved
loop-key-preserved c =
    let here : c.key-item.result ≡ get_or c.args.keys.now c.loop-key.key-index 0 = c.key-item.is ∙ same_default c.args.keys.now c.loop-key.key-index _ 0 c.loop-key-test.true in
    record {
      above = below_more (λ (k : ℕ). get_or c.args.keys.now k 0 < c.larger-count.result) c.loop-key.key-index
          (λ k h. let low = c.loop-key.invariant.above k h in omega (arith, low, c.larger-count.ensures))
          (omega (arith, here, c.larger-count.ensures, c.number.ensures));
      few = omega (arith, c.loop-key.invariant.few, c.larger-count.ensures, c.number.type_inv);
    }

pub returns-clause-above : goal.returns-clause-above
returns-clause-above c k d below =
    subst (λ n. n < c.loop-key.count) (same_default c.args.keys.now k 0 d below) (c.loop-key.invariant.above k (omega (arith, below, c.loop-key-test.false)))
