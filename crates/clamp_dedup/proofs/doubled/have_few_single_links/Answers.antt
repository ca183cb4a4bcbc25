-- One node after another has single links.
use Rattle.std.proofs.Common.{◌≡◌, get_or, refl}
use Rattle.graph.specs.Graph.{Lives}
use Rattle.pass_frame.proofs.Sweeps.{done_next, key_in_turn, sweep_all}
use Rattle.clamp_dedup.specs.Single.{IsSingle}
use Rattle.clamp_dedup.proofs.doubled.have_few_single_links.Goals as goal

pub loop-key-preserved : goal.loop-key-preserved
loop-key-preserved c =
    let turn : Lives c.args.graph.now.nodes c.key-item.result × (c.key-item.result ≡ get_or c.args.keys.now c.loop-key.key-index 0) =
    key_in_turn c.args.graph.now.nodes c.args.keys.now c.requires c.loop-key.key-index c.key-item.result c.loop-key-test.true c.key-item.is in
    done_next IsSingle c.args.graph.now.nodes c.args.graph.now.nodes c.args.keys.now c.loop-key.key-index c.key-item.result c.loop-key.invariant turn.1
    (c.has_few_single_links.ensures c.if-not-has_few_single_links.false) (λ other n. refl)

pub returns : goal.returns
returns c _ = sweep_all IsSingle c.args.graph.now.nodes c.args.graph.now.nodes c.args.keys.now c.loop-key.key-index c.requires c.loop-key.invariant c.loop-key-test.false (λ k h. h)
