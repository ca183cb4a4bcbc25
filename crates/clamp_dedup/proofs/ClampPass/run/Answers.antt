-- One node after another is clamped, and in the end all are.
use Rattle.std.proofs.Common.{◌≡◌, get_or, ◌∙◌, Ok}
use Rattle.graph.specs.Graph.{Lives}
use Rattle.graph.specs.Steps.{Clamps}
use Rattle.pass_frame.specs.Frame.{Stays}
use Rattle.pass_frame.proofs.FrameSteps.{ran_err, ran_exhausts}
use Rattle.pass_frame.proofs.Sweeps.{took_then, took_ran, done_next, lived_next, key_in_turn, sweep_all}
use Rattle.clamp_dedup.specs.Clamped.{IsClamped}
use Rattle.clamp_dedup.proofs.ClampSteps.{clamps_done}
use Rattle.clamp_dedup.proofs.ClampPass.run.Goals as goal

pub returns-in_err-keys-clause-ran : goal.returns-in_err-keys-clause-ran
returns-in_err-keys-clause-ran c = ran_err Clamps c.args.graph.now.nodes c.args.graph.now.nodes c.from_residual.result c.from_residual.ensures.0 Stays

pub loop-key-preserved : goal.loop-key-preserved
loop-key-preserved c =
    let turn : Lives c.args.graph.now.nodes c.key-item.result × (c.key-item.result ≡ get_or c.deref-key-items.result.now c.loop-key.key-index 0) =
    key_in_turn c.args.graph.now.nodes c.deref-key-items.result.now (c.deref-key-items.ensures.value ∙ c.in_ok-keys.ensures) c.loop-key.key-index c.key-item.result c.loop-key-test.true c.key-item.is in record {
      took = took_then Clamps c.args.graph.now.nodes c.loop-key.graph.nodes c.drop_heavy_links-took.new.graph.nodes c.loop-key.took c.drop_heavy_links-took.result c.loop-key.invariant.took c.drop_heavy_links-took.ensures.took;
      clamped = done_next IsClamped c.loop-key.graph.nodes c.drop_heavy_links-took.new.graph.nodes c.deref-key-items.result.now c.loop-key.key-index c.key-item.result c.loop-key.invariant.clamped turn.1
          c.drop_heavy_links-took.ensures.light c.drop_heavy_links-took.ensures.others;
      lived = lived_next c.args.graph.now.nodes c.loop-key.graph.nodes c.drop_heavy_links-took.new.graph.nodes c.key-item.result c.loop-key.invariant.lived turn.0 c.drop_heavy_links-took.ensures.others;
    }

pub returns-clause-done : goal.returns-clause-done
returns-clause-done c = clamps_done c.loop-key.graph.nodes
    (sweep_all IsClamped c.args.graph.now.nodes c.loop-key.graph.nodes c.deref-key-items.result.now c.loop-key.key-index (c.deref-key-items.ensures.value ∙ c.in_ok-keys.ensures)
    c.loop-key.invariant.clamped c.loop-key-test.false c.loop-key.invariant.lived)

pub returns-clause-ran : goal.returns-clause-ran
returns-clause-ran c = took_ran Clamps c.args.graph.now.nodes c.loop-key.graph.nodes c.loop-key.took c.loop-key.invariant.took (clamps_done c.loop-key.graph.nodes
    (sweep_all IsClamped c.args.graph.now.nodes c.loop-key.graph.nodes c.deref-key-items.result.now c.loop-key.key-index (c.deref-key-items.ensures.value ∙ c.in_ok-keys.ensures)
    c.loop-key.invariant.clamped c.loop-key-test.false c.loop-key.invariant.lived))

pub returns-clause-turn : goal.returns-clause-turn
returns-clause-turn c = ran_exhausts Clamps c.args.graph.now.nodes c.loop-key.graph.nodes (Ok c.loop-key.took) (returns-clause-ran c) (returns-clause-done c)
