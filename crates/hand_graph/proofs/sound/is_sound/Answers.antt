-- One node more is sound and alone, and in the end all are.
use Rattle.std.proofs.Common.{◌≡◌, Some, refl, arith}
use Rattle.graph.specs.Graph.{Node, node_at}
use Rattle.graph.specs.Sound.{IsSoundNode}
use Rattle.hand_graph.specs.Apart.{IsAloneBefore}
use Rattle.hand_graph.proofs.Alone.{all_sound, one_more}
use Rattle.hand_graph.proofs.sound.is_sound.Goals as goal

pub loop-number-preserved : goal.loop-number-preserved
loop-number-preserved c = record {
  sound = one_more (λ k. (node : Node) → node_at c.args.graph.now.nodes k ≡ Some node → IsSoundNode c.args.graph.now.nodes node) c.loop-number.number c.loop-number.invariant.sound (c.if-not-is_sound_at.ensures refl);
  alone = one_more (λ k. IsAloneBefore c.args.graph.now.nodes k) c.loop-number.number c.loop-number.invariant.alone (c.if-not-is_alone.ensures refl);
}

pub returns : goal.returns
returns c = λ t. all_sound c.args.graph.now.nodes c.loop-number.number (omega (arith, c.requires, c.loop-number-test.false)) c.loop-number.invariant.sound c.loop-number.invariant.alone
