use Rattle.std.proofs.Common.{arith, ◌∙◌}
use Rattle.wire_net.specs.Noted.{InSome}
use Rattle.wire_net.proofs.Notes.{notes_then}
use Rattle.wire_net.proofs.waves.rise.Goals as goal

pub loop-level-preserved : goal.loop-level-preserved
loop-level-preserved g c = record {
  rising = c.rise_from.ensures.rising;
  noted = notes_then c.args.powers.now c.loop-level.powers c.rise_from.new.powers (InSome c.args.levels.now.lists) (InSome c.loop-level.levels.lists) (InSome c.rise_from.new.levels.lists) c.loop-level.invariant.noted c.rise_from.ensures.noted;
  low = omega (arith, c.loop-level.invariant.low);
  room = c.rise_from.ensures.room ∙ c.loop-level.invariant.room;
}
