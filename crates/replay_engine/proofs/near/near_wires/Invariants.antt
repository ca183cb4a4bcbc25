use Rattle.replay_engine.proofs.Spots.{AreListed}
use Rattle.replay_engine.proofs.near.near_wires.Given as goal

abbrev pub invariant-loop-pos : goal.invariant-loop-pos
invariant-loop-pos l = AreListed l.things l.pos-items l.pos-index l.wires l.count
