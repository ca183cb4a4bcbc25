use Rattle.std.proofs.Common.{arith}
use Rattle.graph_machine.proofs.PlaceSteps.{clicked_more, clicked_all}
use Rattle.graph_machine.proofs.places.clicked_by.Goals as goal

pub loop-key-preserved : goal.loop-key-preserved
loop-key-preserved c = clicked_more c.args.graph.now.nodes c.requires.sound c.loop-key.key c.part_under.result c.loop-key.keys c.put_clicked.new.keys c.part_under.ensures c.in_ok-put_clicked.ensures c.loop-key.invariant

pub returns : goal.returns
returns c = clicked_all c.args.graph.now.nodes c.loop-key.key c.loop-key.keys (λ key past. c.requires.past key (omega (arith, past, c.loop-key-test.false))) c.loop-key.invariant
