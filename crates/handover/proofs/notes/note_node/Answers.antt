use Rattle.handover.proofs.Noted.{noted_next}
use Rattle.handover.proofs.notes.note_node.Goals as goal

pub loop-pos-preserved : goal.loop-pos-preserved
loop-pos-preserved c = record {
  notes = noted_next c.args.build.now c.args.node.now.pos c.args.node.now.also.items.items c.deref-pos-items.result.now c.loop-pos.pos-index _ c.args.state c.args.held.now c.loop-pos.held c.note_place-in-loop-pos.new.held
      c.deref-pos-items.ensures.value c.loop-pos-test.true c.loop-pos.invariant.notes c.note_place-in-loop-pos.ensures.notes;
  timely = c.note_place-in-loop-pos.ensures.timely;
}
