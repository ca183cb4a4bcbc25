use Rattle.std.proofs.Common.{◌∷◌, take}
use Rattle.handover.specs.HeldByCell.{AreTimely}
use Rattle.handover.proofs.Noted.{NotesAll}
use Rattle.handover.proofs.notes.note_node.Given as goal

abbrev pub invariant-loop-pos : goal.invariant-loop-pos
invariant-loop-pos l = record {
  notes : NotesAll l.build (l.node.pos ∷ take l.pos-index l.node.also.items.items) l.state l.fn.held l.held;
  timely : AreTimely l.held;
}
