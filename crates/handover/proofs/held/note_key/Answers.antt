use Rattle.std.proofs.Common.{sym, ◌∙◌}
use Rattle.graph.specs.Stored.{plain}
use Rattle.handover.proofs.Ready.{playing_part}
use Rattle.handover.proofs.held.note_key.Goals as goal

pub held_by-requires : goal.held_by-requires
held_by-requires c =
    playing_part c.args.graph.now.nodes c.args.machine.now.nodes c.args.key c.requires.started (plain c.in-Some.node.now) (sym c.in-Some.ensures.value) (sym c.has_state.ensures ∙ c.if-has_state.true)
