use Rattle.std.proofs.Common.{ap}
use Rattle.cell_queue.specs.Held.{Holding}
use Rattle.graph_machine.proofs.ScreenSteps.{refaced_held, others_set}
use Rattle.graph_machine.proofs.events.attend_shown.Goals as goal

pub returns-clause-refaced : goal.returns-clause-refaced
returns-clause-refaced c =
    refaced_held c.args.net.now c.args.cells.now.cells c.attend.new.cells.cells c.args.screen.now c.refresh.new.self c.args.key
    (others_set c.args.cells.now.cells c.attend.new.cells.cells c.args.key _ (ap (λ (h : Holding). h.cells) c.attend.ensures)) c.refresh.ensures
