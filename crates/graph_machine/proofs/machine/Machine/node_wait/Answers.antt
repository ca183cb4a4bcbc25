use Rattle.cell_queue.specs.Held.{cell_of}
use Rattle.cell_queue.proofs.HeldSteps.{left_range}
use Rattle.graph_machine.proofs.machine.Machine.node_wait.Goals as goal

pub returns-clause-left : goal.returns-clause-left
returns-clause-left c = left_range c.wait.result c.self.inside.cells.time (cell_of c.self.inside.cells.cells _) c.wait.ensures.value c.wait.ensures.soon (c.self.invariant.none _)
