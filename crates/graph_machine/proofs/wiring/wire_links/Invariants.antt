use Rattle.std.proofs.Common.{take}
use Rattle.graph_machine.specs.Wired.{given}
use Rattle.graph_machine.specs.Wiring.{WiresLinks}
use Rattle.graph_machine.proofs.wiring.wire_links.Given as goal

abbrev pub invariant-loop-link : goal.invariant-loop-link
invariant-loop-link l = WiresLinks (given l.outs) l.key (take l.link-index l.links) l.counts l.initial.rows l.rows
