use Rattle.std.proofs.Common.{◌≡◌}
use Rattle.std.specs.Prelude.{option_map}
use Rattle.graph.specs.Stored.{plain_nodes}
use Rattle.graph.specs.Edits.{renamed}
use Rattle.graph.proofs.Parts.{part}
use Rattle.graph.proofs.edits.rename_in_all.Given as goal

abbrev pub invariant-loop-number : goal.invariant-loop-number
invariant-loop-number l = plain_nodes l.nodes.entries ≡ part (option_map (renamed l.keep l.gone)) l.number (plain_nodes l.initial.nodes.entries)
