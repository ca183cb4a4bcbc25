use Rattle.std.proofs.Common.{◌≡◌}
use Rattle.graph.specs.Edits.{renamed_link}
use Rattle.graph.proofs.Parts.{part}
use Rattle.graph.proofs.edits.rename_links.Given as goal

abbrev pub invariant-loop-link : goal.invariant-loop-link
invariant-loop-link l = l.links ≡ part (renamed_link l.keep l.gone) l.link-index l.initial.links
