use Rattle.std.proofs.Common.{List, ap, ◌∙◌}
use Rattle.circuit.specs.declared.Pos.{Pos}
use Rattle.build.specs.Marks.{is_marked}
use Rattle.build.specs.MarkLaws.{marked-with_mark}
use Rattle.schematic.proofs.entities.add_place.Goals as goal

pub returns-clause-places : goal.returns-clause-places
returns-clause-places c = λ q. ap (λ (marks : List Pos). is_marked marks q) c.in_ok-add.ensures.ok ∙ marked-with_mark c.args.pos q c.args.places.now
