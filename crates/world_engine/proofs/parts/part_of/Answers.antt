use Rattle.std.proofs.Common.{ℕ, ◌<◌, sym, subst, ◌∙◌}
use Rattle.wiring.proofs.PartLaws.{part_there, parts_whole}
use Rattle.world_engine.proofs.parts.part_of.Goals as goal

pub part-requires : goal.part-requires
part-requires c = subst (λ (k : ℕ). c.args.number < k) (sym (parts_whole c.args.things.now c.args.wiring.now c.requires.wired)) c.requires.inside

pub returns : goal.returns
returns c = c.part.ensures ∙ part_there c.args.things.now c.args.wiring.now c.requires.wired c.args.number c.requires.inside
