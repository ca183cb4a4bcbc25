use Rattle.std.proofs.Common.{ℤ, List, ap, ◌∙◌}
use Rattle.std.specs.List.{list_any}
use Rattle.std.specs.BTreeMap.{is_at}
use Rattle.circuit.specs.declared.Pos.{Pos}
use Rattle.build.specs.Marks.{is_marked}
use Rattle.build.proofs.MarkOrder.{key_cmp, marked-from_keys}
use Rattle.build.proofs.marks.Marks.contains.Goals as goal

pub returns-clause-value : goal.returns-clause-value
returns-clause-value c =
    c.contains.ensures
    ∙ ap (λ (k : ℤ × ℤ × ℤ). list_any (is_at (key_cmp k)) c.self.inside.keys.keys) c.key_of.ensures
    ∙ marked-from_keys c.self.inside.keys.keys (c.args.pos.y, c.args.pos.z, c.args.pos.x)
    ∙ ap (λ (marks : List Pos). is_marked marks c.args.pos) c.self.view_is
