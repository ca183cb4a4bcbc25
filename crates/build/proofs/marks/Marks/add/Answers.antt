use Rattle.std.proofs.Common.{ℤ, List, map, ap, ◌∙◌}
use Rattle.std.specs.BTreeSet.{insert_key}
use Rattle.build.specs.Marks.{with_mark}
use Rattle.build.specs.MarkKeys.{place_of_key}
use Rattle.build.proofs.MarkOrder.{key_cmp, places-insert_key, rising-from_keys}
use Rattle.build.proofs.marks.Marks.add.Goals as goal

pub invariant_of-self-2 : goal.invariant_of-self-2
invariant_of-self-2 c = rising-from_keys c.insert.new.self.keys c.in_ok-insert.ensures.ordered

pub returns-clause-ok : goal.returns-clause-ok
returns-clause-ok c =
    ap (λ (keys : List (ℤ × ℤ × ℤ)). map place_of_key keys) c.in_ok-insert.ensures.keys
    ∙ ap (λ (k : ℤ × ℤ × ℤ). map place_of_key (insert_key key_cmp c.self.inside.keys.keys k)) c.key_of.ensures
    ∙ places-insert_key c.self.inside.keys.keys (c.args.pos.y, c.args.pos.z, c.args.pos.x)
    ∙ ap (with_mark c.args.pos) c.self.view_is
