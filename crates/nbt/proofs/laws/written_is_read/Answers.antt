use Rattle.std.proofs.Common.{◌≡◌, ℕ, List, ◌++◌, ap, ◌∙◌}
use Rattle.nbt.specs.Plain.{plain_root}
use Rattle.nbt.specs.Spelling.{spelling}
use Rattle.nbt.proofs.laws.written_is_read.Goals as goal

pub returns-in-Ok : goal.returns-in-Ok
returns-in-Ok c =
    let root = plain_root c.args.root.now in
    let bytes-are : c.deref.result.now ≡ spelling root = c.deref.ensures.value ∙ c.in_ok-write.ensures.ok ∙ ap (λ (s : List ℕ). s ++ spelling root) c.new-bytes.ensures.items in
    c.in-Ok.ensures.spelled root (c.requires, bytes-are)

pub unreachable-requires : goal.unreachable-requires
unreachable-requires c =
    let root = plain_root c.args.root.now in
    let bytes-are : c.deref.result.now ≡ spelling root = c.deref.ensures.value ∙ c.in_ok-write.ensures.ok ∙ ap (λ (s : List ℕ). s ++ spelling root) c.new-bytes.ensures.items in
    let refused = c.in-Err-At.ensures.spelled root (c.requires, bytes-are) in
    cc
