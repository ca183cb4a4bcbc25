use Rattle.std.proofs.Common.{◌++◌, ℕ, List, [], ap, sym, ◌∙◌}
use Rattle.nbt.specs.Plain.{plain_root}
use Rattle.nbt.proofs.Unique.{root-same}
use Rattle.nbt.proofs.Excludes.{fault-excludes}
use Rattle.nbt.proofs.reader.read.Goals as goal

pub returns-in-Ok-clause-spelled : goal.returns-in-Ok-clause-spelled
returns-in-Ok-clause-spelled c root h =
    (root-same (plain_root c.in-Ok.root) root [] [] c.in-Ok.ensures.ok h.0 (ap (λ (s : List ℕ). s ++ []) (sym c.in-Ok.ensures.spelled ∙ h.1))).0

pub returns-in-Err-At-clause-spelled : goal.returns-in-Err-At-clause-spelled
returns-in-Err-At-clause-spelled c root h =
    let stop = rw c.in-Err-At.field-0-is at c.in-Err-At.ensures.err in
    absurd (fault-excludes c.args.bytes.now _ c.in-Err-At.kind root stop.1 h.0 h.1)
