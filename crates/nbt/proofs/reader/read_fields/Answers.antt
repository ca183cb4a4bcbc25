use Rattle.std.proofs.Common.{rules, ◌∷◌, ◌++◌}
use Rattle.nbt.specs.Spelling.{short_text}
use Rattle.nbt.specs.Reading.{stack_of, StopsAt}
use Rattle.nbt.proofs.Places.{fault-at}
use Rattle.nbt.proofs.reader.read_fields.Goals as goal

pub returns-in_err-next-clause-err : goal.returns-in_err-next-clause-err
returns-in_err-next-clause-err c =
    let kept = c.loop-outer.invariant in
    let stops : StopsAt (10 ∷ (short_text c.args.name.items.items ++ c.args.bytes.now)) c.in_err-next.field-0.0 =
    fault-at (stack_of c.loop-outer.top c.loop-outer.outer.items) c.loop-outer.rest.now _ c.in_err-next.field-0.0 kept.0 kept.1 c.in_err-next.ensures.err in
    search rules
