use Rattle.std.proofs.Common.{◌≡◌, ◌<◌, ◌∷◌, ◌++◌, length, arith, rules}
use Rattle.std.proofs.lemmas.Bool.Decides.{nat_tests}
use Rattle.nbt.specs.Plain.{plain_root}
use Rattle.nbt.specs.Spelling.{spelling}
use Rattle.nbt.proofs.Places.{empty-cut, name-cut, trailing}
use Rattle.nbt.proofs.reader.read_root.Goals as goal

pub returns-in_default-clause-err : goal.returns-in_default-clause-err
returns-in_default-clause-err c = rw c.cut_short.ensures (empty-cut c.args.bytes.now c.in_default.ensures.cases)

pub returns-in_default-cut_text-clause-err : goal.returns-in_default-cut_text-clause-err
returns-in_default-cut_text-clause-err c =
    let front : c.args.bytes.now ≡ 10 ∷ c.in-Some.rest.now = search rules in
    rw c.cut_short-in_default-cut_text.ensures (name-cut c.args.bytes.now c.in-Some.rest.now front c.in_default-cut_text.ensures.none)

pub returns-then-not-is_empty-clause-err : goal.returns-then-not-is_empty-clause-err
returns-then-not-is_empty-clause-err c =
    let rest = c.in_ok-root.rest.now in
    let some : 0 < length rest = grind (arith, nat_tests) in
    let front : c.args.bytes.now ≡ spelling (plain_root c.in_ok-root.root) ++ rest = search rules in
    trailing c.args.bytes.now rest (plain_root c.in_ok-root.root) c.in_ok-root.ensures.ok front some
