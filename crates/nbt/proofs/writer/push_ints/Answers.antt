use Rattle.std.proofs.Common.{◌+◌, ◌∷◌, [], ◌++◌, ℤ, length, take, get_or, pos, sym, ap, ◌∙◌, rules}
use Rattle.std.specs.Prelude.{FitsSigned}
use Rattle.std.proofs.lemmas.Int.{to_z-of_z}
use Rattle.std.specs.Int.{w32}
use Rattle.std.proofs.lemmas.List.{take_more}
use Rattle.nbt.specs.Spelling.{unsigned}
use Rattle.nbt.proofs.Appends.{any-err, longer-then, longer-by, numbers-more}
use Rattle.nbt.proofs.writer.push_ints.Goals as goal

pub returns-in_err-push_i32-clause-err : goal.returns-in_err-push_i32-clause-err
returns-in_err-push_i32-clause-err c =
    any-err _ (longer-then c.args.out.now.items c.loop-number.out.items c.push_i32.new.out.items (longer-by c.args.out.now.items c.loop-number.out.items _ c.loop-number.invariant) c.in_err-push_i32.ensures.err)

pub loop-number-preserved : goal.loop-number-preserved
loop-number-preserved c =
    let xs = c.args.numbers.now in
    let i = c.loop-number.number-index in
    let some = c.loop-number-test.true in
    let fits : FitsSigned w32 (get_or xs i (pos 0)) = search rules in
    numbers-more w32 c.args.out.now.items c.loop-number.out.items c.push_i32.new.out.items (take i xs) _ (take (i + 1) xs) (unsigned w32 (length xs)) c.loop-number.invariant c.in_ok-push_i32.ensures.ok
    (take_more xs i (pos 0) some ∙ ap (λ (z : ℤ). take i xs ++ z ∷ []) (sym (to_z-of_z w32 (get_or xs i (pos 0)) fits)))
