use Rattle.std.proofs.Common.{◌≡◌, ◌∷◌, ℤ, pos, sym, ap, ◌∙◌, subst, arith}
use Rattle.std.specs.Prelude.{FitsSigned, ◌≤ℤ◌}
use Rattle.std.specs.Int.{w32, cast_signed, cast_unsigned}
use Rattle.std.proofs.lemmas.Int.{to_z-of_z, ints}
use Rattle.nbt.specs.Plain.{PlainTree, empty_list}
use Rattle.nbt.specs.Reading.{IsPayload}
use Rattle.nbt.proofs.Stops.{empty-read}
use Rattle.nbt.proofs.Views.{plain-EmptyList}
use Rattle.nbt.proofs.pieces.cut_empty_list.Goals as goal

pub returns-clause-ok : goal.returns-clause-ok
returns-clause-ok c =
    let z = c.cast_signed-length.result in
    let fits : FitsSigned w32 z = record { sfits = c.cast_signed-length.type_inv } in
    let same : cast_signed w32 (cast_unsigned w32 z) ≡ z = to_z-of_z w32 z fits in
    let low : cast_signed w32 (cast_unsigned w32 z) ≤ℤ pos 0 = grind (arith, ints) in
    subst (λ (one : PlainTree). IsPayload 9 (0 ∷ c.args.bytes.now) one c.in-Some.rest.now) (sym (plain-EmptyList _ ∙ ap empty_list same))
    (empty-read c.in-Some.count z c.args.bytes.now c.in-Some.rest.now c.in-Some.ensures.limit fits c.cast_signed-length.ensures (subst (λ (y : ℤ). y ≤ℤ pos 0) same low) c.in-Some.ensures.some)
