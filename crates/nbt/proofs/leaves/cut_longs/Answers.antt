use Rattle.std.proofs.Common.{◌<◌, ◌^◌, ℕ, refl, sym, subst, length, arith, rules}
use Rattle.std.specs.Int.{w64}
use Rattle.nbt.specs.Spelling.{all_signed}
use Rattle.nbt.specs.Reading.{StopsInLeaf, IsLeaf}
use Rattle.nbt.specs.Plain.{PlainTree}
use Rattle.nbt.proofs.Views.{plain-Longs}
use Rattle.nbt.proofs.Fronts.{IsBytes}
use Rattle.nbt.proofs.Elements.{stops-longs, elements-front}
use Rattle.nbt.proofs.leaves.cut_longs.Goals as goal

pub returns-in_err-count-clause-err : goal.returns-in_err-count-clause-err
returns-in_err-count-clause-err c =
    let all : IsBytes c.args.bytes.now = λ i. omega (arith, c.type_inv.bytes i) in
    let stops : StopsInLeaf 12 c.args.bytes.now c.in_err-count.field-0.0 = stops-longs c.args.bytes.now c.in_err-count.field-0.0 all c.in_err-count.ensures.err in
    search rules

pub returns-clause-ok : goal.returns-clause-ok
returns-clause-ok c =
    let zs = c.in_ok-longs.longs.items.items in
    let made = c.in_ok-longs.ensures in
    subst (λ (one : PlainTree). IsLeaf 12 c.args.bytes.now one c.in_ok-count.rest.now) (sym (plain-Longs c.in_ok-longs.longs)) (
      refl,
      λ depth. (subst (λ (m : ℕ). m < 2 ^ 31) (sym made.count) c.in_ok-count.ensures.limit, made.fit),
      elements-front c.args.bytes.now (all_signed w64 zs) c.in_ok-count.rest.now c.in_ok-count.count (length zs) c.in_ok-count.elements.now c.in_ok-count.ensures.ok made.count made.items,
    )
