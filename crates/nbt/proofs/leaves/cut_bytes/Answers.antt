use Rattle.std.proofs.Common.{◌≡◌, ◌<◌, ◌^◌, ℕ, refl, ap, sym, subst, length, arith, rules}
use Rattle.nbt.specs.Reading.{StopsInLeaf, IsLeaf}
use Rattle.nbt.specs.Plain.{PlainTree}
use Rattle.nbt.proofs.Views.{plain-Bytes}
use Rattle.nbt.proofs.Fronts.{IsBytes, are-bytes}
use Rattle.nbt.proofs.Elements.{stops-bytes, elements-front, elements-bytes}
use Rattle.nbt.proofs.leaves.cut_bytes.Goals as goal

pub returns-in_err-elements-clause-err : goal.returns-in_err-elements-clause-err
returns-in_err-elements-clause-err c =
    let all : IsBytes c.args.bytes.now = λ i. omega (arith, c.type_inv.bytes i) in
    let stops : StopsInLeaf 7 c.args.bytes.now c.in_err-elements.field-0.0 = stops-bytes c.args.bytes.now c.in_err-elements.field-0.0 all c.in_err-elements.ensures.err in
    search rules

pub returns-clause-ok : goal.returns-clause-ok
returns-clause-ok c =
    let s = c.args.bytes.now in
    let raw = c.in_ok-raw.raw.items.items in
    let same : raw ≡ c.in_ok-elements.elements.now = c.in_ok-raw.ensures in
    let all : IsBytes s = λ i. omega (arith, c.type_inv.bytes i) in
    let held : IsBytes raw = elements-bytes s c.in_ok-elements.rest.now c.in_ok-elements.elements.now raw c.in_ok-elements.field-0-0 all c.in_ok-elements.ensures.ok same in
    let count : length raw ≡ c.in_ok-elements.field-0-0 = omega (arith, ap length same, c.in_ok-elements.ensures.count) in
    subst (λ (one : PlainTree). IsLeaf 7 s one c.in_ok-elements.rest.now) (sym (plain-Bytes c.in_ok-raw.raw)) (
      refl,
      λ depth. (subst (λ (m : ℕ). m < 2 ^ 31) (sym count) c.in_ok-elements.ensures.limit, are-bytes raw held),
      elements-front s raw c.in_ok-elements.rest.now c.in_ok-elements.field-0-0 (length raw) c.in_ok-elements.elements.now c.in_ok-elements.ensures.ok count same,
    )
