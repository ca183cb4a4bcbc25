use Rattle.std.proofs.Common.{◌≡◌, ◌*◌, ℕ, List, ◌∷◌, length, refl, sym, ap, ◌∙◌, subst, arith}
use Rattle.nbt.specs.Plain.{PlainTree}
use Rattle.nbt.specs.Spelling.{number_size}
use Rattle.nbt.specs.Reading.{IsPayload}
use Rattle.nbt.proofs.Unique.{numbers-count}
use Rattle.nbt.proofs.Fronts.{IsBytes, are-bytes}
use Rattle.nbt.proofs.Elements.{elements-front, elements-bytes}
use Rattle.nbt.proofs.Views.{plain-Numbers}
use Rattle.nbt.proofs.pieces.cut_numbers.Goals as goal

pub returns-clause-ok : goal.returns-clause-ok
returns-clause-ok c =
    let k = c.args.element in
    let s = c.args.bytes.now in
    let n = c.in_ok-elements.field-0-0 in
    let rest = c.in_ok-elements.rest.now in
    let elements = c.in_ok-elements.elements.now in
    let raw = c.in_ok-raw.raw.items.items in
    let same : raw ≡ elements = c.in_ok-raw.ensures in
    let all : IsBytes s = λ i. omega (arith, c.type_inv.bytes i) in
    let held : IsBytes raw = elements-bytes s rest elements raw n all c.in_ok-elements.ensures.ok same in
    let full : length raw ≡ n * number_size k = ap length same ∙ c.in_ok-elements.ensures.count ∙ ap (λ (m : ℕ). n * m) c.number_size.ensures in
    subst (λ (one : PlainTree). IsPayload 9 (k ∷ s) one rest) (sym (plain-Numbers k c.in_ok-raw.raw)) (
      refl,
      λ depth room. (room, c.requires.least, c.requires.greatest, n, full, c.in_ok-elements.ensures.limit, are-bytes raw held),
      ap (λ (x : List ℕ). k ∷ x) (elements-front s raw rest n _ elements c.in_ok-elements.ensures.ok (numbers-count k n raw full) same),
    )
