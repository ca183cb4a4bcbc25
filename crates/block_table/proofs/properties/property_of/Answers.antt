use Rattle.std.proofs.Common.{◌≡◌, ◌∷◌, [], sym, ap, ◌∙◌}
use Rattle.std.specs.Option.{option_copied}
use Rattle.block_table.specs.StateText.{parts, parts_after}
use Rattle.block_table.proofs.PropertySteps.{property-three, property-keyless, property-valueless, none_after}
use Rattle.block_table.proofs.properties.property_of.Goals as goal
use Rattle.block_table.proofs.properties.property_of.Goals.{then-is_some-via-then-is_some, then-is_some-via-else-is_some+then-is_empty, then-is_some-via-else-is_some+else-is_empty+then-is_empty-2}

pub returns-then-is_some : goal.returns-then-is_some
returns-then-is_some c =
    let text = c.args.text.now in
    let key = c.cut.result.0.now in
    let value = c.cut-2.result.0.now in
    let first : parts 61 text ≡ key ∷ parts 61 c.in_ok-rest.field-0.now = rw c.in_ok-rest.was at c.cut.ensures.parts in
    let both : parts 61 text ≡ key ∷ (value ∷ parts_after 61 (option_copied c.cut-2.result.1)) = first ∙ ap (λ more. key ∷ more) c.cut-2.ensures.parts in
    elim c.then-is_some.branch [
      | then-is_some-via-then-is_some w ↦ sym (property-three text key value c.cut-2.result.1 (sym c.is_some.ensures ∙ w.if-is_some.true) both)
      | then-is_some-via-else-is_some+then-is_empty w ↦ (
          let two : parts 61 text ≡ key ∷ (value ∷ []) = both ∙ ap (λ more. key ∷ (value ∷ more)) (none_after 61 c.cut-2.result.1 (sym c.is_some.ensures ∙ w.if-is_some.false)) in
          sym (property-keyless text key value (sym w.is_empty.ensures ∙ w.if-is_empty.true) two))
      | then-is_some-via-else-is_some+else-is_empty+then-is_empty-2 w ↦ (
          let two : parts 61 text ≡ key ∷ (value ∷ []) = both ∙ ap (λ more. key ∷ (value ∷ more)) (none_after 61 c.cut-2.result.1 (sym c.is_some.ensures ∙ w.if-is_some.false)) in
          sym (property-valueless text key value (sym w.is_empty-else-is_empty.ensures ∙ w.if-is_empty-2.true) two))
    ]
