use Rattle.std.proofs.Common.{◌≡◌, ◌∷◌, map, Some, None, true, sym, ap, ◌∙◌}
use Rattle.std.specs.Option.{option_copied}
use Rattle.std.specs.Str.{bytes_eq}
use Rattle.block_table.specs.StateText.{Property, parts, parts_after, pieces, property_of, place_in}
use Rattle.block_table.proofs.PropertySteps.{chosen_from, chosen-unlisted, chosen-listed, chosen-formed, place-of_texts}
use Rattle.block_table.proofs.properties.chosen.Goals as goal

pub returns-in_err-chosen : goal.returns-in_err-chosen
returns-in_err-chosen c =
    let listed = map (λ v. v.now) c.args.listed.now in
    let piece = c.cut.result.0.now in
    let key = c.args.key.now in
    let p : Property = record { key = c.in_ok-property.property.key.now; value = c.in_ok-property.property.value.now } in
    let here : chosen_from c.loop-rest.chosen key listed (parts 44 c.in-Some.text.now) ≡ chosen_from 0 key listed (pieces c.args.properties.now) = rw c.in-Some.is at c.loop-rest.invariant in
    let cut : chosen_from c.loop-rest.chosen key listed (piece ∷ parts_after 44 (option_copied c.cut.result.1)) ≡ chosen_from 0 key listed (pieces c.args.properties.now) = rw c.cut.ensures.parts at here in
    let one : property_of piece ≡ Some p = sym (rw c.in_ok-property.was at c.property_of.ensures) in
    let same : bytes_eq p.key key ≡ true = ap (λ k. bytes_eq p.key k) (sym c.as_bytes.ensures.value) ∙ sym c.eq.ensures ∙ c.if-eq.true in
    let place : place_in listed p.value ≡ None = place-of_texts c.args.listed.now p.value ∙ sym c.place_in.ensures ∙ c.in_err-chosen.was in
    c.from_residual-in_err-chosen.ensures ∙ sym (chosen-unlisted c.loop-rest.chosen key listed piece (parts_after 44 (option_copied c.cut.result.1)) p one same place) ∙ cut ∙ chosen-formed key listed c.args.properties.now c.requires

pub loop-rest-preserved-in_ok-chosen : goal.loop-rest-preserved-in_ok-chosen
loop-rest-preserved-in_ok-chosen c =
    let listed = map (λ v. v.now) c.args.listed.now in
    let piece = c.cut.result.0.now in
    let key = c.args.key.now in
    let p : Property = record { key = c.in_ok-property.property.key.now; value = c.in_ok-property.property.value.now } in
    let here : chosen_from c.loop-rest.chosen key listed (parts 44 c.in-Some.text.now) ≡ chosen_from 0 key listed (pieces c.args.properties.now) = rw c.in-Some.is at c.loop-rest.invariant in
    let cut : chosen_from c.loop-rest.chosen key listed (piece ∷ parts_after 44 (option_copied c.cut.result.1)) ≡ chosen_from 0 key listed (pieces c.args.properties.now) = rw c.cut.ensures.parts at here in
    let one : property_of piece ≡ Some p = sym (rw c.in_ok-property.was at c.property_of.ensures) in
    let same : bytes_eq p.key key ≡ true = ap (λ k. bytes_eq p.key k) (sym c.as_bytes.ensures.value) ∙ sym c.eq.ensures ∙ c.if-eq.true in
    let place : place_in listed p.value ≡ Some c.in_ok-chosen.chosen = place-of_texts c.args.listed.now p.value ∙ sym c.place_in.ensures ∙ c.in_ok-chosen.was in
    sym (chosen-listed c.loop-rest.chosen key listed piece (parts_after 44 (option_copied c.cut.result.1)) p c.in_ok-chosen.chosen one same place) ∙ cut
