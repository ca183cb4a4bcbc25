use Rattle.std.proofs.Common.{◌≡◌, List, [], ◌∷◌, length, refl, sym, ◌∙◌, arith, eqb-true, vec_len}
use Rattle.std.proofs.lemmas.Result.{on_ok_weaker}
use Rattle.build.specs.Plan.{Plan}
use Rattle.input_search.specs.Links.{From, links_below, wire_links}
use Rattle.input_search.specs.Wiring.{wire_cells, wire_place}
use Rattle.input_search.proofs.search.search_from.Goals as goal

empty : (links : List From) → length links ≡ 0 → links ≡ []
empty [] h = refl
empty (l ∷ links) h = absurd (omega arith)

pub returns-then-is_empty-clause-links : goal.returns-then-is_empty-clause-links
unfolding wire_links
returns-then-is_empty-clause-links c =
    let b : Plan = c.args.build.now in
    let last : c.loop-distance.distance ≡ 16 = omega arith in
    let count : vec_len c.loop-distance.search.links ≡ 0 = eqb-true (vec_len c.loop-distance.search.links) 0 (sym c.is_empty.ensures ∙ c.if-is_empty.true) in
    let none : c.loop-distance.search.links.items ≡ [] = empty c.loop-distance.search.links.items (omega arith) in
    on_ok_weaker c.note_far.result
    (λ cleared. cleared ∙ sym none ∙ c.loop-distance.invariant.at.links ∙ (λ j. links_below b (wire_place b (wire_cells b) (c.loop-distance.invariant.start j)) (last j))) c.note_far.ensures.none

pub returns-else-is_empty-clause-links : goal.returns-else-is_empty-clause-links
unfolding wire_links
returns-else-is_empty-clause-links c =
    let b : Plan = c.args.build.now in
    let last : c.loop-distance.distance ≡ 16 = omega arith in
    c.loop-distance.invariant.at.links ∙ (λ j. links_below b (wire_place b (wire_cells b) (c.loop-distance.invariant.start j)) (last j))
