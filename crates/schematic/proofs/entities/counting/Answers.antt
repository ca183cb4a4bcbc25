use Rattle.std.proofs.Common.{◌≡◌, ℕ, List, drop, sym, ap, ◌∙◌, arith}
use Rattle.schematic.specs.Palette.{last_ones}
use Rattle.schematic.specs.Entities.{Entity, same_entity_place, counting}
use Rattle.schematic.specs.Code.{plain_entity, plain_entities}
use Rattle.schematic.proofs.Counting.{from_index, counts, counts_not, known_more, one_more, turned}
use Rattle.schematic.proofs.entities.counting.Goals as goal

pub loop-index-preserved-in-Continue-branch-3 : goal.loop-index-preserved-in-Continue-branch-3
loop-index-preserved-in-Continue-branch-3 c =
    let es = c.in_ok-entities.entities.items in
    let i = c.loop-index.index in
    let inv = c.loop-index.invariant in
    let some = c.loop-index-test.true in
    let e = c.index-entity.result.now in
    let rest : List Entity = plain_entities (drop i es) in
    let places = c.loop-index.places in
    let from = from_index es i e (omega arith) inv.within c.index-entity.ensures in
    record {
      within = omega (arith, inv.within);
      known = rw from (known_more (plain_entity e) rest places c.add_place.new.places inv.known c.in_ok-add_place.ensures.places);
      counted = rw (from, c.in_ok-push.ensures.items) (one_more e c.loop-index.counting.items (last_ones same_entity_place rest) inv.counted
          ∙ sym (counts (plain_entity e) rest places (inv.known e.pos) (sym c.if-branch.true ∙ c.in_ok-add_place.ensures.added)));
    }

pub loop-index-preserved : goal.loop-index-preserved
loop-index-preserved c =
    let es = c.in_ok-entities.entities.items in
    let i = c.loop-index.index in
    let inv = c.loop-index.invariant in
    let some = c.loop-index-test.true in
    let e = c.index-entity.result.now in
    let rest : List Entity = plain_entities (drop i es) in
    let places = c.loop-index.places in
    let from = from_index es i e (omega arith) inv.within c.index-entity.ensures in
    record {
      within = omega (arith, inv.within);
      known = rw from (known_more (plain_entity e) rest places c.add_place.new.places inv.known c.in_ok-add_place.ensures.places);
      counted = rw from (inv.counted ∙ sym (counts_not (plain_entity e) rest places (inv.known e.pos) (sym c.if-branch.false ∙ c.in_ok-add_place.ensures.added)));
    }

pub returns : goal.returns
unfolding counting
returns c =
    let es = c.in_ok-entities.entities.items in
    let first : c.loop-index.index ≡ 0 = omega (arith, c.loop-index-test.false) in
    let counted = c.loop-index.invariant.counted in
    ap plain_entities c.reverse.ensures.items ∙ turned c.loop-index.counting.items ∙ counted
    ∙ ap (λ (k : ℕ). last_ones same_entity_place (plain_entities (drop k es))) first
    ∙ ap (last_ones same_entity_place) c.in_ok-entities.ensures
