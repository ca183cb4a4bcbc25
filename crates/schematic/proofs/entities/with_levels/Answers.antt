use Rattle.std.proofs.Common.{List, drop, length, sym, ap, ◌∙◌, arith}
use Rattle.std.proofs.lemmas.List.{drop_all}
use Rattle.build.specs.Plan.{Plan}
use Rattle.schematic.specs.declared.entities.Entity.{Entity as CodeEntity}
use Rattle.schematic.specs.Entities.{Entity, with_entity, with_all}
use Rattle.schematic.specs.Code.{plain_entity, plain_entities}
use Rattle.schematic.proofs.Counting.{from_index}
use Rattle.schematic.proofs.Levels.{no_entities, one_entity}
use Rattle.schematic.proofs.entities.with_levels.Goals as goal

pub loop-index-init : goal.loop-index-init
loop-index-init c =
    let es = c.args.entities.now in
    record {
      within = omega arith;
      made = no_entities c.args.build c.requires.none ∙ ap (λ (xs : List CodeEntity). with_all c.args.build (plain_entities xs)) (sym (drop_all (length es) es (omega arith)));
    }

pub loop-index-preserved : goal.loop-index-preserved
loop-index-preserved c =
    let es = c.args.entities.now in
    let i = c.loop-index.index in
    let some = c.loop-index-test.true in
    let e = c.index-entities-index.result in
    let rest : List Entity = plain_entities (drop i es) in
    let from = from_index es i e (omega arith) c.loop-index.invariant.within c.index-entities-index.is in
    record {
      within = omega (arith, c.loop-index.invariant.within);
      made = c.in_ok-put_level.ensures ∙ ap (λ (b : Plan). with_entity b (plain_entity e)) c.loop-index.invariant.made ∙ one_entity c.args.build (plain_entity e) rest
          ∙ ap (with_all c.args.build) (sym from);
    }
