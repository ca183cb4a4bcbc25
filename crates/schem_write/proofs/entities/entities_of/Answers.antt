use Rattle.std.proofs.Common.{◌<◌, ◌+◌, List, Vec, Global, sym, subst, ap, ◌∙◌, arith}
use Rattle.std.specs.Option.{option_map}
use Rattle.nbt.specs.declared.trees.Tree.{Tree}
use Rattle.nbt.specs.Plain.{plain_tree, list, trees_of}
use Rattle.nbt.proofs.Views.{plain-List}
use Rattle.build.specs.Plan.{Plan, volume}
use Rattle.build.proofs.FoundPlaces.{FoundBelow, found_no_more, found_all}
use Rattle.schem_write.specs.BlockEntities.{entity_at, entities_of}
use Rattle.schem_write.specs.Code.{plain_list}
use Rattle.schem_write.proofs.CellSteps.{found-tree}
use Rattle.schem_write.proofs.entities.entities_of.Goals as goal
use Rattle.schem_write.proofs.entities.entities_of.Goals.{in-Some+in_ok-push, in_default}

pub loop-cell-preserved : goal.loop-cell-preserved
loop-cell-preserved c =
    let b : Plan = c.args.build.now in
    let f = entity_at c.args.layout b in
    let i = c.loop-cell.cell in
    let inside : i < volume b = omega (arith, c.cells-cell-end.ensures.count) in
    elim c.match-branch-2.branch [
      | in-Some+in_ok-push w ↦
          found-tree plain_tree f b i c.loop-cell.items.items c.match-branch-2.items.items w.in-Some.tree inside
          (ap (option_map plain_tree) (sym w.in-Some.is) ∙ c.in_ok-tree.ensures)
          (ap (λ (v : Vec Tree Global). v.items) w.items-is ∙ w.in_ok-push.ensures.items)
          c.loop-cell.invariant
      | in_default w ↦
          subst (λ (ts : List Tree). FoundBelow f b (plain_list ts) (i + 1)) (sym (ap (λ (v : Vec Tree Global). v.items) w.items-is))
          (found_no_more f b i (plain_list c.loop-cell.items.items) inside
          (sym c.in_ok-tree.ensures ∙ ap (option_map plain_tree) w.in_default.is) c.loop-cell.invariant)
    ]

pub returns : goal.returns
unfolding entities_of
returns c =
    plain-List 10 c.loop-cell.items ∙ ap (λ ts. list 10 (trees_of ts)) (found_all (entity_at c.args.layout c.args.build.now) c.args.build.now c.loop-cell.cell (plain_list c.loop-cell.items.items)
    (omega (arith, c.cells-cell-end.ensures.count)) c.loop-cell.invariant)
