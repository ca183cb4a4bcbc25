use Rattle.std.proofs.Common.{◌-◌, ◌++◌, sym, ap, ◌∙◌, refl, ◌≡◌, arith}
use Rattle.std.proofs.lemmas.List.{append-nil}
use Rattle.nbt.specs.Plain.{plain_tree}
use Rattle.schem_write.specs.Code.{plain_list}
use Rattle.schem_write.specs.Stacks.{stacks_of, stack_trees}
use Rattle.schem_write.proofs.Joined.{map-more}
use Rattle.schem_write.proofs.StackSteps.{stack-next, stacks-none}
use Rattle.schem_write.proofs.stacks.stack_trees.Goals as goal

pub loop-left-preserved : goal.loop-left-preserved
loop-left-preserved c =
    record {
      trees = stack-next (plain_list c.loop-left.trees.items) (plain_list c.push.new.self.items) (stack_trees 0 (stacks_of c.args.items))
          c.loop-left.slot c.loop-left.left c.min-count.result (c.loop-left.left - c.min-count.result) (plain_tree c.in_ok-stack_tree.field-0)
          c.loop-left-test.true c.min-count.ensures refl c.in_ok-stack_tree.ensures
          (map-more plain_tree c.loop-left.trees.items c.push.new.self.items c.in_ok-stack_tree.field-0 c.in_ok-push.ensures.items)
          c.loop-left.invariant.trees;
      slots = omega (arith, c.loop-left.invariant.room c.loop-left-test.true);
      room = λ h. omega (arith, c.loop-left.invariant.room c.loop-left-test.true, c.min-count.ensures, h);
    }

pub returns : goal.returns
returns c =
    let none : c.loop-left.left ≡ 0 = omega (arith, c.loop-left-test.false) in
    sym (append-nil (plain_list c.loop-left.trees.items))
    ∙ ap (λ counts. plain_list c.loop-left.trees.items ++ stack_trees c.loop-left.slot counts) (sym (ap stacks_of none ∙ stacks-none))
    ∙ c.loop-left.invariant.trees
