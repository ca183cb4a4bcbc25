use Rattle.std.proofs.Common.{◌≡◌, ◌≢◌, ◌+◌, ◌-◌, ◌++◌, ◌∷◌, [], ℕ, ℤ, List, suc, pos, Option, Some, map, length, refl, sym, ap, ◌∙◌, arith}
use Rattle.std.proofs.lemmas.Bool.Decides.{nat_tests}
use Rattle.std.proofs.lemmas.List.{append_assoc, length-append}
use Rattle.std.specs.Prelude.{option_map}
use Rattle.std.specs.Ordering.{int_cmp}
use Rattle.std.specs.BTreeMap.{get}
use Rattle.block_table.specs.declared.Block.{Block}
use Rattle.schematic.specs.Palette.{block_or_air}
use Rattle.schematic.specs.Cells.{value_of, varints, fault_from, cells_fault}
use Rattle.schematic.specs.File.{wrong_cells}
use Rattle.schematic.proofs.Causes.{cause_is}
use Rattle.schematic.proofs.Varints.{more_to_come, fault_here, fault_unknown, fault_next, fault_left, blocks_next}
use Rattle.schematic.proofs.cells.blocks_with.Goals as goal

pub returns-in_default-clause-err : goal.returns-in_default-clause-err
unfolding cells_fault
returns-in_default-clause-err c =
    let f : ℤ → Option Block = λ n. get int_cmp c.args.blocks.now n in
    let rest = c.loop.rest.now in
    let place : ℕ = length c.args.cells.now - length rest in
    cause_is _ _ (wrong_cells place) c.wrong_cells.ensures
    (ap (option_map wrong_cells) (sym c.loop.invariant.sound ∙ more_to_come f place c.args.volume c.loop.counter (varints rest) (omega (arith, c.loop-test.true)) ∙ fault_here f place _ (varints rest) (c.in_default.ensures.none refl)))

pub returns-in_default-block_numbered-clause-err : goal.returns-in_default-block_numbered-clause-err
unfolding cells_fault
returns-in_default-block_numbered-clause-err c =
    let f : ℤ → Option Block = λ n. get int_cmp c.args.blocks.now n in
    let rest = c.loop.rest.now in
    let place : ℕ = length c.args.cells.now - length rest in
    cause_is _ _ (wrong_cells place) c.wrong_cells-in_default-block_numbered.ensures
    (ap (option_map wrong_cells) (sym c.loop.invariant.sound ∙ more_to_come f place c.args.volume c.loop.counter (varints rest) (omega (arith, c.loop-test.true))
    ∙ fault_unknown f place _ c.in-Some.number rest c.in-Some.behind.now c.in-Some.ensures.some (sym c.in_default-block_numbered.ensures)))

pub loop-preserved : goal.loop-preserved
loop-preserved c =
    let f : ℤ → Option Block = λ n. get int_cmp c.args.blocks.now n in
    let g : List ℕ → Block = λ v. block_or_air (f (pos (value_of v))) in
    let cells = c.args.cells.now in
    let rest = c.loop.rest.now in
    let behind = c.in-Some.behind.now in
    let n : ℕ = c.args.volume - suc c.loop.counter in
    let first = c.in-Some.ensures.some in
    let shorter = first.count in
    let within = c.loop.invariant.behind in
    let found : f (pos c.in-Some.number) ≡ Some c.in-Some-block_numbered.block = sym c.in-Some-block_numbered.ensures in
    let next = fault_next f (length cells - length rest) n c.in-Some.number rest behind c.in-Some-block_numbered.block first found in
    let place : (length cells - length rest) + (length rest - length behind) ≡ length cells - length behind = omega arith in
    let left : c.args.volume - (c.loop.counter + 1) ≡ n = omega arith in
    record {
      behind = omega arith;
      sound = ap (λ (k : ℕ). fault_from f (length cells - length behind) k (varints behind)) left ∙ ap (λ (k : ℕ). fault_from f k n (varints behind)) (sym place) ∙ sym next
          ∙ sym (more_to_come f (length cells - length rest) c.args.volume c.loop.counter (varints rest) (omega (arith, c.loop-test.true))) ∙ c.loop.invariant.sound;
      blocks = ap (λ (bs : List Block). bs ++ map g (varints behind)) c.in_ok-push.ensures.items ∙ append_assoc c.loop.built.items (c.in-Some-block_numbered.block ∷ []) (map g (varints behind))
          ∙ ap (λ (bs : List Block). c.loop.built.items ++ bs) (sym (blocks_next f c.in-Some.number rest behind c.in-Some-block_numbered.block first found)) ∙ c.loop.invariant.blocks;
      count = ap length c.in_ok-push.ensures.items ∙ length-append c.loop.built.items (c.in-Some-block_numbered.block ∷ []) ∙ ap (λ (k : ℕ). k + 1) c.loop.invariant.count;
    }

pub returns-else-is_empty-clause-err : goal.returns-else-is_empty-clause-err
unfolding cells_fault
returns-else-is_empty-clause-err c =
    let f : ℤ → Option Block = λ n. get int_cmp c.args.blocks.now n in
    let rest = c.loop.rest.now in
    let place : ℕ = length c.args.cells.now - length rest in
    let all = c.loop-test.false in
    let none : c.args.volume - c.loop.counter ≡ 0 = omega arith in
    let empty = sym c.is_empty.ensures ∙ c.if-is_empty.false in
    let some : length rest ≢ 0 = grind (arith, nat_tests) in
    cause_is _ _ (wrong_cells place) c.wrong_cells-else-is_empty.ensures
    (ap (option_map wrong_cells) (sym c.loop.invariant.sound ∙ ap (λ (k : ℕ). fault_from f place k (varints rest)) none ∙ fault_left f place rest some))
