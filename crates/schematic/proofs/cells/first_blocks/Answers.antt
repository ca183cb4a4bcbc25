use Rattle.std.proofs.Common.{◌≡◌, ◌+◌, ℕ, ℤ, pos, List, [], ◌∷◌, ◌++◌, Option, length, map, refl, sym, ap, ◌∙◌, zero-add}
use Rattle.std.specs.Ordering.{int_cmp}
use Rattle.std.specs.List.{range_with_len}
use Rattle.std.proofs.lemmas.List.FromFn.{map-range_with_len_more, length-map-range_with_len}
use Rattle.std.specs.BTreeMap.{get}
use Rattle.block_table.specs.declared.Block.{Block}
use Rattle.schematic.specs.Cells.{first_blocks}
use Rattle.schematic.proofs.cells.first_blocks.Goals as goal

pub loop-number-preserved : goal.loop-number-preserved
loop-number-preserved c =
    let f : ℤ → Option Block = λ n. get int_cmp c.args.blocks.now n in
    let n : ℕ = c.loop-number.number in
    c.in_ok-push.ensures.items
    ∙ ap (λ (bs : List (Option Block)). bs ++ c.block_in.result ∷ []) c.loop-number.invariant
    ∙ ap (λ (b : Option Block). first_blocks f n ++ b ∷ []) (c.block_in.ensures ∙ ap (λ (i : ℕ). f (pos i)) c.from.ensures)
    ∙ sym (map-range_with_len_more (λ (i : ℕ). f (pos i)) 0 n n (zero-add n))

pub returns : goal.returns
returns c =
    let f : ℤ → Option Block = λ n. get int_cmp c.args.blocks.now n in
    let n : ℕ = c.loop-number.number in
    let count : length c.loop-number.first.items ≡ n = ap length c.loop-number.invariant ∙ length-map-range_with_len (λ (i : ℕ). f (pos i)) 0 n in
    c.loop-number.invariant ∙ ap (first_blocks f) (sym count)
