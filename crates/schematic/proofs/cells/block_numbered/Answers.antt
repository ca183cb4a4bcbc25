use Rattle.std.proofs.Common.{◌≡◌, ◌<◌, ℕ, ℤ, pos, List, Option, length, get_or, sym, ap, ◌∙◌, arith, zero-add, Bor}
use Rattle.std.specs.Ordering.{int_cmp}
use Rattle.std.proofs.lemmas.Bool.{ltb-true}
use Rattle.std.proofs.lemmas.List.FromFn.{get_or-map-range_with_len}
use Rattle.std.specs.BTreeMap.{get}
use Rattle.block_table.specs.declared.Block.{Block}
use Rattle.schematic.specs.Cells.{first_blocks}
use Rattle.schematic.proofs.cells.block_numbered.Goals as goal

pub returns-in-Some : goal.returns-in-Some
returns-in-Some c =
    let f : ℤ → Option Block = λ n. get int_cmp c.args.blocks.now n in
    let below : c.args.number < length c.args.first.now = ltb-true c.args.number (length c.args.first.now) (sym c.in-Some.ensures.lookup.0) in
    c.in-Some.ensures.lookup.1
    ∙ ap (λ (bs : List (Option Block)). get_or bs c.args.number c.in-Some.block.now) c.requires.first
    ∙ get_or-map-range_with_len (λ (i : ℕ). f (pos i)) 0 (length c.args.first.now) c.args.number c.args.number c.in-Some.block.now below (zero-add c.args.number)
