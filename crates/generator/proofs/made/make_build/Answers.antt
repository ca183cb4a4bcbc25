use Rattle.std.proofs.Common.{◌≡◌, ◌∙◌, ap, sym, subst, ◌*◌, pos, List, length, arith}
use Rattle.std.specs.Prelude.{All, IsTrue}
use Rattle.block_table.specs.declared.Block.{Block}
use Rattle.block_table.specs.WrittenText.{is_listed}
use Rattle.circuit.specs.declared.Pos.{Pos}
use Rattle.build.specs.Plan.{Plan, block_at}
use Rattle.build.specs.Edits.{fresh, is_comparator, with_level}
use Rattle.generator.specs.UnitCells.{unit_block}
use Rattle.generator.proofs.Units.{length-units_of}
use Rattle.generator.proofs.Listed.{blocks_listed}
use Rattle.generator.proofs.Levels.{build_by, build_by-none, build_by-more, build_by-all, comparator_there}
use Rattle.generator.proofs.made.make_build.Goals as goal

pub of_blocks-build-requires-clause-cells : goal.of_blocks-build-requires-clause-cells
of_blocks-build-requires-clause-cells c = omega (arith, ap length c.in_ok-blocks.ensures, length-units_of unit_block c.args.n)

pub of_blocks-build-requires-clause-listed : goal.of_blocks-build-requires-clause-listed
of_blocks-build-requires-clause-listed c = subst (λ (blocks : List Block). All (λ block. IsTrue (is_listed block)) blocks) (sym c.in_ok-blocks.ensures) (blocks_listed c.args.n)

pub loop-unit-init : goal.loop-unit-init
loop-unit-init c = c.of_blocks-build.ensures ∙ ap (fresh (4 * c.args.n) 3 10 (pos 0)) c.in_ok-blocks.ensures ∙ build_by-none c.args.n

pub set_output-requires-clause-comparator : goal.set_output-requires-clause-comparator
set_output-requires-clause-comparator c =
    ap (λ (b : Plan). is_comparator (block_at b c.place_at.result)) c.loop-unit.invariant
    ∙ ap (λ (p : Pos). is_comparator (block_at (build_by c.args.n c.loop-unit.unit) p)) c.place_at.ensures
    ∙ comparator_there c.args.n c.loop-unit.unit c.from.result (omega arith) (omega (arith, c.from.ensures))

pub loop-unit-preserved : goal.loop-unit-preserved
loop-unit-preserved c =
    c.in_ok-set_output.ensures.ok
    ∙ ap (λ (b : Plan). with_level b c.place_at.result 5) c.loop-unit.invariant
    ∙ ap (λ (p : Pos). with_level (build_by c.args.n c.loop-unit.unit) p 5) c.place_at.ensures
    ∙ build_by-more c.args.n c.loop-unit.unit c.from.result (omega arith) (omega (arith, c.from.ensures))

pub returns : goal.returns
returns c =
    let last : c.loop-unit.unit ≡ c.args.n = omega arith in
    c.loop-unit.invariant ∙ ap (build_by c.args.n) last ∙ build_by-all c.args.n c.requires.some
