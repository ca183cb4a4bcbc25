use Rattle.std.proofs.Common.{◌≡◌, ℕ, false, Option, None, refl, sym, ap, ◌∙◌}
use Rattle.block_table.specs.declared.Block.{Block}
use Rattle.block_table.specs.declared.Block.TheVariants.{Comparator, Container}
use Rattle.circuit.specs.declared.Pos.{Pos}
use Rattle.nbt.specs.Plain.{PlainTree}
use Rattle.build.specs.Plan.{Plan, block_at, entry, has_level, place_of}
use Rattle.schem_write.specs.declared.Layout.{Layout}
use Rattle.schem_write.specs.BlockEntities.{level_in, entity_with}
use Rattle.schem_write.proofs.entities.entity_in.Goals as goal

-- a block without a level needs no block entity
none_without : (layout : Layout) (p : Pos) (block : Block) (level : ℕ) → has_level block ≡ false → ◌≡◌ {A = Option PlainTree} None (entity_with layout p block (level_in block level))
none_without layout p (Comparator facing subtract) level h = absurd (cc)
none_without layout p (Container name) level h = absurd (cc)
none_without layout p _ level h = refl

pub returns-else-has_level : goal.returns-else-has_level
returns-else-has_level c =
    let b : Plan = c.args.build.now in
    let p : Pos = place_of b c.args.cell in
    let none : has_level (block_at b p) ≡ false = ap has_level (sym c.block_in.ensures.value) ∙ sym c.has_level.ensures ∙ c.if-has_level.false in
    none_without c.args.layout p (block_at b p) (entry b b.levels 0 p) none
