-- How a build is stored: no levels as long as none was ever set.
use Rattle.std.specs.Prelude.{ℕ, ◌*◌, ℤ, List, [], ◌∷◌, replicate}
use Rattle.block_table.specs.declared.Block.{Block}
use Rattle.build.specs.declared.Pending.{Pending}
use Rattle.build.specs.Plan.{Plan}

-- the levels of so many cells
abbrev pub levels_of : ℕ → List ℕ → List ℕ
levels_of cells [] = replicate cells 0
levels_of cells (level ∷ levels) = level ∷ levels

-- the build that these fields mean
abbrev pub plan_of : ℕ → ℕ → ℕ → ℤ → List Block → List ℕ → List Pending → Plan
plan_of width height depth data_version blocks levels pending = record {
  width = width;
  height = height;
  depth = depth;
  blocks = blocks;
  levels = levels_of (width * (depth * height)) levels;
  pending = pending;
  data_version = data_version;
}
