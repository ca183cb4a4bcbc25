-- What the fields of a build mean after an edit of them.
use Rattle.std.proofs.Common.{◌≡◌, ℕ, ◌-◌, ◌*◌, List, [], ◌∷◌, ◌++◌, length, set, take, Some, sym, ◌∙◌, ap}
use Rattle.std.specs.Prelude.{replicate}
use Rattle.std.proofs.lemmas.List.{length-set}
use Rattle.block_table.specs.declared.Block.{Block}
use Rattle.circuit.specs.declared.Pos.{Pos}
use Rattle.build.specs.declared.Pending.{Pending}
use Rattle.build.specs.declared.build.Build.TheInside.{Inside}
use Rattle.build.specs.Plan.{Plan, found_cell, cell_of}
use Rattle.build.specs.Places.{found-cell_of}
use Rattle.build.specs.Stored.{levels_of, plan_of}
use Rattle.build.specs.Edits.{pending_elsewhere, with_block, with_level, with_pending}
use Rattle.build.proofs.StoredLevels.{levels_of-set, levels_of-full, levels_of-filled}

-- the build that the fields mean, with other blocks, levels and ticks
abbrev pub with_fields : Inside → List Block → List ℕ → List Pending → Plan
with_fields a blocks levels ticks = plan_of a.width a.height a.length a.data_version blocks levels ticks

abbrev pub meant : Inside → Plan
meant a = with_fields a a.blocks.items a.levels.items a.pending

abbrev pub with_ticks : Inside → List Pending → Plan
with_ticks a ticks = with_fields a a.blocks.items a.levels.items ticks

abbrev pub cells_of : Inside → ℕ
cells_of a = a.width * (a.length * a.height)

-- the cell that was found is that of the place
same_cell : (b now : Plan) (p : Pos) (cell : ℕ) → b ≡ now → Some cell ≡ found_cell now p → cell ≡ cell_of b p
same_cell b now p cell is found = found-cell_of b p cell (found ∙ ap (λ (c : Plan). found_cell c p) (sym is))

pub block_fields : (a : Inside) (levels : List ℕ) (ticks : List Pending) (now : Plan) (p : Pos) (cell : ℕ) (block : Block) →
    meant a ≡ now → Some cell ≡ found_cell now p → levels ≡ set a.levels.items cell 0 → ticks ≡ pending_elsewhere p a.pending →
    with_fields a (set a.blocks.items cell block) levels ticks ≡ with_block now p block
unfolding with_block
block_fields a levels ticks now p cell block is found cleared forgotten =
    let here : cell ≡ cell_of (meant a) p = same_cell (meant a) now p cell is found in
    let zero_there : levels_of (cells_of a) levels ≡ set (levels_of (cells_of a) a.levels.items) (cell_of (meant a) p) 0 =
    ap (levels_of (cells_of a)) cleared ∙ levels_of-set (cells_of a) cell a.levels.items ∙ ap (λ (i : ℕ). set (levels_of (cells_of a) a.levels.items) i 0) here in
    let edited : with_fields a (set a.blocks.items cell block) levels ticks ≡ with_block (meant a) p block =
    λ i. record { width = a.width; height = a.height; depth = a.length; blocks = set a.blocks.items (here i) block; levels = zero_there i; pending = forgotten i; data_version = a.data_version } in
    edited ∙ ap (λ (c : Plan). with_block c p block) is

pub level_fields : (a : Inside) (levels : List ℕ) (now : Plan) (p : Pos) (cell level cells : ℕ) →
    meant a ≡ now → Some cell ≡ found_cell now p → length (levels_of (cells_of a) a.levels.items) ≡ cells_of a → cells ≡ cells_of a →
    levels ≡ take cells a.levels.items ++ replicate (cells - length a.levels.items) 0 →
    with_fields a a.blocks.items (set levels cell level) a.pending ≡ with_level now p level
unfolding with_level
level_fields a levels now p cell level cells is found full count filled =
    let here : cell ≡ cell_of (meant a) p = same_cell (meant a) now p cell is found in
    let same : levels ≡ levels_of (cells_of a) a.levels.items =
    filled ∙ ap (λ (n : ℕ). take n a.levels.items ++ replicate (n - length a.levels.items) 0) count ∙ levels_of-filled (cells_of a) a.levels.items full in
    let each : length (set levels cell level) ≡ cells_of a = length-set levels cell level ∙ ap (λ (xs : List ℕ). length xs) same ∙ full in
    let set_there : levels_of (cells_of a) (set levels cell level) ≡ set (levels_of (cells_of a) a.levels.items) (cell_of (meant a) p) level =
    levels_of-full (cells_of a) (set levels cell level) each ∙ ap (λ (xs : List ℕ). set xs cell level) same ∙ ap (λ (i : ℕ). set (levels_of (cells_of a) a.levels.items) i level) here in
    let edited : with_fields a a.blocks.items (set levels cell level) a.pending ≡ with_level (meant a) p level =
    λ i. record { width = a.width; height = a.height; depth = a.length; blocks = a.blocks.items; levels = set_there i; pending = a.pending; data_version = a.data_version } in
    edited ∙ ap (λ (c : Plan). with_level c p level) is

pub pending_fields : (a : Inside) (ticks : List Pending) (now : Plan) (tick : Pending) → meant a ≡ now → ticks ≡ a.pending ++ tick ∷ [] →
    with_ticks a ticks ≡ with_pending now tick
unfolding with_pending
pending_fields a ticks now tick is more =
    let edited : with_ticks a ticks ≡ with_pending (meant a) tick = ap (with_ticks a) more in
    edited ∙ ap (λ (c : Plan). with_pending c tick) is
