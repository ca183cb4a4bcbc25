use Rattle.std.proofs.Common.{◌≡◌, ℕ, List, length, ap, ◌∙◌, arith}
use Rattle.wire_net.specs.Net.{cell_at}
use Rattle.wiring.specs.Wired.{level_cells}
use Rattle.world_engine.specs.Running.{given_by}
use Rattle.world_engine.proofs.BaseSteps.{cell-row, cell-short}
use Rattle.world_engine.proofs.bases.LevelNetNet.feeder_count.Goals as goal

pub overflow_cast-result : goal.overflow_cast-result
overflow_cast-result c =
    let m = c.args.self.now.things.now in
    let given = given_by m c.args.self.now.cells.now.cells in
    let row : length c.feeders.result.now ≡ length ((cell_at (level_cells m given) c.args.cell).feeders) =
    ap (λ (xs : List ℕ). length xs) (c.feeders.ensures ∙ cell-row m given c.args.self.now.wiring.now.feeders c.args.self.now.fed c.args.cell) in
    omega (arith, row, cell-short m given c.args.cell)

pub returns : goal.returns
returns c =
    let m = c.args.self.now.things.now in
    let given = given_by m c.args.self.now.cells.now.cells in
    ap (λ (xs : List ℕ). length xs) (c.feeders.ensures ∙ cell-row m given c.args.self.now.wiring.now.feeders c.args.self.now.fed c.args.cell)
