use Rattle.std.proofs.Common.{List, ℕ, [], ◌∷◌, ◌++◌, ap, ◌∙◌}
use Rattle.circuit.specs.declared.Pos.{Pos}
use Rattle.input_search.specs.CellLists.{cells_of}
use Rattle.wiring.proofs.Joined.{joined_all}
use Rattle.input_search.proofs.JoinedCells.{cells_joined}
use Rattle.input_search.proofs.wires.push_cells.Goals as goal

pub returns : goal.returns
returns c =
    joined_all (λ (p : Pos). cells_of c.args.build.now (p ∷ [])) c.args.places.now c.loop-pos.pos-index c.args.cells.now.items c.loop-pos.cells.items c.loop-pos-test.false c.loop-pos.invariant
    ∙ ap (λ (cells : List ℕ). c.args.cells.now.items ++ cells) (cells_joined c.args.build.now c.args.places.now)
