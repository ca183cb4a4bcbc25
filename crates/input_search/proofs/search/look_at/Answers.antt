use Rattle.std.proofs.Common.{◌≡◌, ℕ, List, length, sym, subst, ◌∙◌}
use Rattle.build.specs.Plan.{Plan}
use Rattle.input_search.specs.Rows.{AreBelow, AreListed}
use Rattle.input_search.specs.Wiring.{fed_row, read_row}
use Rattle.input_search.proofs.WireNumbers.{fed-below}
use Rattle.input_search.proofs.SourceCells.{reads_listed}
use Rattle.input_search.proofs.search.look_at.Goals as goal

pub gather_cells-requires-clause-listed : goal.gather_cells-requires-clause-listed
gather_cells-requires-clause-listed c =
    let b : Plan = c.args.build.now in
    let row : c.row.result.now ≡ read_row b c.args.wire = c.row.ensures ∙ c.in_ok-row.ensures.rows.read in
    subst (AreListed c.rows_of.new.self.sources) (sym row)
    (subst (λ (listed : List ℕ). AreListed listed (read_row b c.args.wire)) (sym c.in_ok-row.ensures.wiring.sources) (reads_listed b c.args.wire))

pub gather_row-requires : goal.gather_row-requires
gather_row-requires c =
    let b : Plan = c.args.build.now in
    let row : c.row-2.result.now ≡ fed_row b c.args.wire = c.row-2.ensures ∙ c.in_ok-row.ensures.rows.fed in
    subst (AreBelow (length c.args.met.now)) (sym row) (subst (λ (n : ℕ). AreBelow n (fed_row b c.args.wire)) (sym c.requires.met) (fed-below b c.args.wire))
