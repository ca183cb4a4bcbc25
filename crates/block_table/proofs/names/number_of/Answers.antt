use Rattle.std.proofs.Common.{◌∙◌, sym}
use Rattle.block_table.specs.Table.{table, number_of}
use Rattle.block_table.proofs.names.number_of.Goals as goal

pub returns-in_err-place : goal.returns-in_err-place
unfolding table number_of
returns-in_err-place c = c.from_residual.ensures ∙ sym c.in_err-place.was ∙ c.place_in_rows.ensures.place

pub returns : goal.returns
unfolding table number_of
returns c = sym c.in_ok-place.was ∙ c.place_in_rows.ensures.place
