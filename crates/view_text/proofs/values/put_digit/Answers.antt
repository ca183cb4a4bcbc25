use Rattle.std.proofs.Common.{◌≤◌, ◌-◌, ℕ, slice_index_or, arith}
use Rattle.std.proofs.lemmas.List.Elements.{All-get_or}
use Rattle.view_text.proofs.Mending.{are_alike, end_in_line, values_mended}
use Rattle.view_text.proofs.values.put_digit.Goals as goal

pub overflow_sub-last : goal.overflow_sub-last
overflow_sub-last c = (end_in_line c.args.line.now.items c.args.ends.now c.args.values.now c.args.index c.requires.known c.requires.head c.requires.inside).0

pub index_mut-requires : goal.index_mut-requires
index_mut-requires c =
    let bounds = end_in_line c.args.line.now.items c.args.ends.now c.args.values.now c.args.index c.requires.known c.requires.head c.requires.inside in
    omega (arith, bounds.0, bounds.1)

pub returns-clause-values : goal.returns-clause-values
returns-clause-values c =
    let values = c.args.values.now in
    let bounds = end_in_line c.args.line.now.items c.args.ends.now values c.args.index c.requires.known c.requires.head c.requires.inside in
    let old : slice_index_or values c.args.index 0 ≤ 15 = All-get_or (λ (value : ℕ). value ≤ 15) values c.args.index 0 c.requires.inside c.requires.small in
    values_mended c.args.line.now.items c.args.ends.now values c.args.index c.args.value (slice_index_or c.args.ends.now c.args.index 0 - 1) c.requires.known c.requires.head c.requires.inside
    (are_alike (slice_index_or values c.args.index 0) c.args.value old c.requires.value c.requires.as_long) c.requires.as_long (omega (arith, bounds.0))
