use Rattle.std.proofs.Common.{[], ◌∷◌, refl}
use Rattle.block_table.specs.Table.{table, kind_at}
use Rattle.build.specs.Plan.{in_box, entry}
use Rattle.build.specs.Outputs.{outputs}
use Rattle.build.specs.Roles.{role_at, first_at, base_at, stored}
use Rattle.wire_net.specs.Net.{right_powers, after}
use Rattle.wire_shape.specs.Shape.{connection, points}
use Rattle.wire_shape.specs.Feeders.{fed_from_below, fed_from_beside, fed_from_above, feeders}
use Rattle.power_rules.specs.Power.{weak, strong, charge, read, undusted, read_around, input, measured, lock_power, lateral_power}
use Rattle.power_rules.specs.Readings.{readings_at}
use Rattle.power_rules.specs.RightWires.{source_power, wire_powers}
use Rattle.worked_builds.specs.Words.{at}
use Rattle.worked_builds.specs.Comparators.{composter_and_comparator}
use Rattle.worked_builds.proofs.EveryOrder.{shows_only}
use Rattle.worked_builds.proofs.laws.a_comparator_reads_a_composter.Goals as goal

pub returns : goal.returns
unfolding table kind_at in_box entry outputs role_at first_at base_at stored right_powers after connection points fed_from_below fed_from_beside fed_from_above feeders weak strong charge read undusted read_around input measured lock_power lateral_power readings_at source_power wire_powers
returns c = shows_only composter_and_comparator (at 2 0 0 ∷ []) refl
