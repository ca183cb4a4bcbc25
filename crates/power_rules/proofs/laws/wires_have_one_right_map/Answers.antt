use Rattle.power_rules.specs.WirePowers.{wires_right, wires_unique, fed_from}
use Rattle.power_rules.specs.Bounded.{wire_cells-bounded}
use Rattle.power_rules.proofs.laws.wires_have_one_right_map.Goals as goal

pub returns : goal.returns
returns c = record { right = λ b given h. wires_right b given (wire_cells-bounded b given h); unique = wires_unique; fed = fed_from }
