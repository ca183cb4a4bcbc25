-- The things of a running world as a net have small bases.
use Rattle.std.proofs.Common.{ℕ, ◌≤◌, List, length, arith, inl, inr}
use Rattle.std.specs.Prelude.{slice_index_or}
use Rattle.std.proofs.lemmas.Bool.{cases_Bool, cases_lt}
use Rattle.std.proofs.lemmas.List.{get_or-map, length-map}
use Rattle.std.proofs.Math.ListN.{get_or-eq_default}
use Rattle.circuit.specs.declared.Pos.{Pos}
use Rattle.circuit.specs.declared.Cell.{Cell}
use Rattle.wire_net.specs.Net.{no_cell, IsBounded}
use Rattle.wire_shape.specs.Shape.{wire_at}
use Rattle.power_rules.specs.Bounded.{source_power-le}
use Rattle.wiring.specs.Things.{Numbered, origin}
use Rattle.wiring.specs.Wired.{level_cell, level_cells}
use Rattle.world_engine.specs.Given.{given-le}
use Rattle.world_engine.specs.Running.{given_by, AreWithin}

base-le : (m : Numbered) (given : Pos → ℕ) → ((q : Pos) → given q ≤ 15) → (p : Pos) → (level_cell m given p).base ≤ 15
base-le m given h p = elim (cases_Bool (wire_at m.plan p)) [ inl e ↦ rw e (source_power-le m.plan given h p) | inr e ↦ rw e (h p) ]

cells_small : (m : Numbered) (given : Pos → ℕ) → ((q : Pos) → given q ≤ 15) → IsBounded (level_cells m given)
cells_small m given h i = elim (cases_lt i (length m.spots)) [
  | inl l ↦ rw (get_or-map (level_cell m given) m.spots i origin no_cell l) (base-le m given h (slice_index_or m.spots i origin))
  | inr l ↦ rw (get_or-eq_default (level_cells m given) no_cell {n = i} (rw (length-map m.spots (level_cell m given)) l)) (omega arith)
]

pub levels_bounded : (m : Numbered) (cells : List Cell) → AreWithin m cells → IsBounded (level_cells m (given_by m cells))
levels_bounded m cells within = cells_small m (given_by m cells) (given-le m cells within)
