-- What the cells of the net of wires are, at a place.
use Rattle.std.proofs.Common.{◌≡◌, ℕ, ◌<◌, true, false, [], length, map, refl, sym, ap, ◌∙◌, slice_index}
use Rattle.std.specs.Prelude.{Some}
use Rattle.std.specs.List.{slice_get}
use Rattle.std.proofs.lemmas.List.{get_or-map}
use Rattle.std.proofs.lemmas.Option.{slice_get_within, get_or_from_slice_get}
use Rattle.circuit.specs.declared.Pos.{Pos}
use Rattle.wire_net.specs.Net.{Cell, cell_at}
use Rattle.wire_shape.specs.Shape.{wire_at}
use Rattle.wire_shape.specs.Feeders.{feeders}
use Rattle.power_rules.specs.RightWires.{source_power}
use Rattle.replay_engine.specs.Things.{Numbered}
use Rattle.replay_engine.specs.WireThings.{number_of, thing_cell, thing_cells, things-at}
use Rattle.replay_engine.specs.Running.{spot}

module _ (m : Numbered) (given : Pos → ℕ) (n : ℕ) (p : Pos) (h : n < length m.spots) (e : p ≡ spot m n) where
  cell-here : cell_at (thing_cells m given) n ≡ thing_cell m given p
  cell-here = things-at m given n _ h ∙ ap (thing_cell m given) (sym e)

  pub base-wire : wire_at m.plan p ≡ true → source_power m.plan given p ≡ (cell_at (thing_cells m given) n).base
  base-wire w = sym (ap (λ (c : Cell). c.base) cell-here ∙ by_wire)
    where
      by_wire : (thing_cell m given p).base ≡ source_power m.plan given p
      by_wire = rw w refl

  pub base-none : wire_at m.plan p ≡ false → 0 ≡ (cell_at (thing_cells m given) n).base
  base-none w = sym (ap (λ (c : Cell). c.base) cell-here ∙ by_none)
    where
      by_none : (thing_cell m given p).base ≡ 0
      by_none = rw w refl

  pub feeders-wire : wire_at m.plan p ≡ true → (cell_at (thing_cells m given) n).feeders ≡ map (number_of m) (feeders m.plan p)
  feeders-wire w = ap (λ (c : Cell). c.feeders) cell-here ∙ by_wire
    where
      by_wire : (thing_cell m given p).feeders ≡ map (number_of m) (feeders m.plan p)
      by_wire = rw w refl

  pub feeders-none : wire_at m.plan p ≡ false → (cell_at (thing_cells m given) n).feeders ≡ []
  feeders-none w = ap (λ (c : Cell). c.feeders) cell-here ∙ by_none
    where
      by_none : (thing_cell m given p).feeders ≡ []
      by_none = rw w refl

-- the number of a feeder is that of the net
pub feeder-number : (m : Numbered) (p q : Pos) (k : ℕ) → slice_get (feeders m.plan p) k ≡ Some q → number_of m q ≡ slice_index (map (number_of m) (feeders m.plan p)) k
feeder-number m p q k e =
    ap (number_of m) (sym (get_or_from_slice_get (feeders m.plan p) k q p e)) ∙ sym (get_or-map (number_of m) (feeders m.plan p) k p 0 (slice_get_within (feeders m.plan p) k q e))
