use Rattle.std.proofs.Common.{List, ap, ◌∙◌, sym}
use Rattle.std.specs.Prelude.{slice_get}
use Rattle.circuit.specs.declared.Pos.{Pos}
use Rattle.wire_shape.specs.FeederFacts.{feeder_at-wire}
use Rattle.wiring.proofs.Joined.{mapped_more}
use Rattle.input_search.specs.Wiring.{wire_number}
use Rattle.input_search.proofs.wires.push_feeder_numbers.Goals as goal

pub push_number-requires-clause-wire : goal.push_number-requires-clause-wire
push_number-requires-clause-wire c =
    feeder_at-wire c.args.build.now c.args.wire c.get.result c.loop-index.index (ap (λ (ps : List Pos). slice_get ps c.loop-index.index) (sym c.feeders_of-feeders.ensures) ∙ c.get.ensures)

pub loop-index-preserved : goal.loop-index-preserved
loop-index-preserved c =
    mapped_more (wire_number c.args.build.now) c.feeders_of-feeders.result c.loop-index.index c.get.result c.args.row.now.items c.loop-index.row.items c.push_number.new.row.items
    c.get.ensures c.loop-index.invariant c.in_ok-push_number.ensures
