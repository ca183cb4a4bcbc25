use Rattle.std.specs.Vec.{with_items}
use Rattle.std.specs.Prelude.{All}
use Rattle.std.proofs.lemmas.List.{with_items_is}
use Rattle.std.proofs.Common.{◌≡◌, List, length, sym, ap, subst, ◌∙◌, arith}
use Rattle.circuit.specs.declared.Cell.{Cell}
use Rattle.cell_counts.specs.Held.{IsSoon}
use Rattle.replay_engine.specs.Things.{state_by}
use Rattle.replay_engine.proofs.Steps.{all-stored}
use Rattle.replay_engine.proofs.Starting.{cells_soon}
use Rattle.replay_engine.proofs.Storing.{stored_all}
use Rattle.replay_engine.proofs.stored.stored_cells.Goals as goal

pub returns-clause-stored : goal.returns-clause-stored
returns-clause-stored c =
    let m = c.args.things.now in
    let cells : (with_items c.loop-number.cells c.put_ticks.new.cells).items ≡ c.put_ticks.new.cells =
    with_items_is c.loop-number.cells c.put_ticks.new.cells (c.put_ticks.auto.cells ∙ ap (λ (ps : List Cell). length ps) c.deref_mut.ensures.value ∙ sym c.loop-number.cells.ok.0) in
    ap (λ (cs : List Cell). state_by m 0 cs) cells ∙ all-stored m c.count.ensures.numbered c.put_ticks.new.cells (stored_all m c.put_ticks.new.cells c.put_ticks.ensures)

pub returns-clause-soon : goal.returns-clause-soon
returns-clause-soon c =
    let m = c.args.things.now in
    let cells : (with_items c.loop-number.cells c.put_ticks.new.cells).items ≡ c.put_ticks.new.cells =
    with_items_is c.loop-number.cells c.put_ticks.new.cells (c.put_ticks.auto.cells ∙ ap (λ (ps : List Cell). length ps) c.deref_mut.ensures.value ∙ sym c.loop-number.cells.ok.0) in
    let long : length c.put_ticks.new.cells ≡ length m.spots = c.put_ticks.auto.cells ∙ ap (λ (ps : List Cell). length ps) c.deref_mut.ensures.value ∙ omega (arith, c.loop-number.invariant.whole) in
    subst (All (IsSoon 0)) (sym cells) (cells_soon m c.count.ensures.numbered c.put_ticks.new.cells long (stored_all m c.put_ticks.new.cells c.put_ticks.ensures))
