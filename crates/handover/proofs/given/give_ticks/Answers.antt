use Rattle.std.proofs.Common.{◌≡◌, ◌<◌, ℕ, true, List, Option, sym, ap, ◌∙◌, subst, arith}
use Rattle.build.specs.Plan.{Plan, volume, place_of, is_pending, may_wait}
use Rattle.handover.specs.declared.held.Held.{Held}
use Rattle.handover.specs.GivenBack.{given_tick}
use Rattle.handover.specs.HeldByCell.{in_cell, tick_by, with_ticks_to, with_tick}
use Rattle.handover.proofs.Parts.{with_ticks_to-more, none_before, may_wait-to}
use Rattle.handover.proofs.given.give_ticks.Goals as goal

pub give_tick_in-requires-clause-waits : goal.give_tick_in-requires-clause-waits
give_tick_in-requires-clause-waits c = λ tick e.
    (let b : Plan = c.args.build.now in
    let held : List (Option Held) = c.args.held.now in
    let i : ℕ = c.loop-cell.cell in
    let inside : i < volume b = omega (arith, c.cells-cell-end.ensures.count) in
    let given : c.in_cell.result ≡ in_cell held i = c.in_cell.ensures in
    let same : given_tick (place_of b i) c.in_cell.result ≡ tick_by b held i = ap (given_tick (place_of b i)) given in
    subst (λ (plan : Plan). may_wait plan tick ≡ true) (sym c.loop-cell.invariant) (may_wait-to b held i tick (c.requires.ticking i inside tick (sym same ∙ e))))

pub give_tick_in-requires-clause-none : goal.give_tick_in-requires-clause-none
give_tick_in-requires-clause-none c =
    let is : c.loop-cell.after ≡ with_ticks_to c.args.build.now c.args.held.now c.loop-cell.cell = c.loop-cell.invariant in
    ap (λ (plan : Plan). is_pending plan.pending (place_of c.args.build.now c.loop-cell.cell)) is ∙ none_before c.args.build.now c.args.held.now c.loop-cell.cell c.loop-cell.cell (omega arith)

pub loop-cell-preserved : goal.loop-cell-preserved
loop-cell-preserved c =
    let is : c.loop-cell.after ≡ with_ticks_to c.args.build.now c.args.held.now c.loop-cell.cell = c.loop-cell.invariant in
    let given : c.in_cell.result ≡ in_cell c.args.held.now c.loop-cell.cell = c.in_cell.ensures in
    c.in_ok-give_tick_in.ensures ∙ (λ j. with_tick (is j) (given_tick (place_of c.args.build.now c.loop-cell.cell) (given j))) ∙ with_ticks_to-more c.args.build.now c.args.held.now c.loop-cell.cell
