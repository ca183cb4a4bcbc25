use Rattle.std.proofs.Common.{◌≡◌, ◌<◌, sym, ap, ◌∙◌, subst, arith, slice_index}
use Rattle.std.proofs.lemmas.List.{get_or_default}
use Rattle.cell_counts.specs.Held.{Holding, IsLeast, NoneNow}
use Rattle.cell_counts.proofs.Counting.{least_here, none_here}
use Rattle.cell_counts.proofs.cells.Cells.least.Goals as goal

pub returns-then-index-ne0-clause-least : goal.returns-then-index-ne0-clause-least
returns-then-index-ne0-clause-least c =
    let counts = c.self.inside.counts.items in
    let inside : c.slot_of.result < 64 = c.slot_of.ensures.below in
    let here : slice_index counts c.slot_of.result ≡ c.index.result.now = get_or_default counts c.slot_of.result 0 c.index.result.now (omega (arith, inside, c.self.invariant.long)) ∙ sym c.index.ensures in
    subst (λ (h : Holding). IsLeast h c.loop-priority.priority) c.self.view_is
    (least_here c.self.inside.time counts c.self.inside.cells.items c.loop-priority.priority c.self.invariant (omega (arith, c.loop-priority-test.true))
    (λ none. c.if-index-ne0.true (sym here ∙ ap (slice_index counts) c.slot_of.ensures.slot ∙ none)) c.loop-priority.invariant.none)

pub returns-clause-none : goal.returns-clause-none
returns-clause-none c = λ none.
    subst NoneNow c.self.view_is
    (none_here c.self.inside.time c.self.inside.counts.items c.self.inside.cells.items c.self.invariant (λ p small. c.loop-priority.invariant.none p (omega (arith, small, c.loop-priority-test.false))))
