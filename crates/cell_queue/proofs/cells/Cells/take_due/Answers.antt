use Rattle.std.proofs.Common.{◌≡◌, ◌<◌, refl, ap, subst, sym, ◌∙◌, List}
use Rattle.circuit.specs.declared.Cell.{Cell}
use Rattle.cell_queue.specs.Held.{Holding, cell_of, IsFirst, NoneNow, rested}
use Rattle.std.specs.Prelude.{slice_set}
use Rattle.tick_queue.specs.RingLaws.{ring_in_time}
use Rattle.cell_queue.proofs.HeldSteps.{first_is_now, inside_where, takes_first, none_now, held_taken}
use Rattle.cell_queue.proofs.cells.Cells.take_due.Goals as goal

pub index_mut-requires : goal.index_mut-requires
index_mut-requires c = subst (λ n. c.in-Some.key < n) (sym c.self.inside.cells.ok.0) (inside_where c.self.inside.cells.items c.in-Some.key (first_is_now _ _ _ _ _ c.in-Some.key c.self.inside.cells.items c.self.invariant c.in-Some.ensures.taken).0.waits)

pub invariant_of-self : goal.invariant_of-self
invariant_of-self c = held_taken _ _ _ _ _ c.in-Some.key c.self.inside.cells.items _ c.self.invariant c.in-Some.ensures.taken refl

pub returns-in-Some-clause-taken : goal.returns-in-Some-clause-taken
returns-in-Some-clause-taken c =
    let value : c.cell_at-value.result ≡ cell_of c.self.inside.cells.items c.in-Some.key = c.cell_at-value.ensures ∙ ap (λ (l : List Cell). cell_of l c.in-Some.key) c.deref.ensures.value in (
      subst (λ (h : Holding). IsFirst h c.in-Some.key) c.self.view_is (takes_first _ _ _ _ _ c.in-Some.key c.self.inside.cells.items c.self.invariant c.in-Some.ensures.taken),
      (λ i. record { time = c.take_first.ensures.time i; cells = slice_set c.self.inside.cells.items c.in-Some.key (rested (value i)) })
          ∙ ap (λ (h : Holding). record { time = h.time; cells = slice_set h.cells c.in-Some.key (rested (cell_of h.cells c.in-Some.key)) }) c.self.view_is,
    )

pub returns-in-None-clause-taken : goal.returns-in-None-clause-taken
returns-in-None-clause-taken c = (
  (λ i. record { time = c.take_first.ensures.time i; cells = c.self.inside.cells.items }) ∙ c.self.view_is,
  subst NoneNow c.self.view_is (none_now _ _ _ c.self.inside.cells.items c.self.invariant (ring_in_time _ _) c.in-None.ensures.taken.none),
)
