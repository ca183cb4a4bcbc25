use Rattle.std.proofs.Common.{◌≡◌, ℕ, Option, Some, None, sym, subst, ◌∙◌, below_more, refl}
use Rattle.std.specs.Prelude.{MatchOption, ◌+◌}
use Rattle.tick_queue.specs.Ticks.{first_at}
use Rattle.tick_queue.proofs.TickSteps.{without-None}
use Rattle.cell_queue.proofs.cells.take_first.Goals as goal

none_of : {A : Type 0} (o : Option A) → ((x : A) → o ≡ Some x → ⊥) → o ≡ None
none_of None h = refl
none_of (Some x) h = absurd (h x refl)

pub loop-priority-preserved : goal.loop-priority-preserved
loop-priority-preserved g c =
    let inv = c.loop-priority.invariant in
    let none : c.take.result ≡ None = none_of c.take.result c.in_default.not-Some in
    let first : first_at (g.Q.Queue.time c.loop-priority.queue) c.loop-priority.priority (g.Q.Queue.ticks c.loop-priority.queue) ≡ None = sym c.take.ensures.first ∙ none in
    let room : g.Q.Queue.spare c.take.new.self ≡ g.Q.Queue.spare c.loop-priority.queue = subst (λ (o : Option ℕ). MatchOption o (g.Q.Queue.spare c.take.new.self ≡ g.Q.Queue.spare c.loop-priority.queue) (λ _. g.Q.Queue.spare c.take.new.self ≡ g.Q.Queue.spare c.loop-priority.queue + 1)) none c.take.ensures.room in
    record {
      ticks = c.take.ensures.rest ∙ without-None (g.Q.Queue.time c.loop-priority.queue) c.loop-priority.priority (g.Q.Queue.ticks c.loop-priority.queue) first ∙ inv.ticks;
      spare = room ∙ inv.spare;
      time = c.take.ensures.same_time ∙ inv.time;
      none = below_more (λ priority. first_at (g.Q.Queue.time c.args.queue.now) priority (g.Q.Queue.ticks c.args.queue.now) ≡ None) c.loop-priority.priority inv.none
          (subst (λ t. first_at t c.loop-priority.priority (g.Q.Queue.ticks c.args.queue.now) ≡ None) inv.time
          (subst (λ l. first_at (g.Q.Queue.time c.loop-priority.queue) c.loop-priority.priority l ≡ None) inv.ticks first));
    }
