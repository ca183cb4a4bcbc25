use Rattle.std.proofs.Common.{ℕ, List, ap, sym, subst, ◌∙◌}
use Rattle.report.specs.declared.Cause.{Cause}
use Rattle.report.specs.ViewLine.{view_line}
use Rattle.rp_io.specs.Causes.{WrotePrefix}
use Rattle.rp_io.proofs.Written.{prefix_more, prefix_after}
use Rattle.player.specs.Moments.{moment_after}
use Rattle.player.proofs.Going.{on_err_holds, on_err_then}
use Rattle.player.proofs.plays.put_step.Goals as goal

pub returns-in_err-put_noted-clause-front : goal.returns-in_err-put_noted-clause-front
returns-in_err-put_noted-clause-front g c time = on_err_holds c.from_residual.result _ (prefix_more _ _ (g.P.Plays.noted c.args.player.now) _ c.in_err-put_noted.ensures.front)

pub returns-clause-front : goal.returns-clause-front
returns-clause-front g c time =
    let before = g.O.Sink.written c.args.out.now in
    let mid = g.O.Sink.written c.put_noted.new.out in
    let now = g.O.Sink.written c.put.new.out in
    let shown = c.args.shown.now in
    let line = ap (λ (t : ℕ). view_line t c.cause_after.result shown) c.time.ensures
    ∙ ap (λ (why : Cause). view_line (g.P.Plays.state c.args.player.now).time why shown) (c.cause_after.ensures time) in
    on_err_then c.put.result _ _
    (λ front. prefix_after before mid now (g.P.Plays.noted c.args.player.now) _ c.in_ok-put_noted.ensures.all (subst (λ (bytes : List ℕ). WrotePrefix mid now bytes) line front)) c.put.ensures.front
