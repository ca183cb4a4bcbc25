use Rattle.report.specs.FaultLine.{block_line_begin, newline}
use Rattle.rp_io.proofs.Written.{wrote_both, prefix_more, prefix_after}
use Rattle.player.proofs.Going.{on_err_holds, on_ok_then, on_err_then}
use Rattle.redpile_top.proofs.top.put_block.Goals as goal

pub returns-in_err-put_all-clause-front : goal.returns-in_err-put_all-clause-front
returns-in_err-put_all-clause-front g c = on_err_holds c.from_residual.result _ (prefix_more _ _ block_line_begin _ c.in_err-put_all.ensures.front)

pub returns-in_err-put_all-2-clause-front : goal.returns-in_err-put_all-2-clause-front
returns-in_err-put_all-2-clause-front g c =
    on_err_holds c.from_residual-in_err-put_all-2.result _
    (prefix_after _ _ _ block_line_begin _ c.in_ok-put_all.ensures.all (prefix_more _ _ c.args.name.now newline c.in_err-put_all-2.ensures.front))

pub returns-clause-all : goal.returns-clause-all
returns-clause-all g c =
    on_ok_then c.put_all-3.result _ _ (λ h. wrote_both _ _ _ block_line_begin _ c.in_ok-put_all.ensures.all (wrote_both _ _ _ c.args.name.now newline c.in_ok-put_all-2.ensures.all h)) c.put_all-3.ensures.all

pub returns-clause-front : goal.returns-clause-front
returns-clause-front g c =
    on_err_then c.put_all-3.result _ _ (λ h. prefix_after _ _ _ block_line_begin _ c.in_ok-put_all.ensures.all (prefix_after _ _ _ c.args.name.now newline c.in_ok-put_all-2.ensures.all h)) c.put_all-3.ensures.front
