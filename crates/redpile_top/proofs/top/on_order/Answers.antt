use Rattle.std.proofs.Common.{refl, ◌∙◌}
use Rattle.redpile_top.proofs.Tellings.{order_ends, read_later, within_read}
use Rattle.redpile_top.proofs.top.on_order.Goals as goal

pub returns-in-Err-check-clause-ends : goal.returns-in-Err-check-clause-ends
returns-in-Err-check-clause-ends g c =
    let b = g.I.Inputs.file c.args.inputs.now c.args.build.now in
    let s = g.I.Inputs.file c.args.inputs.now c.args.script.now in
    let o = g.I.Inputs.file c.args.inputs.now c.args.order.now in
    let same = read_later c.args.order.now (g.I.Inputs.file c.accepted.new.inputs) (g.I.Inputs.file c.args.inputs.now) c.in-Ok-read_whole.text.items c.in-Ok.ensures.files c.in-Ok-read_whole.ensures.whole in
    order_ends b s o _ _ _ _ _ c.in-Ok.found.0 c.in-Ok.found.1 c.in-Ok.ensures.ok c.deref.result.now (λ bytes is. c.deref.ensures.value ∙ same bytes is)
    (within_read o c.in-Ok-read_whole.text.items 268435456 c.in-Ok-read_whole.ensures.within same) c.in-Err-check.refusal c.in-Err-check.ensures.bad c.in-Err-check.ensures.none refl _ c.fault_of_order.ensures
