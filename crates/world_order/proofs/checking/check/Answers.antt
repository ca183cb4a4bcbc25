use Rattle.std.proofs.Common.{◌<◌, ◌^◌, length, arith}
use Rattle.circuit.specs.Shows.{steps_of}
use Rattle.world_order.specs.BadLine.{IsBadLine}
use Rattle.world_order.proofs.NoBadLine.{no_bad_line}
use Rattle.world_order.proofs.Scripts.{length-steps_of}
use Rattle.world_order.proofs.Refusing.{told_refusal, bad_line}
use Rattle.world_order.proofs.checking.check.Goals as goal

pub returns-clause-bad : goal.returns-clause-bad
returns-clause-bad c =
    told_refusal (IsBadLine c.args.build.now c.args.script.now c.args.text.now) c.line_at.result c.in-Err.bad.tick c.in-Err.bad.kind
    (bad_line c.in-Ok.memory.replay.plan c.args.build.now c.args.script.now c.args.text.now c.in-Err.bad c.line_at.result c.in-Ok.ensures.plan c.in-Err.ensures.refused c.line_at.ensures)

pub returns-clause-none : goal.returns-clause-none
returns-clause-none c = λ line tick kind is_at order is.
    let b = c.args.build.now in
    let script = c.args.script.now in
    let bad = returns-clause-bad c line tick kind is_at in
    let short = c.in-Ok.ensures.short in
    let few : length (steps_of script.acts) < 2 ^ 63 = omega (arith, length-steps_of script.acts, short.few_acts, short.few_ticks) in
    no_bad_line b c.in-Ok.ensures.whole script few c.args.text.now order is bad.front bad.rest bad.is tick bad.due bad.stands kind bad.has
