use Rattle.std.proofs.Common.{◌+◌, ◌≤◌, ◌<◌, ◌-◌, sym, subst, arith}
use Rattle.std.specs.Prelude.{Ok, Err}
use Rattle.script.specs.Acts.{Meaning, ticks_of}
use Rattle.script.specs.declared.lines.Said.TheVariants.{Nothing, Mark, Act as Acts}
use Rattle.script.proofs.ReadLines.{HasRead, HasLine, HasRead-begin, HasRead-nothing, HasRead-mark, HasRead-act, weight_fits-line, script_of-bad, script_of-many, script_of-end}
use Rattle.script.proofs.reading.read_script_on.Goals as goal

pub loop-bytes-init : goal.loop-bytes-init
loop-bytes-init g c =
    subst (λ (script : Meaning). HasRead (g.T.Targets.takes c.args.targets.now) (g.T.Targets.wire c.args.targets.now) c.args.text.now c.args.text.now 0 0 script)
    (sym c.new-script.ensures) (HasRead-begin (g.T.Targets.takes c.args.targets.now) (g.T.Targets.wire c.args.targets.now) c.args.text.now)

pub loop-bytes-preserved-in-Ok-Nothing : goal.loop-bytes-preserved-in-Ok-Nothing
loop-bytes-preserved-in-Ok-Nothing g c =
    let says : HasLine (g.T.Targets.takes c.args.targets.now) (g.T.Targets.wire c.args.targets.now) c.loop-bytes.rest.now c.in-Some.bytes.now c.in-Some.others.now (Ok Nothing) =
    record { split = c.in-Some.ensures.lines; shorter = c.in-Some.ensures.shorter; says = cc } in
    HasRead-nothing _ _ _ _ _ _ _ _ _ c.loop-bytes.invariant says

pub loop-bytes-preserved-in-Continue-1 : goal.loop-bytes-preserved-in-Continue-1
loop-bytes-preserved-in-Continue-1 g c =
    let says : HasLine (g.T.Targets.takes c.args.targets.now) (g.T.Targets.wire c.args.targets.now) c.loop-bytes.rest.now c.in-Some.bytes.now c.in-Some.others.now (Ok (Mark c.in-Ok-Mark.pos)) =
    record { split = c.in-Some.ensures.lines; shorter = c.in-Some.ensures.shorter; says = cc } in
    subst (λ (script : Meaning). HasRead (g.T.Targets.takes c.args.targets.now) (g.T.Targets.wire c.args.targets.now) c.args.text.now c.in-Some.others.now (c.loop-bytes.line + 1) c.loop-bytes.ticks script)
    (sym c.in_ok-mark-in-Ok-Mark.ensures.ok) (HasRead-mark _ _ _ _ _ _ _ _ _ _ c.loop-bytes.invariant says)

pub returns-then-count-ticks-clause-refused : goal.returns-then-count-ticks-clause-refused
returns-then-count-ticks-clause-refused g c =
    let says : HasLine (g.T.Targets.takes c.args.targets.now) (g.T.Targets.wire c.args.targets.now) c.loop-bytes.rest.now c.in-Some.bytes.now c.in-Some.others.now (Ok (Acts c.in-Ok-Act.act)) =
    record { split = c.in-Some.ensures.lines; shorter = c.in-Some.ensures.shorter; says = cc } in
    let much : 100000 - c.loop-bytes.ticks < ticks_of c.in-Ok-Act.act = omega (arith, c.if-count-ticks.true, c.ticks_of-count.ensures) in
    script_of-many _ _ _ _ _ _ _ _ _ _ c.loop-bytes.invariant says much

pub push_plain-requires-clause-weight : goal.push_plain-requires-clause-weight
push_plain-requires-clause-weight g c =
    let says : HasLine (g.T.Targets.takes c.args.targets.now) (g.T.Targets.wire c.args.targets.now) c.loop-bytes.rest.now c.in-Some.bytes.now c.in-Some.others.now (Ok (Acts c.in-Ok-Act.act)) =
    record { split = c.in-Some.ensures.lines; shorter = c.in-Some.ensures.shorter; says = cc } in
    weight_fits-line _ _ _ _ _ _ says

pub loop-bytes-preserved : goal.loop-bytes-preserved
loop-bytes-preserved g c =
    let says : HasLine (g.T.Targets.takes c.args.targets.now) (g.T.Targets.wire c.args.targets.now) c.loop-bytes.rest.now c.in-Some.bytes.now c.in-Some.others.now (Ok (Acts c.in-Ok-Act.act)) =
    record { split = c.in-Some.ensures.lines; shorter = c.in-Some.ensures.shorter; says = cc } in
    let small : ticks_of c.in-Ok-Act.act ≤ 100000 - c.loop-bytes.ticks = omega (arith, c.if-count-ticks.false, c.ticks_of-count.ensures) in
    let read = HasRead-act _ _ _ _ _ _ _ _ _ _ c.loop-bytes.invariant says small in
    rw (c.in_ok-push_plain-in-Ok-Act.ensures.ok, c.ticks_of-count.ensures) read

pub returns-in-Err-clause-refused : goal.returns-in-Err-clause-refused
returns-in-Err-clause-refused g c =
    let says : HasLine (g.T.Targets.takes c.args.targets.now) (g.T.Targets.wire c.args.targets.now) c.loop-bytes.rest.now c.in-Some.bytes.now c.in-Some.others.now (Err c.in-Err.kind) =
    record { split = c.in-Some.ensures.lines; shorter = c.in-Some.ensures.shorter; says = c.in-Err.ensures } in
    script_of-bad _ _ _ _ _ _ _ _ _ _ c.loop-bytes.invariant says

pub returns-clause-ok : goal.returns-clause-ok
returns-clause-ok g c = script_of-end _ _ _ _ _ _ _ c.loop-bytes.invariant c.in_default.ensures.lines
