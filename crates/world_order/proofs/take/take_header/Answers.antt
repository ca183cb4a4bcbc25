use Rattle.std.proofs.Common.{◌≡◌, ◌+◌, ℕ, refl, ◌∙◌, ap, arith}
use Rattle.world_order.specs.Reading.{IsBadAmong}
use Rattle.world_order.proofs.HeaderSteps.{header_ended, header_bad, header_on, first_within, slice_long}
use Rattle.world_order.proofs.Pieces.{err_holds}
use Rattle.world_order.proofs.take.take_header.Goals as goal

pub line_len-requires : goal.line_len-requires
line_len-requires c =
    let lined = c.requires.lined in
    header_ended c.args.header.now c.args.text.now c.loop-front.front c.loop-front-test.true lined.lines lined.each (c.loop-front.invariant.lines lined.lines lined.each lined.is)

pub loop-front-smaller : goal.loop-front-smaller
loop-front-smaller c =
    let w = first_within c.args.header.now c.loop-front.front.at c.line_len.result c.line_len.ensures in
    let long = slice_long c.args.header.now c.loop-front.front.at c.line_len.result w.1 in
    omega (arith, w.0, w.1, long, c.in_ok-take_line.ensures.on, c.loop-front-test.true)

pub loop-front-preserved : goal.loop-front-preserved
loop-front-preserved c =
    let front = c.loop-front.front in
    let inv = c.loop-front.invariant in
    let w = first_within c.args.header.now front.at c.line_len.result c.line_len.ensures in
    let long = slice_long c.args.header.now front.at c.line_len.result w.1 in
    let at : c.take_line.new.front.at ≡ front.at + c.line_len.result = c.in_ok-take_line.ensures.on ∙ ap (λ (n : ℕ). front.at + n) long in
    let ok = c.in_ok-take_line.ensures.ok in
    record {
      front = ok.is;
      tick = omega (arith, ok.tick, inv.tick);
      fires = omega (arith, ok.fire, inv.fires);
      within = omega (arith, at, w.1);
      lines = λ lines e is. header_on c.args.header.now c.args.text.now front lines e (inv.lines lines e is) c.line_len.result (front.at + c.line_len.result) c.line_len.ensures refl c.take_line.new.front at ok;
    }

pub returns-in_err-take_line-clause-refused : goal.returns-in_err-take_line-clause-refused
returns-in_err-take_line-clause-refused c = λ lines e is.
    let front = c.loop-front.front in
    let inv = c.loop-front.invariant in
    err_holds c.from_residual.result c.in_err-take_line.field-0.0 (IsBadAmong lines c.args.text.now) c.from_residual.ensures.1
    (header_bad c.args.header.now c.args.text.now front lines e (inv.lines lines e is) c.line_len.result (front.at + c.line_len.result) c.line_len.ensures refl c.in_err-take_line.field-0.0 inv.tick
    c.in_err-take_line.ensures.refused)
