use Rattle.std.proofs.Common.{take, refl, arith}
use Rattle.std.proofs.lemmas.List.{length-take-le}
use Rattle.view_text.proofs.Mending.{one_more, all_of_them}
use Rattle.view_text.proofs.values.make_anew.Goals as goal

pub loop-index-preserved : goal.loop-index-preserved
loop-index-preserved c =
    let inv = c.loop-index.invariant in
    let front = length-take-le 32 c.args.line.now.items c.requires.head in
    record {
      first = one_more (take 32 c.args.line.now.items) c.loop-index.line.items c.loop-index.ends c.args.values.now c.push_value.new.line.items c.loop-index.index _ c.len.result
          inv.first front c.loop-index-test.true (omega arith) refl c.push_value.ensures.text (omega arith);
      short = omega (arith, inv.short, c.push_value.ensures.short);
      room = omega (arith, inv.room, c.push_value.ensures.room);
    }

pub returns-clause-values : goal.returns-clause-values
returns-clause-values c =
    let front = length-take-le 32 c.args.line.now.items c.requires.head in
    all_of_them (take 32 c.args.line.now.items) c.loop-index.line.items c.loop-index.ends c.args.values.now c.append.new.line.items c.loop-index.index
    c.loop-index.invariant.first front c.loop-index-test.false (omega arith) c.append.ensures.items
